-- Debits: the laws of the code, and what is held of the 06s kept.
use Prim.Native.Nat.{ℕ, ◌+◌, ◌≤◌}
use mathlib.Core.Path.{◌≡◌, refl, sym, ◌∙◌, ap}
use mathlib.Core.Bool.{Bool, true, false, not, cond}
use mathlib.Core.List.{List, [], ◌∷◌, ◌++◌}
use mathlib.Core.Option.{Option, none, some}
use native.Mathlib.Omega.{arith}
use lib.Dec.{eqb}
use borrow.Author.Tests.{not-false}
use Rattle.std.specs.Prelude as std
use Rattle.measures.specs.Refusals.{unless, first_refusal}
use Rattle.measures.specs.Rounding.{upward}
use Rattle.measures.specs.declared.Counted.{Counted}
use Rattle.measures.proofs.Rounding.{upward_most}
use Rattle.measures.proofs.Tests.{both_sides, parts, neither}
use Rattle.benefits.specs.Steps.{pension_debit, pension_debit_way, lump_debit}
use Rattle.benefits.specs.Limits.{highest_pot}
use Rattle.benefits.proofs.Limits.{debit_limit}
use Rattle.frames.specs.declared.Debit.{Debit}
use Rattle.frames.specs.Limits.{is_section, debit_refusal}
use Rattle.frames.proofs.Accepted.{debit_good}
use Rattle.rules.specs.Rules.{last_of, after_debit}
use Rattle.rules.specs.Working.{debit_for, debit_of, debit_way}
use Rattle.rules.proofs.Ends.{last_end, debit_end, or_else_lem}
use Rattle.rules.specs.declared.SchemeAmounts.{SchemeAmounts}
use Rattle.debits.specs.declared.DebitsState.{DebitsState}
use Rattle.debits.specs.Debits.{no_debits, above_previous, debit_fields, debit_by, with_debit, pension_if, lump_if, debits_of, covered, highest_debit, DebitsBounds}
use native.Mathlib.Nat.{le_trans, le_of_eq}
use Rattle.measures.specs.Lists.{All}

-- ---- the code

-- each debit is at most what it is taken from
pub record Fit (gross debits : SchemeAmounts) : Type 0 where
  pub pension2015 : debits.pension2015.0 ≤ gross.pension2015.0
  pub pension1995 : debits.pension1995.0 ≤ gross.pension1995.0
  pub lump_sum : debits.lump_sum.0 ≤ gross.lump_sum.0

-- the test that the code reads
pub debits_fit_lem : (gross debits : SchemeAmounts) (t : Bool) → t ≡ covered gross debits → not t ≡ false → Fit gross debits
debits_fit_lem gross debits t e n =
    let h : covered gross debits ≡ true = sym e ∙ not-false t n in
    record { pension2015 = search parts; pension1995 = search parts; lump_sum = search parts }

-- the pot and the factor of an 06 that is not refused
pub fields_good : (section : ℕ) (s : DebitsState) (d : Debit) → debit_fields section s d ≡ 0 → (d.pot.0 ≤ highest_pot) × (1 ≤ d.factor)
unfolding debit_fields
fields_good section s d e = let g = debit_good d section (neither _ _ e).0 in (g.pot, g.factor)

-- the debit of an 06 is within bounds
amount_within : (section : ℕ) (s : DebitsState) (before : Counted) (scheme : ℕ) (d : Debit) → debit_fields section s d ≡ 0 → before.amount.0 ≤ highest_debit → (debit_by before scheme d).amount.0 ≤ highest_debit
unfolding debit_by
amount_within section s before scheme d e h =
    let g = fields_good section s d e in
    both_sides (λ (c : Counted). c.amount.0 ≤ highest_debit) (eqb d.scheme scheme) _ before (debit_limit d.pot.0 d.factor g.0 g.1) h

ups_within : (before : Counted) (scheme : ℕ) (d : Debit) → before.ups ≤ 1 → (debit_by before scheme d).ups ≤ 1
unfolding debit_by
ups_within before scheme d h =
    both_sides (λ (c : Counted). c.ups ≤ 1) (eqb d.scheme scheme) _ before (upward_most (pension_debit_way d.pot.0 d.factor)) h

-- and so are the debits with it
pub debit_within : (section : ℕ) (s : DebitsState) (d : Debit) (now2015 now1995 : Counted) → DebitsBounds s → debit_fields section s d ≡ 0
    → now2015 ≡ debit_by s.pension2015 0 d → now1995 ≡ debit_by s.pension1995 1 d
    → DebitsBounds (record { previous = std.Some d.scheme; pension2015 = now2015; pension1995 = now1995 })
debit_within section s d now2015 now1995 b e first second =
    record {
      pension1995 = rw second (amount_within section s s.pension1995 1 d e b.pension1995);
      ups2015 = rw first (ups_within s.pension2015 0 d b.ups2015);
      ups1995 = rw second (ups_within s.pension1995 1 d b.ups1995);
    }

-- no more than it is
pub pension_if_most : (section debit most : ℕ) → debit ≤ most → pension_if section debit ≤ most
unfolding pension_if
pension_if_most section debit most h = both_sides (λ (n : ℕ). n ≤ most) (is_section section) debit 0 h (omega arith)

-- one upward rounding of each at most
pub debits_ups : (section : ℕ) (s : DebitsState) → DebitsBounds s → (debits_of section s).ups ≤ 2
unfolding debits_of
debits_ups section s b = omega (arith, b.ups2015, pension_if_most section s.pension1995.ups 1 b.ups1995)

-- ---- what is held of the 06s kept

-- a debit, and whether it was rounded up
abbrev counted_of : Option Debit → Counted
counted_of o = record { amount = record { 0 = debit_of o }; ups = upward (debit_way o) }

abbrev previous_of : Option Debit → std.Option ℕ
previous_of none = std.None
previous_of (some d) = std.Some d.scheme

pub record HoldsDebits (s : DebitsState) (ds : List Debit) : Type 0 where
  pub previous : s.previous ≡ previous_of (last_of ds)
  pub pension2015 : s.pension2015 ≡ counted_of (debit_for 0 ds)
  pub pension1995 : s.pension1995 ≡ counted_of (debit_for 1 ds)

pub debits_none : HoldsDebits no_debits []
unfolding last_of debit_for debit_of debit_way upward
debits_none = record { previous = refl; pension2015 = refl; pension1995 = refl }

-- what holds of the 06s that were not refused
abbrev pub GoodDebit : ℕ → Debit → Type 0
GoodDebit section d = debit_refusal d section ≡ 0

after_last : (o : Option Debit) (d : Debit) → above_previous (previous_of o) d.scheme ≡ after_debit o d
unfolding after_debit
after_last none d = refl
after_last (some x) d = refl

-- the debit of a scheme with one 06 more
debit_next : (o : Option Debit) (d : Debit) (t : Bool) → cond t (record { amount = record { 0 = pension_debit d.pot.0 d.factor }; ups = upward (pension_debit_way d.pot.0 d.factor) }) (counted_of o) ≡ counted_of (cond t (some d) o)
unfolding debit_of debit_way
debit_next o d true = refl
debit_next o d false = refl

debit_by_lem : (scheme : ℕ) (ds : List Debit) (d : Debit) → debit_by (counted_of (debit_for scheme ds)) scheme d ≡ counted_of (debit_for scheme (ds ++ d ∷ []))
unfolding debit_by
debit_by_lem scheme ds d = debit_next (debit_for scheme ds) d (eqb d.scheme scheme) ∙ ap counted_of (sym (debit_end scheme ds d))

module _ (s : DebitsState) (ds : List Debit) (h : HoldsDebits s ds) where
  -- the refusals agree
  pub debit_agrees : (section : ℕ) (d : Debit) → debit_fields section s d ≡ first_refusal (debit_refusal d section) (unless (after_debit (last_of ds) d) 11)
  unfolding debit_fields
  debit_agrees section d = rw (h.previous, after_last (last_of ds) d) refl

  -- an 06 joins those kept
  pub debit_kept : (d : Debit) → HoldsDebits (with_debit s d) (ds ++ d ∷ [])
  unfolding with_debit
  debit_kept d =
      record {
        previous = ap previous_of (sym (last_end ds d));
        pension2015 = ap (λ (p : Counted). debit_by p 0 d) h.pension2015 ∙ debit_by_lem 0 ds d;
        pension1995 = ap (λ (p : Counted). debit_by p 1 d) h.pension1995 ∙ debit_by_lem 1 ds d;
      }

  -- ---- closing

  pub debits_are : (section : ℕ) → debits_of section s ≡ record {
    pension2015 = record { 0 = debit_of (debit_for 0 ds) };
    pension1995 = record { 0 = cond (is_section section) (debit_of (debit_for 1 ds)) 0 };
    lump_sum = record { 0 = cond (eqb section 1) (lump_debit (cond (is_section section) (debit_of (debit_for 1 ds)) 0)) 0 };
    ups = upward (debit_way (debit_for 0 ds)) + cond (is_section section) (upward (debit_way (debit_for 1 ds))) 0;
  }
  unfolding debits_of pension_if lump_if
  debits_are section = rw (h.pension2015, h.pension1995) refl

-- the debits kept are within bounds
debit_bound : (section scheme : ℕ) (ds : List Debit) → All (GoodDebit section) ds → debit_of (debit_for scheme ds) ≤ highest_debit
unfolding debit_for debit_of
debit_bound section scheme [] g = omega arith
debit_bound section scheme (d ∷ ds) g =
    let b = debit_good d section g.0 in
    or_else_lem (λ (o : Option Debit). debit_of o ≤ highest_debit) (debit_for scheme ds) d (debit_bound section scheme ds g.1)
    (debit_limit d.pot.0 d.factor b.pot b.factor) (omega arith) (eqb d.scheme scheme)

module _ (s : DebitsState) (ds : List Debit) (h : HoldsDebits s ds) where
  pub debits_bounds : (section : ℕ) → All (GoodDebit section) ds → DebitsBounds s
  debits_bounds section g =
      record {
        pension1995 = le_trans (le_of_eq (ap (λ (p : Counted). p.amount.0) h.pension1995)) (debit_bound section 1 ds g);
        ups2015 = le_trans (le_of_eq (ap (λ (p : Counted). p.ups) h.pension2015)) (upward_most (debit_way (debit_for 0 ds)));
        ups1995 = le_trans (le_of_eq (ap (λ (p : Counted). p.ups) h.pension1995)) (upward_most (debit_way (debit_for 1 ds)));
      }
