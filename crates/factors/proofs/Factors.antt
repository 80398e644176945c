-- Months early and factors: the laws of the code, and what is held of the 05s kept.
use Prim.Native.Nat.{ℕ, zero, suc, ◌+◌, ◌*◌, ◌-◌, ◌≤◌}
use mathlib.Core.Path.{◌≡◌, refl, sym, ◌∙◌, ap, subst}
use mathlib.Core.Bool.{Bool, true, false, ◌&&◌, ◌||◌, not, cond}
use mathlib.Core.List.{List, [], ◌∷◌, ◌++◌}
use mathlib.Core.Option.{Option, none, some}
use native.Mathlib.Omega.{arith}
use lib.Dec.{eqb}
use lib.IntN.{ℤ, pos, neg_ℤ}
use Rattle.std.specs.Prelude as std
use Rattle.measures.specs.declared.Months.{Months}
use Rattle.measures.specs.Rounding.{rounded, way, upward}
use Rattle.measures.specs.declared.Way.{Way}
use Rattle.measures.proofs.Rounding.{upward_most}
use Rattle.measures.specs.Refusals.{unless, first_refusal}
use Rattle.measures.proofs.Tests.{clash, both_sides, neither}
use Rattle.calendar.specs.declared.MonthsEarly.{MonthsEarly}
use Rattle.calendar.specs.declared.Date.{Date}
use Rattle.calendar.specs.Ranges.{Accepted}
use Rattle.calendar.specs.Dates.{completed_months, months_early, months_of}
use Rattle.calendar.proofs.CountedMonths.{completed, late_months}
use Rattle.benefits.specs.Steps.{reduced, reduced_way}
use Rattle.frames.specs.declared.Member.{Member}
use Rattle.frames.specs.declared.Factor.{Factor}
use Rattle.frames.specs.Limits.{section_pension_age, member_refusal, is_section, factor_refusal}
use Rattle.frames.proofs.Accepted.{member_good, factor_good}
use Rattle.rules.specs.Rules.{given, last_of, after_factor}
use Rattle.rules.specs.Working.{if_positive, early, early2015, early1995, is_for, factor_for, pension_factor, lump_factor, factor_there, reduced_if, reduced_if_way}
use Rattle.rules.proofs.Ends.{last_end, factor_end, or_else_lem}
use Rattle.rules.specs.Amounts.{ups_earned, ups_reduced}
use Rattle.rules.specs.declared.SchemeAmounts.{SchemeAmounts}
use Rattle.factors.specs.declared.PreviousFactor.{PreviousFactor}
use Rattle.factors.specs.declared.FoundFactor.{FoundFactor}
use Rattle.factors.specs.declared.SchemeFactors.{SchemeFactors}
use Rattle.factors.specs.declared.Dated.{Dated}
use Rattle.factors.specs.declared.FactorsState.{FactorsState}
use Rattle.factors.specs.Factors.{factors_of, read_by, after_previous, factor_fields, dated_for, factors_for, found_by, dated_by, with_factor, factors_held, reductions_by, reduced_by, FoundBounds, DatedBounds}
use Rattle.measures.specs.Lists.{All}

-- ---- the code

late_none : (n : ℕ) → 0 ≡ if_positive (neg_ℤ (pos n))
late_none zero = refl
late_none (suc n) = refl

module _ {given : MonthsEarly} {months : Months} {exact : ℤ} (is : months_of given ≡ exact) where
  pub early_wanted : given ≡ MonthsEarly.Early months → months.0 ≡ if_positive exact
  unfolding months_of
  early_wanted e = rw (← is, e)

  pub late_wanted : given ≡ MonthsEarly.Late months → 0 ≡ if_positive exact
  unfolding months_of
  late_wanted e = rw (← is, e) (late_none months.0)

-- three reductions
pub reduced_ups : (s : FactorsState) (a : SchemeAmounts) → a.ups ≤ ups_earned → (reduced_by s a).ups ≤ ups_reduced
unfolding reduced_by reductions_by
reduced_ups s a few =
    let d = s.dated in
    let one = upward_most (reduced_if_way d.of2015.early.0 (factors_of d.of2015.found).pension a.pension2015.0) in
    let two = upward_most (reduced_if_way d.of1995.early.0 (factors_of d.of1995.found).pension a.pension1995.0) in
    let three = upward_most (reduced_if_way d.of1995.early.0 (factors_of d.of1995.found).lump a.lump_sum.0) in
    omega (arith, few, one, two, three)

-- at age 0 nobody is early: without a section no months are wanted
at_no_age : (birth retirement : Date) (n : ℕ) → pos n ≡ completed_months birth retirement → 0 ≡ if_positive (months_early birth retirement 0)
at_no_age birth retirement n e = rw (← (late_months birth retirement 0 n e (omega arith))) (late_none (n - 12 * 0))

-- the byte that 28 lets pass is the pension age of the section: months early are those to it
pub early_recorded : (m : Member) → member_refusal m ≡ 0 → early1995 m ≡ early m (section_pension_age m.section)
early_recorded m e = ap (early m) (member_good m e).age_of_section

pub early_none : (m : Member) → member_refusal m ≡ 0 → m.section ≡ 0 → 0 ≡ early1995 m
unfolding early
early_none m e unsectioned =
    rw (early_recorded m e, unsectioned) (at_no_age _ _ _ (sym (completed _ _ (member_good m e).dates)))

-- the pension age of a section is one that months early takes
pub section_age : (section : ℕ) {age : ℕ} → age ≡ section_pension_age section → (section ≡ 0 → ⊥) → section ≤ 2 → (55 ≤ age) × (age ≤ 75)
section_age zero e sectioned few = absurd (sectioned refl)
section_age (suc zero) e sectioned few = (omega arith, omega arith)
section_age (suc (suc zero)) e sectioned few = (omega arith, omega arith)
section_age (suc (suc (suc n))) e sectioned few = clash (omega arith)

-- what months early takes: the dates of a member who is not refused, with the pension age, and with that of a section
pub member_taken : (m : Member) → member_refusal m ≡ 0 → Accepted m.birth m.retirement × (55 ≤ m.pension_age) × (m.pension_age ≤ 75)
member_taken m e = let g = member_good m e in (g.dates, g.age_from, g.age_to)

pub section_taken : (m : Member) → member_refusal m ≡ 0 → (m.section ≡ 0 → ⊥) → Accepted m.birth m.retirement × (55 ≤ m.section_pension_age) × (m.section_pension_age ≤ 75)
section_taken m e sectioned =
    let g = member_good m e in
    let age = section_age _ g.age_of_section sectioned g.section in
    (g.dates, age.0, age.1)

-- the factors found with an 05 that is not refused are within bounds
module _ (section : ℕ) (s : FactorsState) (f : Factor) (e : 0 ≡ factor_fields section s f) where
  found_within : (before : SchemeFactors) (scheme : ℕ) → FoundBounds (factors_of before.found) → FoundBounds (factors_of (read_by before scheme f).found)
  unfolding factor_fields found_by
  found_within before scheme h =
      let b = factor_good f section (neither _ _ (sym e)).0 in
      both_sides (λ (o : std.Option FoundFactor). FoundBounds (factors_of o)) (is_for scheme before.early.0 f) _ before.found (record { pension = b.pension; lump = b.lump }) h

  pub dated_within : (d : Dated) (of2015 of1995 : SchemeFactors) → DatedBounds d → of2015 ≡ read_by d.of2015 0 f → of1995 ≡ read_by d.of1995 1 f → DatedBounds (record { of2015 = of2015; of1995 = of1995 })
  dated_within d of2015 of1995 b first second =
      record { factor2015 = rw first (found_within d.of2015 0 b.factor2015); factor1995 = rw second (found_within d.of1995 1 b.factor1995) }

-- ---- what is held of the 05s kept

abbrev previous_of : Option Factor → std.Option PreviousFactor
previous_of none = std.None
previous_of (some f) = std.Some (record { scheme = f.scheme; months = f.months })

abbrev found_of : Option Factor → std.Option FoundFactor
found_of none = std.None
found_of (some f) = std.Some (record { pension = f.pension; lump = f.lump })

abbrev scheme_of : ℕ → ℕ → List Factor → SchemeFactors
scheme_of scheme months fs = record { early = record { 0 = months }; found = found_of (factor_for scheme months fs) }

unfoldable pub dated_of : Member → List Factor → Dated
dated_of m fs =
    record { of2015 = scheme_of 0 (early2015 m) fs; of1995 = scheme_of 1 (early1995 m) fs }

pub record HoldsFactors (s : FactorsState) (m : Member) (fs : List Factor) : Type 0 where
  pub previous : s.previous ≡ previous_of (last_of fs)
  pub dated : s.dated ≡ dated_of m fs

pub factors_for_lem : (m : Member) → HoldsFactors (factors_for m) m []
unfolding factors_for dated_for dated_of factor_for last_of
factors_for_lem m = record { previous = refl; dated = refl }

-- what holds of the 05s that were not refused
abbrev pub GoodFactor : ℕ → Factor → Type 0
GoodFactor section f = factor_refusal f section ≡ 0

after_last : (o : Option Factor) (f : Factor) → after_previous (previous_of o) f ≡ after_factor o f
unfolding after_previous after_factor
after_last none f = refl
after_last (some x) f = refl

-- what was found with one 05 more
found_next : (o : Option Factor) (f : Factor) (t : Bool) → cond t (std.Some (record { pension = f.pension; lump = f.lump })) (found_of o) ≡ found_of (cond t (some f) o)
found_next o f true = refl
found_next o f false = refl

found_by_lem : (scheme months : ℕ) (fs : List Factor) (f : Factor) → found_by (found_of (factor_for scheme months fs)) scheme months f ≡ found_of (factor_for scheme months (fs ++ f ∷ []))
unfolding found_by
found_by_lem scheme months fs f = found_next (factor_for scheme months fs) f (is_for scheme months f) ∙ ap found_of (sym (factor_end scheme months fs f))

read_lem : (scheme months : ℕ) (fs : List Factor) (f : Factor) → read_by (scheme_of scheme months fs) scheme f ≡ scheme_of scheme months (fs ++ f ∷ [])
read_lem scheme months fs f i = record { early = record { 0 = months }; found = found_by_lem scheme months fs f i }

found_is : (o : Option Factor) → std.is_some (found_of o) ≡ given o
found_is none = refl
found_is (some f) = refl

pension_is : (o : Option Factor) → (factors_of (found_of o)).pension ≡ pension_factor o
pension_is none = refl
pension_is (some f) = refl

lump_is : (o : Option Factor) → (factors_of (found_of o)).lump ≡ lump_factor o
lump_is none = refl
lump_is (some f) = refl

module _ (s : FactorsState) (m : Member) (fs : List Factor) (h : HoldsFactors s m fs) where
  -- the refusals agree
  pub factor_agrees : (section : ℕ) (f : Factor) → factor_fields section s f ≡ first_refusal (factor_refusal f section) (unless (after_factor (last_of fs) f) 10)
  unfolding factor_fields
  factor_agrees section f =
      rw (h.previous, after_last (last_of fs) f) refl

  -- an 05 joins those kept
  pub factor_kept : (f : Factor) → HoldsFactors (with_factor s f) m (fs ++ f ∷ [])
  unfolding with_factor dated_of dated_by
  factor_kept f =
      record {
        previous = ap previous_of (sym (last_end fs f));
        dated = ap (λ (d : Dated). dated_by d f) h.dated ∙ (λ i. record { of2015 = read_lem 0 (early2015 m) fs f i; of1995 = read_lem 1 (early1995 m) fs f i });
      }

  -- ---- closing

  pub held_is : (section : ℕ) → factors_held section s ≡ (factor_there (early2015 m) (factor_for 0 (early2015 m) fs) && (not (is_section section) || factor_there (early1995 m) (factor_for 1 (early1995 m) fs)))
  unfolding factors_held dated_of
  held_is section = rw h.dated (rw (found_is, found_is) refl)

  pub reduced_is : (a : SchemeAmounts) → reduced_by s a ≡ record {
    pension2015 = record { 0 = reduced_if (early2015 m) (pension_factor (factor_for 0 (early2015 m) fs)) a.pension2015.0 };
    pension1995 = record { 0 = reduced_if (early1995 m) (pension_factor (factor_for 1 (early1995 m) fs)) a.pension1995.0 };
    lump_sum = record { 0 = reduced_if (early1995 m) (lump_factor (factor_for 1 (early1995 m) fs)) a.lump_sum.0 };
    ups =
        a.ups
        + (upward (reduced_if_way (early2015 m) (pension_factor (factor_for 0 (early2015 m) fs)) a.pension2015.0)
        + upward (reduced_if_way (early1995 m) (pension_factor (factor_for 1 (early1995 m) fs)) a.pension1995.0)
        + upward (reduced_if_way (early1995 m) (lump_factor (factor_for 1 (early1995 m) fs)) a.lump_sum.0));
  }
  unfolding reduced_by reductions_by dated_of
  reduced_is a = rw h.dated (rw (pension_is, pension_is, lump_is) refl)

-- nothing is reduced of nothing, and the rounding is exact
nought_reduced : (months factor : ℕ) → (reduced_if months factor 0 ≡ 0) × (reduced_if_way months factor 0 ≡ Way.Exact)
unfolding reduced_if reduced_if_way reduced reduced_way rounded way
nought_reduced months factor = by (eqb months 0)
  where
    by : (t : Bool) → (cond t 0 (reduced 0 factor) ≡ 0) × (cond t Way.Exact (reduced_way 0 factor) ≡ Way.Exact)
    by true = (refl, refl)
    by false = let e : 0 * factor ≡ 0 = omega arith in (rw e refl, rw e refl)

-- an amount for section 1 alone is reduced there alone
pub reduced_only : (t : Bool) (months factor amount : ℕ) → reduced_if months factor (cond t amount 0) ≡ cond t (reduced_if months factor amount) 0
reduced_only true months factor amount = refl
reduced_only false months factor amount = (nought_reduced months factor).0

pub way_only : (t : Bool) (months factor amount : ℕ) → reduced_if_way months factor (cond t amount 0) ≡ cond t (reduced_if_way months factor amount) Way.Exact
way_only true months factor amount = refl
way_only false months factor amount = (nought_reduced months factor).1

-- an 05 found is one of the 05s kept
none_bounds : FoundBounds (factors_of (found_of none))
none_bounds = record { pension = omega arith; lump = omega arith }

found_bounds : (section scheme months : ℕ) (fs : List Factor) → All (GoodFactor section) fs → FoundBounds (factors_of (found_of (factor_for scheme months fs)))
unfolding factor_for
found_bounds section scheme months [] g = none_bounds
found_bounds section scheme months (f ∷ fs) g =
    let b = factor_good f section g.0 in
    or_else_lem (λ (o : Option Factor). FoundBounds (factors_of (found_of o))) (factor_for scheme months fs) f (found_bounds section scheme months fs g.1)
    (record { pension = b.pension; lump = b.lump }) none_bounds (is_for scheme months f)

module _ (s : FactorsState) (m : Member) (fs : List Factor) (h : HoldsFactors s m fs) where
  pub factors_bounds : (section : ℕ) → All (GoodFactor section) fs → DatedBounds s.dated
  unfolding dated_of
  factors_bounds section g =
      subst DatedBounds (sym h.dated)
      (record { factor2015 = found_bounds section 0 _ fs g; factor1995 = found_bounds section 1 _ fs g })
