-- The pay of the member's section: how large its amounts are, and what is held of the 04 or 08 kept.
use Prim.Native.Nat.{ℕ, ◌+◌, ◌≤◌, ◌^◌}
use mathlib.Core.Path.{◌≡◌, refl, ◌∙◌, ap}
use mathlib.Core.Bool.{Bool, true, false, ◌||◌, not, cond}
use mathlib.Core.Option.{Option, none, some}
use native.Mathlib.Omega.{arith}
use lib.Dec.{eqb}
use borrow.Author.Tests.{eqb-true, ne_eqb}
use Rattle.std.specs.Prelude as std
use Rattle.measures.specs.Rounding.{rounded, way, upward}
use Rattle.measures.proofs.Tests.{both_sides}
use Rattle.benefits.specs.declared.FinalPay.{FinalPay}
use Rattle.benefits.specs.Steps.{final_pay, final_year, section_pension, section_pension_way, lump_sum, controlled, raised, allowed_from, allowed_from_way, allowed3, allowed3_way, allowed2, allowed2_way, allowed1, allowed1_way, allowed_in, allowed_ups, excess, excess_pension, excess_pension_way, charge_from, charge_product_way, charge_from_ups, charge, charge_ups, final_pay_refusal}
use Rattle.benefits.specs.Bounds.{FinalPayBounds}
use Rattle.benefits.specs.Limits.{highest_amount}
use Rattle.benefits.proofs.Limits.{final_pay_limit, section_limit}
use Rattle.benefits.proofs.Accepted.{accepted_final_pay}
use Rattle.averages.specs.declared.TenPays.{TenPays}
use Rattle.averages.specs.declared.AveragePay.{AveragePay}
use Rattle.averages.specs.Averages.{averaged, pension2008, pension2008_way, ten_pays_refusal}
use Rattle.averages.specs.Bounds.{AveragePayBounds}
use Rattle.averages.proofs.Accepted.{accepted_ten_pays, averaged_bounds, pension2008_limit}
use Rattle.frames.specs.Limits.{is_section}
use Rattle.rules.specs.Rules.{SectionPay, of1995, of2008, given}
use Rattle.rules.specs.Working.{own_pay, pension1995, charge_of, section_ups, charge_ups_of}
use Rattle.section.specs.declared.SectionState.{SectionState}
use Rattle.section.specs.declared.HeldPay.{HeldPay}
use Rattle.section.specs.Section.{no_pay, no_average, no_section, final_pay_of, average_of, with_pay, with_ten_pays, pay_held, pension_of_pay, ups_of_pay, ups_of_average, pension_earned, ups_earned_by, lump_earned, earned_of, SectionBounds}

-- ---- the code

pub pension_limit : (f : FinalPay) → FinalPayBounds f → pension_of_pay f ≤ 562500000
unfolding pension_of_pay
pension_limit f b = section_limit _ _ (final_pay_limit f b) b.days

-- before it is reduced
pub earned_limit : (s : SectionState) → SectionBounds s → (section : ℕ) → pension_earned section s ≤ 750000000
unfolding pension_earned
earned_limit s b section =
    let a = average_of s.pay in
    both_sides (λ (n : ℕ). n ≤ 750000000) (eqb section 1) _ _ (omega (arith, pension_limit (final_pay_of s.pay) b.pay))
    (both_sides (λ (n : ℕ). n ≤ 750000000) (eqb section 2) _ 0 (pension2008_limit a.pay.0 a.days b.average.pay b.average.days) (omega arith))

-- three times the most
pub lump_limit : (section pension : ℕ) → pension ≤ highest_amount → lump_earned section pension ≤ 2 ^ 50
unfolding lump_earned lump_sum
lump_limit section pension h = both_sides (λ (n : ℕ). n ≤ 2 ^ 50) (eqb section 1) _ 0 (omega (arith, h)) (omega arith)

no_pay_bounds : FinalPayBounds no_pay
no_pay_bounds = record { pay4 = omega arith; pay3 = omega arith; pay2 = omega arith; pay1 = omega arith; allowance3 = omega arith; allowance2 = omega arith; allowance1 = omega arith; days = omega arith; factor = omega arith }

no_average_bounds : AveragePayBounds no_average
no_average_bounds = record { pay = omega arith; days = omega arith; ups = omega arith }

pub none_within : SectionBounds no_section
none_within = record { pay = no_pay_bounds; average = no_average_bounds }

-- the pay frames that are not refused are within bounds
pub pay_within : (f : FinalPay) → final_pay_refusal f ≡ 0 → SectionBounds (record { pay = std.Some (HeldPay.FinalPay f) })
pay_within f e = record { pay = accepted_final_pay f e; average = no_average_bounds }

pub average_within : (t : TenPays) (a : AveragePay) → ten_pays_refusal t ≡ 0 → a ≡ averaged t → SectionBounds (record { pay = std.Some (HeldPay.Average a) })
average_within t a e is = rw is (record { pay = no_pay_bounds; average = averaged_bounds t (accepted_ten_pays t e) })

-- nothing is charged of noughts
pub no_charge : (0 ≡ charge no_pay) × (0 ≡ charge_ups no_pay)
unfolding charge charge_ups charge_from charge_from_ups charge_product_way excess_pension excess_pension_way section_pension section_pension_way excess allowed_in allowed_ups allowed_from allowed_from_way allowed3 allowed3_way allowed2 allowed2_way allowed1 allowed1_way raised controlled final_year final_pay rounded way upward
no_charge = (refl, refl)

nought : (t : Bool) → ◌≡◌ {A = ℕ} (cond t 0 0) 0
nought t = both_sides (λ (n : ℕ). n ≡ 0) t 0 0 refl refl

-- the pension by the section, and its upward roundings
abbrev earned_by : ℕ → FinalPay → AveragePay → ℕ
earned_by section f a = cond (eqb section 1) (pension_of_pay f) (cond (eqb section 2) (pension2008 a.pay.0 a.days) 0)

abbrev ups_by : ℕ → FinalPay → AveragePay → ℕ
ups_by section f a = cond (eqb section 1) (ups_of_pay f) (cond (eqb section 2) (ups_of_average a) 0)

-- no pay frame, or one that stands with the other section
abbrev NotOf : ℕ → std.Option HeldPay → Type 0
NotOf section std.None = Unit {0}
NotOf section (std.Some (HeldPay.FinalPay f)) = section ≡ 1 → ⊥
NotOf section (std.Some (HeldPay.Average a)) = section ≡ 2 → ⊥

-- earns nothing
nothing_by : (section : ℕ) (o : std.Option HeldPay) → NotOf section o → (0 ≡ earned_by section (final_pay_of o) (average_of o)) × (0 ≡ ups_by section (final_pay_of o) (average_of o))
unfolding pension_of_pay ups_of_pay ups_of_average section_pension section_pension_way final_pay pension2008 pension2008_way rounded way upward
nothing_by section std.None n = (rw (nought (eqb section 2), nought (eqb section 1)) refl, rw (nought (eqb section 2), nought (eqb section 1)) refl)
nothing_by section (std.Some (HeldPay.FinalPay f)) n = (rw (ne_eqb section 1 n, nought (eqb section 2)) refl, rw (ne_eqb section 1 n, nought (eqb section 2)) refl)
nothing_by section (std.Some (HeldPay.Average a)) n = (rw (ne_eqb section 2 n, nought (eqb section 1)) refl, rw (ne_eqb section 2 n, nought (eqb section 1)) refl)

nothing_earned : (section : ℕ) (s : SectionState) (o : std.Option HeldPay) → s.pay ≡ o → NotOf section o → (0 ≡ pension_earned section s) × (0 ≡ ups_earned_by section s)
unfolding pension_earned ups_earned_by
nothing_earned section s o e n = rw e (nothing_by section o n)

pub not_1995 : (section : ℕ) (s : SectionState) (p : HeldPay) (f : FinalPay) → s.pay ≡ std.Some p → p ≡ HeldPay.FinalPay f → (section ≡ 1 → ⊥) → (0 ≡ pension_earned section s) × (0 ≡ ups_earned_by section s)
not_1995 section s p f e q n = nothing_earned section s _ (e ∙ ap std.Some q) n

pub not_2008 : (section : ℕ) (s : SectionState) (p : HeldPay) (a : AveragePay) → s.pay ≡ std.Some p → p ≡ HeldPay.Average a → (section ≡ 2 → ⊥) → (0 ≡ pension_earned section s) × (0 ≡ ups_earned_by section s)
not_2008 section s p a e q n = nothing_earned section s _ (e ∙ ap std.Some q) n

pub no_pay_frame : (section : ℕ) (s : SectionState) → s.pay ≡ std.None → (0 ≡ pension_earned section s) × (0 ≡ ups_earned_by section s)
no_pay_frame section s e = nothing_earned section s _ e tt

-- ---- what is held of the 04 or 08 kept

abbrev held_of : Option SectionPay → std.Option HeldPay
held_of none = std.None
held_of (some (of1995 f)) = std.Some (HeldPay.FinalPay f)
held_of (some (of2008 t)) = std.Some (HeldPay.Average (averaged t))

pub record HoldsSection (s : SectionState) (o : Option SectionPay) : Type 0 where
  pub pay : s.pay ≡ held_of o

pub section_none : HoldsSection no_section none
section_none = record { pay = refl }

pub pay_kept : (s : SectionState) (f : FinalPay) → HoldsSection (with_pay s f) (some (of1995 f))
unfolding with_pay
pay_kept s f = record { pay = refl }

pub ten_pays_kept : (s : SectionState) (t : TenPays) → HoldsSection (with_ten_pays s t) (some (of2008 t))
unfolding with_ten_pays
ten_pays_kept s t = record { pay = refl }

-- what holds of a pay frame that was not refused: it stands with its own section
abbrev pub GoodPay : ℕ → Option SectionPay → Type 0
GoodPay section none = Unit {0}
GoodPay section (some (of1995 f)) = (section ≡ 1) × (final_pay_refusal f ≡ 0)
GoodPay section (some (of2008 t)) = (section ≡ 2) × (ten_pays_refusal t ≡ 0)

-- the pension is that of the pay frame, which stands with its own section; without one it is that of noughts
pension_is : (section : ℕ) (o : Option SectionPay) → GoodPay section o → earned_by section (final_pay_of (held_of o)) (average_of (held_of o)) ≡ cond (is_section section) (pension1995 o (own_pay o)) 0
unfolding pension_of_pay section_pension final_pay pension2008 averaged pension1995 own_pay rounded
pension_is section none g = rw (nought (eqb section 2), nought (eqb section 1), nought (is_section section)) refl
pension_is section (some (of1995 f)) g = rw g.0 refl
pension_is section (some (of2008 t)) g = rw g.0 refl

-- and so are its upward roundings
ups_are : (section : ℕ) (o : Option SectionPay) → GoodPay section o → ups_by section (final_pay_of (held_of o)) (average_of (held_of o)) ≡ section_ups o
unfolding ups_of_pay ups_of_average section_pension_way final_pay pension2008_way averaged section_ups rounded way upward
ups_are section none g = rw (nought (eqb section 2), nought (eqb section 1)) refl
ups_are section (some (of1995 f)) g = rw g.0 refl
ups_are section (some (of2008 t)) g = rw g.0 refl

given_is : (o : Option SectionPay) → std.is_some (held_of o) ≡ given o
given_is none = refl
given_is (some (of1995 f)) = refl
given_is (some (of2008 t)) = refl

-- section 1 is a section
lump_is : (section pension : ℕ) → cond (eqb section 1) (lump_sum (cond (is_section section) pension 0)) 0 ≡ cond (eqb section 1) (lump_sum pension) 0
lump_is section pension = by (eqb section 1) refl
  where
    by : (t : Bool) → eqb section 1 ≡ t → cond t (lump_sum (cond (is_section section) pension 0)) 0 ≡ cond t (lump_sum pension) 0
    by true e = let one : section ≡ 1 = eqb-true _ _ e in rw one refl
    by false e = refl

charge_is : (o : Option SectionPay) → charge (final_pay_of (held_of o)) ≡ charge_of o
unfolding charge_of charge charge_from excess_pension section_pension excess allowed_in allowed_from allowed3 allowed2 allowed1 raised controlled final_year final_pay rounded
charge_is none = refl
charge_is (some (of1995 f)) = refl
charge_is (some (of2008 t)) = refl

charge_ups_lem : (o : Option SectionPay) → charge_ups (final_pay_of (held_of o)) ≡ charge_ups_of o
unfolding charge_ups_of charge_ups charge_from_ups charge_product_way excess_pension excess_pension_way section_pension section_pension_way excess allowed_in allowed_ups allowed_from allowed_from_way allowed3 allowed3_way allowed2 allowed2_way allowed1 allowed1_way raised controlled final_year final_pay rounded way upward
charge_ups_lem none = refl
charge_ups_lem (some (of1995 f)) = refl
charge_ups_lem (some (of2008 t)) = refl

module _ (s : SectionState) (o : Option SectionPay) (h : HoldsSection s o) (section : ℕ) (g : GoodPay section o) where
  -- ---- closing

  pub held_is : pay_held section s ≡ (not (is_section section) || given o)
  unfolding pay_held
  held_is = rw (h.pay, given_is o) refl

  earned_pension : pension_earned section s ≡ cond (is_section section) (pension1995 o (own_pay o)) 0
  unfolding pension_earned
  earned_pension = rw h.pay (pension_is section o g)

  earned_roundings : ups_earned_by section s ≡ section_ups o
  unfolding ups_earned_by
  earned_roundings = rw h.pay (ups_are section o g)

  pub earned_is : (pension ups : ℕ) → earned_of s section pension ups ≡ record { pension2015 = record { 0 = pension }; pension1995 = record { 0 = cond (is_section section) (pension1995 o (own_pay o)) 0 }; lump_sum = record { 0 = cond (eqb section 1) (lump_sum (pension1995 o (own_pay o))) 0 }; ups = ups + section_ups o }
  unfolding earned_of lump_earned
  earned_is pension ups = rw (earned_pension, earned_roundings, lump_is section (pension1995 o (own_pay o))) refl

  pub charge_held : charge (final_pay_of s.pay) ≡ charge_of o
  charge_held = rw h.pay (charge_is o)

  pub charge_ups_held : charge_ups (final_pay_of s.pay) ≡ charge_ups_of o
  charge_ups_held = rw h.pay (charge_ups_lem o)

-- what is held of the pay frame kept is within bounds
good_pay : (section : ℕ) (o : Option SectionPay) → GoodPay section o → FinalPayBounds (final_pay_of (held_of o))
good_pay section none g = no_pay_bounds
good_pay section (some (of1995 f)) g = accepted_final_pay f g.1
good_pay section (some (of2008 t)) g = no_pay_bounds

good_average : (section : ℕ) (o : Option SectionPay) → GoodPay section o → AveragePayBounds (average_of (held_of o))
good_average section none g = no_average_bounds
good_average section (some (of1995 f)) g = no_average_bounds
good_average section (some (of2008 t)) g = averaged_bounds t (accepted_ten_pays t g.1)

module _ (s : SectionState) (o : Option SectionPay) (h : HoldsSection s o) (section : ℕ) (g : GoodPay section o) where
  pub section_bounds : SectionBounds s
  section_bounds = rw h.pay (record { pay = good_pay section o g; average = good_average section o g })
