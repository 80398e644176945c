-- How large the excesses and the charges of an accepted change of employer are.
use mathlib.Core.Path.{◌≡◌, refl, sym}
use mathlib.Core.Bool.{Bool, true, false, cond}
use Prim.Native.Nat.{ℕ, ◌*◌, ◌≤◌, ◌<◌}
use native.Mathlib.Nat.{mul-le-mul, le_refl, zero-mul}
use native.Mathlib.Omega.{arith}
use Rattle.measures.specs.Limits.{highest_pay}
use Rattle.measures.proofs.Rounding.{rounded_bound, rounded_zero}
use Rattle.measures.proofs.Tests.{both_sides}
use Rattle.benefits.specs.declared.FinalPay.{FinalPay}
use Rattle.benefits.specs.Limits.{highest_allowance}
use Rattle.benefits.specs.Steps.{full_service, section_pension, controlled, raised, excess_pension, charge_from}
use Rattle.benefits.specs.Bounds.{FinalPayBounds}
use Rattle.benefits.proofs.Monotone.{rise}
use Rattle.benefits.proofs.Limits.{charge_from_limit}
use Rattle.bills.specs.declared.Change.{Change}
use Rattle.bills.specs.Employers.{annualised, old_excess, new_excess, charge_in, old_charge, new_charge, change_refusal}
use Rattle.bills.specs.Bounds.{ChangeBounds}
use Rattle.bills.proofs.Accepted.{accepted_change}

-- the pay of one day for a year is 365 times it
pub annualised_limit : (pay days : ℕ) → pay ≤ highest_pay → 0 < days → annualised pay days ≤ 365000000000
unfolding annualised
annualised_limit pay days h d = rounded_bound (pay * 365) 365000000000 days d (omega (arith, mul-le-mul (le_refl 365000000000) d))

-- at most twice as much with an allowance
pub raised_limit : (most pay allowance : ℕ) → pay ≤ most → allowance ≤ highest_allowance → raised pay allowance ≤ 2 * most
unfolding raised
raised_limit most pay allowance h k = rounded_bound _ (2 * most) 1000 (omega arith) (omega (arith, rise 1000 h k))

module _ (f : FinalPay) (c : Change) (b : ChangeBounds f c) where
  pub old_excess_limit : old_excess f c ≤ 730000000000
  unfolding old_excess
  old_excess_limit =
      raised_limit 365000000000 _ _ (omega (arith, annualised_limit c.old_pay.0 c.old_days b.old_pay b.old_days)) b.price_increase

  pub new_excess_limit : new_excess f c ≤ highest_pay
  unfolding new_excess
  new_excess_limit = omega (arith, b.final_pay.pay1)

-- past the refusal the numbers and the excesses are in bounds
pub ruleset bounds = (accepted_change, old_excess_limit, new_excess_limit)

-- for any limit on the excess
charge_in_limit : (k year over : ℕ) (f : FinalPay) → FinalPayBounds f → over ≤ 16 * k → charge_in f year over ≤ 927 * k
unfolding charge_in
charge_in_limit k year over f b h =
    both_sides (λ (n : ℕ). n ≤ 927 * k) (controlled f.controls year) _ 0 (charge_from_limit k over f.days f.factor h b.days b.factor) (omega arith)

pub largest_charges : (f : FinalPay) (c : Change) → change_refusal f c ≡ 0 → (old_charge f c ≤ 42294375000000) × (new_charge f c ≤ 57937500000)
unfolding old_charge new_charge
largest_charges f c e =
    let b = accepted_change f c e in
    (charge_in_limit 45625000000 2 _ f b.final_pay (old_excess_limit f c b), charge_in_limit 62500000 1 _ f b.final_pay (new_excess_limit f c b))

-- no excess, no charge
no_excess : (days factor : ℕ) → charge_from 0 days factor ≡ 0
unfolding charge_from excess_pension section_pension
no_excess days factor = simp (zero-mul, rounded_zero full_service (omega arith), rounded_zero 100 (omega arith))

-- whether a control bit of 0 makes the excess 0 or the charge
pub either_nought : (f : FinalPay) (year over : ℕ) → charge_in f year over ≡ charge_from (cond (controlled f.controls year) over 0) f.days f.factor
unfolding charge_in
either_nought f year over = by (controlled f.controls year)
  where
    by : (t : Bool) → cond t (charge_from over f.days f.factor) 0 ≡ charge_from (cond t over 0) f.days f.factor
    by true = refl
    by false = sym (no_excess f.days f.factor)
