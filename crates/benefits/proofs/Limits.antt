-- How large each step's result is, so that code works in 64 bits.
use Prim.Native.Nat.{ℕ, ◌*◌, ◌^◌, ◌≤◌, ◌<◌}
use native.Mathlib.Nat.{mul-le-mul, le_refl}
use native.Mathlib.Omega.{arith}
use Rattle.measures.specs.Limits.{highest_pay, highest_aggregate}
use Rattle.measures.specs.Rounding.{rounded}
use Rattle.measures.proofs.Rounding.{rounded_bound}
use Rattle.benefits.specs.declared.FinalPay.{FinalPay}
use Rattle.benefits.specs.Limits.{highest_revaluation, most_days, highest_charge_factor, highest_pot}
use Rattle.benefits.specs.Steps.{revalued, accrued, final_pay, full_service, section_pension, lump_sum, pension_debit, excess, excess_pension, charge_from, charge, enhancement, abatement}
use Rattle.benefits.specs.Bounds.{FinalPayBounds}
use Rattle.benefits.proofs.Monotone.{rise}

pub revalued_limit : (p r : ℕ) → p ≤ 2 ^ 50 → r ≤ highest_revaluation → revalued p r ≤ 2 ^ 51
unfolding revalued
revalued_limit p r h k = rounded_bound _ (2 ^ 51) 10000 (omega arith) (omega (arith, rise 10000 h k))

pub accrued_limit : (a : ℕ) → a ≤ highest_aggregate → accrued a ≤ 592592593
unfolding accrued rounded
accrued_limit a h = omega arith

-- for any limit on the pay, so that a pay and an excess share it: 16,425 days of 29,200 are 9/16
pub section_pension_limit : (k pay days : ℕ) → pay ≤ 16 * k → days ≤ most_days → section_pension pay days ≤ 9 * k
unfolding section_pension
section_pension_limit k pay days h d = rounded_bound _ (9 * k) full_service (omega arith) (omega (arith, mul-le-mul h d))

-- the 1995 pension and lump sum of an accepted final pay
pub section_limit : (pay days : ℕ) → pay ≤ highest_pay → days ≤ most_days → section_pension pay days ≤ 562500000
section_limit pay days h d = section_pension_limit 62500000 pay days h d

pub lump_limit : (pension : ℕ) → pension ≤ 562500000 → lump_sum pension ≤ 1687500000
unfolding lump_sum
lump_limit pension h = omega arith

pub debit_limit : (pot factor : ℕ) → pot ≤ highest_pot → 0 < factor → pension_debit pot factor ≤ 100000000000
unfolding pension_debit
debit_limit pot factor h k = rounded_bound _ 100000000000 factor k (omega arith)

module _ (f : FinalPay) (h : FinalPayBounds f) where
  pub final_pay_limit : final_pay f ≤ highest_pay
  unfolding final_pay
  final_pay_limit = omega arith

  pub excess_limit : excess f ≤ highest_pay
  unfolding excess
  excess_limit = omega (arith, final_pay_limit)

-- for any limit on the excess
pub charge_from_limit : (k over days factor : ℕ) → over ≤ 16 * k → days ≤ most_days → factor ≤ highest_charge_factor → charge_from over days factor ≤ 927 * k
unfolding charge_from excess_pension
charge_from_limit k over days factor h d g =
    let times : rounded (section_pension over days * factor) 100 ≤ section_pension over days * 100 = rounded_bound _ _ 100 (omega arith) (omega (arith, mul-le-mul (le_refl (section_pension over days)) g)) in
    omega (arith, section_pension_limit k over days h d)

pub charge_limit : (f : FinalPay) → FinalPayBounds f → charge f ≤ 57937500000
unfolding charge
charge_limit f h = charge_from_limit 62500000 (excess f) f.days f.factor (excess_limit f h) h.days h.factor

pub abatement_limit : (pension earned previous new : ℕ) → abatement pension earned previous new ≤ pension
unfolding abatement enhancement
abatement_limit pension earned previous new = omega arith
