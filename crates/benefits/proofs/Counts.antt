-- How many of a step's roundings can go up.
use Prim.Native.Nat.{ℕ, ◌≤◌}
use native.Mathlib.Omega.{arith}
use Rattle.measures.proofs.Rounding.{upward_most}
use Rattle.benefits.specs.declared.FinalPay.{FinalPay}
use Rattle.benefits.specs.Steps.{revalued_way, accrued_way, after_year_ups, allowed3_way, allowed2_way, allowed1_way, allowed_ups, excess, excess_pension_way, charge_product_way, charge_from_ups, charge_ups}

pub after_year_ups_most : (pension r aggregate : ℕ) → after_year_ups pension r aggregate ≤ 2
unfolding after_year_ups
after_year_ups_most pension r aggregate = omega (arith, upward_most (revalued_way pension r), upward_most (accrued_way aggregate))

pub allowed_ups_most : (f : FinalPay) → allowed_ups f ≤ 3
unfolding allowed_ups
allowed_ups_most f = omega (arith, upward_most (allowed3_way f), upward_most (allowed2_way f), upward_most (allowed1_way f))

pub charge_from_ups_most : (over days factor : ℕ) → charge_from_ups over days factor ≤ 2
unfolding charge_from_ups
charge_from_ups_most over days factor = omega (arith, upward_most (excess_pension_way over days), upward_most (charge_product_way over days factor))

pub charge_ups_most : (f : FinalPay) → charge_ups f ≤ 5
unfolding charge_ups
charge_ups_most f = omega (arith, allowed_ups_most f, charge_from_ups_most (excess f) f.days f.factor)
