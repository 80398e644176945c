-- A higher amount gives no lower a result: the steps that a rival working goes through.
use Prim.Native.Nat.{ℕ, ◌+◌, ◌*◌, ◌≤◌}
use native.Mathlib.Nat.{mul-le-mul, add-le-add, le_refl}
use native.Mathlib.Omega.{arith}
use Rattle.measures.specs.Rounding.{rounded}
use Rattle.measures.proofs.Rounding.{rounded_mono}
use Rattle.benefits.specs.Steps.{revalued, accrued, after_year, full_service, section_pension, lump_sum, reduced}

-- an amount with a rise, in the amount and in the rate of the rise
pub rise : (base : ℕ) {amount more rate higher : ℕ} → amount ≤ more → rate ≤ higher → amount * (base + rate) ≤ more * (base + higher)
rise base h k = mul-le-mul h (add-le-add (le_refl base) k)

pub revalued_mono : {p q r s : ℕ} → p ≤ q → r ≤ s → revalued p r ≤ revalued q s
unfolding revalued
revalued_mono h k = rounded_mono 10000 (omega arith) (rise 10000 h k)

pub accrued_mono : {a b : ℕ} → a ≤ b → accrued a ≤ accrued b
unfolding accrued rounded
accrued_mono h = omega arith

pub after_year_mono : {p q r s a b : ℕ} → p ≤ q → r ≤ s → a ≤ b → after_year p r a ≤ after_year q s b
unfolding after_year
after_year_mono h k l = add-le-add (revalued_mono h k) (accrued_mono l)

pub section_pension_mono : {p q : ℕ} (days : ℕ) → p ≤ q → section_pension p days ≤ section_pension q days
unfolding section_pension
section_pension_mono days h = rounded_mono full_service (omega arith) (mul-le-mul h (le_refl days))

pub lump_sum_mono : {p q : ℕ} → p ≤ q → lump_sum p ≤ lump_sum q
unfolding lump_sum
lump_sum_mono h = omega arith

pub reduced_mono : {a b : ℕ} (factor : ℕ) → a ≤ b → reduced a factor ≤ reduced b factor
unfolding reduced
reduced_mono factor h = rounded_mono 1000 (omega arith) (mul-le-mul h (le_refl factor))
