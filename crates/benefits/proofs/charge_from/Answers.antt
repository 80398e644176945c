-- `benefits::charge_from` meets its contract: the excess pension by the factor, and its lump sum.
use mathlib.Core.Path.{◌≡◌}
use Prim.Native.Nat.{ℕ, ◌≤◌}
use native.Mathlib.Nat.{mul-le-mul}
use native.Mathlib.Omega.{arith}
use Rattle.measures.proofs.Rounding.{rounded_bound}
use Rattle.benefits.specs.Limits.{most_days, highest_amount}
use Rattle.benefits.specs.Steps.{section_pension, lump_sum, excess_pension, excess_pension_way, charge_from, charge_product_way, charge_from_ups}
use Rattle.benefits.proofs.Limits.{section_pension_limit}
use Rattle.benefits.proofs.charge_from.Goals as goal

-- the excess pension: 9/16 of the highest excess
pension_most : (over days pension : ℕ) → pension ≡ section_pension over days → over ≤ highest_amount → days ≤ most_days → pension ≤ 562500000000
pension_most over days pension e h d = omega (arith, section_pension_limit 62500000000 over days h d)

pub lump_sum-lump-requires : goal.lump_sum-lump-requires
lump_sum-lump-requires c = omega (arith, pension_most _ _ _ c.section_pension-pension.ensures.0 c.requires.0 c.requires.1)

pub scaled-product-requires : goal.scaled-product-requires
scaled-product-requires c = omega (arith, mul-le-mul (pension_most _ _ _ c.section_pension-pension.ensures.0 c.requires.0 c.requires.1) c.requires.2)

pub overflow_add-result : goal.overflow_add-result
unfolding lump_sum
overflow_add-result c =
    omega (arith, pension_most _ _ _ c.section_pension-pension.ensures.0 c.requires.0 c.requires.1, rounded_bound _ 56250000000000 100 (omega arith) (mul-le-mul (pension_most _ _ _ c.section_pension-pension.ensures.0 c.requires.0 c.requires.1) c.requires.2))

pub returns : goal.returns
unfolding charge_from excess_pension lump_sum charge_from_ups excess_pension_way charge_product_way
returns c =
    let product = c.scaled-product.ensures in
    let lump = c.lump_sum-lump.ensures in
    let pension = c.section_pension-pension.ensures in (
      simp (product.0, lump, pension.0),
      simp (c.upward_of_two.ensures, product.1, pension.0, pension.1),
    )
