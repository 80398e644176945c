-- `halves::rounded_product` meets its contract.
use mathlib.Core.Path.{◌∙◌, ap}
use Prim.Native.Nat.{ℕ, ◌+◌, ◌/◌, ◌*◌, ◌^◌}
use native.Mathlib.Omega.{arith}
use Rattle.measures.proofs.Rounding.{rounded_bound}
use Rattle.halves.proofs.Laws.{product_rounded, product_way}
use Rattle.halves.proofs.rounded_product.Goals as goal

pub overflow_mul-result : goal.overflow_mul-result
overflow_mul-result c =
    let d = c.requires.divisor.0 in
    omega (arith, product_rounded c.args.a c.args.b c.args.d 65536 d, rounded_bound (c.args.a * c.args.b) (2 ^ 62) c.args.d d c.requires.quotient)

pub overflow_add-result : goal.overflow_add-result
overflow_add-result c =
    let d = c.requires.divisor.0 in
    omega (arith, c.rounded-rest.ensures.0, product_rounded c.args.a c.args.b c.args.d 65536 d, rounded_bound (c.args.a * c.args.b) (2 ^ 62) c.args.d d c.requires.quotient)

pub returns : goal.returns
returns c =
    let d = c.requires.divisor.0 in (
      ap (λ (n : ℕ). c.args.a * (c.args.b / 65536) / c.args.d * 65536 + n) c.rounded-rest.ensures.0 ∙ product_rounded c.args.a c.args.b c.args.d 65536 d,
      c.rounded-rest.ensures.1 ∙ product_way c.args.a c.args.b c.args.d 65536 d,
    )
