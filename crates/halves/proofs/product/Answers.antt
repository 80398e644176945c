-- `halves::product` meets its contract.
use native.Mathlib.Omega.{arith}
use Rattle.halves.specs.Halves.{half, value_of}
use Rattle.halves.proofs.Laws.{product_halves}
use Rattle.halves.proofs.product.Goals as goal

pub returns : goal.returns
unfolding value_of
returns c = (omega arith, product_halves c.args.a c.args.b half)
