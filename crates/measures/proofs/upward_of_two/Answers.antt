-- `measures::upward_of_two` meets its contract: the sum is 2 at most.
use native.Mathlib.Omega.{arith}
use Rattle.measures.proofs.Rounding.{upward_most}
use Rattle.measures.proofs.upward_of_two.Goals as goal

pub overflow_add-result : goal.overflow_add-result
overflow_add-result c =
    omega (arith, upward_most c.args.one, upward_most c.args.other)
