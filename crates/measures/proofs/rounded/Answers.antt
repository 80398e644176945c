-- `measures::rounded` meets its contract: the quotient, one more where the rest is a half or above.
use native.Mathlib.Nat.{mod-lt}
use native.Mathlib.Omega.{arith}
use Rattle.measures.proofs.Rounding.{rest_up, rest_down, quotient_half, rest_none, way_exact, way_down, way_up}
use Rattle.measures.proofs.rounded.Goals as goal

pub returns-then-rest-eq0 : goal.returns-then-rest-eq0
returns-then-rest-eq0 c =
    (rest_none c.args.n c.args.d c.requires c.if-rest-eq0.true, way_exact c.args.n c.args.d c.requires c.if-rest-eq0.true)

pub overflow_sub-d : goal.overflow_sub-d
overflow_sub-d c = omega (arith, mod-lt c.args.n c.requires)

pub overflow_add-result : goal.overflow_add-result
overflow_add-result c = omega (arith, quotient_half c.args.n c.args.d c.requires c.if-d-rest.true)

pub returns-then-d-rest : goal.returns-then-d-rest
returns-then-d-rest c =
    (rest_up c.args.n c.args.d c.requires c.if-d-rest.true, way_up c.args.n c.args.d c.requires c.if-d-rest.true)

pub returns : goal.returns
returns c =
    (rest_down c.args.n c.args.d c.requires c.if-d-rest.false, way_down c.args.n c.args.d c.requires c.if-rest-eq0.false c.if-d-rest.false)
