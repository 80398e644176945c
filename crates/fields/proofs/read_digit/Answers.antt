-- `fields::read_digit` meets its contract: by the block of 64 that the character stands in.
use native.Mathlib.Omega.{arith}
use Rattle.fields.proofs.Digits.{before_first, past_last, in_block}
use Rattle.fields.proofs.read_digit.Goals as goal

pub returns-in_err-place : goal.returns-in_err-place
returns-in_err-place c = rw c.from_residual.ensures (before_first _ (omega (arith, c.in_err-place.ensures)))

pub returns-then-place-count : goal.returns-then-place-count
returns-then-place-count c =
    let e = c.in_ok-place.ensures in
    rw e.1 (in_block _ e.0 (rw (← e.1) c.if-place-count.true))

pub returns-else-place-count : goal.returns-else-place-count
returns-else-place-count c =
    let e = c.in_ok-place.ensures in
    past_last _ e.0 (rw (← e.1) c.if-place-count.false)
