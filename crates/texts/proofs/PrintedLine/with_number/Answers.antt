-- `texts::PrintedLine::with_number` meets its contract: the invariant is `Behind`, the digits written so far.
use Rattle.std.proofs.Common.{arith}
use Rattle.texts.proofs.Writing.{behind_digit, behind_all}
use Rattle.texts.proofs.PrintedLine.with_number.Goals as goal

pub loop-place-preserved : goal.loop-place-preserved
loop-place-preserved c = record {
  same_count = c.loop-place.invariant.same_count;
  behind = rw c.character.ensures (behind_digit c.loop-place.invariant.behind (omega arith) (omega arith));
}

pub returns : goal.returns
returns c = rw c.loop-place.invariant.same_count (record {
  size = omega arith;
  count = omega arith;
  bytes = behind_all c.loop-place.invariant.behind (omega arith);
  rest = c.loop-place.invariant.behind.past;
})
