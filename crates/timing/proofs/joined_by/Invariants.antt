-- `timing::joined_by`: the invariant says that the first i posts have joined.
use Rattle.timing.proofs.Changing.{Joined}
use Rattle.timing.proofs.joined_by.Given as goal

abbrev pub invariant-loop-i : goal.invariant-loop-i
invariant-loop-i l = Joined l.posts l.i l.year
