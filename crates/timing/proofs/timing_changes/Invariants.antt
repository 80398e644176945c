-- `timing::timing_changes`: the invariant says that the sum and what is still to come are together the sum of all.
use Rattle.posts.specs.Call.{posts_in}
use Rattle.posts.specs.Changes.{remaining}
use Rattle.posts.specs.Year.{posts_of}
use Rattle.timing.specs.Timing.{joinings, aggregates_of}
use Rattle.timing.proofs.Changing.{Summing}
use Rattle.timing.proofs.timing_changes.Given as goal

abbrev pub invariant-loop-i : goal.invariant-loop-i
invariant-loop-i l = Summing l.replacements l.n (aggregates_of l.replacements (remaining (joinings (posts_in l.posts)))) l.i (posts_of l.year) l.sum
