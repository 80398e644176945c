-- `posts::YearPosts::lowered`: the invariant is `Leaving`, the posts passed compared with the one that leaves.
use Rattle.posts.specs.YearFields.{year_of}
use Rattle.posts.proofs.Moving.{Leaving}
use Rattle.posts.proofs.YearPosts.lowered.Given as goal

abbrev pub invariant-loop-i : goal.invariant-loop-i
invariant-loop-i l = Leaving (year_of l.self-inside) l.at l.ranking l.i
