-- `posts::YearPosts::enter` meets its contract: the invariant is `Entering`, the posts passed compared with the one that joins.
use Rattle.posts.specs.YearFields.{year_of}
use Rattle.posts.proofs.Moving.{Entering}
use Rattle.posts.proofs.YearPosts.enter.Given as goal

abbrev pub invariant-loop-i : goal.invariant-loop-i
invariant-loop-i l = Entering (year_of l.initial.self-inside) l.x (year_of l.self-inside) l.before.0 l.i
