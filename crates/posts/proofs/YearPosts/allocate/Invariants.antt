-- `posts::YearPosts::allocate`: the invariant is `Upto`, the parts, the pay and its way of the posts passed.
use Rattle.posts.specs.YearFields.{year_of}
use Rattle.posts.proofs.Turns.{Upto}
use Rattle.posts.proofs.YearPosts.allocate.Given as goal

abbrev pub invariant-loop-i : goal.invariant-loop-i
invariant-loop-i l = Upto (year_of l.self-inside) l.allocation.parts l.allocation.aggregate.0 l.allocation.way l.i
