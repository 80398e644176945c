-- `posts::call::read_posts`: at each turn the year is of the first i posts.
use Rattle.posts.specs.Call.{posts_from}
use Rattle.posts.specs.Reading.{YearOf}
use Rattle.posts.proofs.call.read_posts.Given as goal

abbrev pub invariant-loop-i : goal.invariant-loop-i
invariant-loop-i l = YearOf (posts_from l.bytes 0 l.i) l.year
