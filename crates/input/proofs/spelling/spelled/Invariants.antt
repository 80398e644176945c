-- `input::spelling::spelled` meets its contract: what is spelled with the posts that are left is all of them.
use Rattle.input.proofs.Posts.{Spelling}
use Rattle.input.proofs.spelling.spelled.Given as goal

abbrev pub invariant-loop-i : goal.invariant-loop-i
invariant-loop-i l = Spelling l.fn.list l.bytes l.i
