-- `input::spelling::spelled` meets its contract: what is spelled with the posts that are left is all of them.
use borrow.Author.Rules.{rules}
use native.Mathlib.Omega.{arith}
use Rattle.posts.specs.Year.{no_post}
use Rattle.input.proofs.Posts.{post_more, posts_all}
use Rattle.input.proofs.spelling.spelled.Goals as goal

pub loop-i-preserved : goal.loop-i-preserved
loop-i-preserved c =
    post_more c.loop-i.invariant no_post (search rules) (omega arith) (omega arith) c.put_post.ensures

pub returns : goal.returns
returns c = posts_all c.loop-i.invariant (search rules) (omega arith)
