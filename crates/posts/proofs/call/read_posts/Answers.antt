-- `posts::call::read_posts` meets its contract.
use mathlib.Core.Path.{◌≡◌}
use Rattle.std.proofs.Common.{rules, Err}
use Rattle.posts.specs.Call.{posts_from}
use Rattle.posts.proofs.ReadingLaws.{year_of_none, year_of_more, refused_among}
use Rattle.posts.proofs.Calling.{from_more, from_parts}
use Rattle.posts.proofs.call.read_posts.Goals as goal

pub loop-i-init : goal.loop-i-init
unfolding posts_from
loop-i-init c = rw c.none-year.ensures.empty year_of_none

pub returns-in_err-add : goal.returns-in_err-add
returns-in_err-add c =
    let r : c.from_residual.result ≡ Err c.in_err-add.field-0.0 = search rules in
    let among = refused_among _ c.loop-i.year c.loop-i.invariant c.post_at.result _ c.in_err-add.field-0.0 c.in_err-add.ensures.refusal in
    rw (r, from_parts c.args.bytes.now c.args.n c.loop-i.i c.loop-i-test.true, ← c.post_at.ensures) among

pub loop-i-preserved : goal.loop-i-preserved
loop-i-preserved c =
    rw (from_more c.args.bytes.now c.loop-i.i, ← c.post_at.ensures)
    (year_of_more _ c.loop-i.year c.loop-i.invariant c.post_at.result c.in_ok-add.ensures.refusal _ c.add.ensures.year)
