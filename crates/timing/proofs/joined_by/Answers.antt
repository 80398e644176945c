-- `timing::joined_by` meets its contract.
use Rattle.timing.proofs.Changing.{joined_none, joined_more}
use Rattle.timing.proofs.joined_by.Goals as goal

pub loop-i-init : goal.loop-i-init
loop-i-init c = rw c.none-year.ensures.empty (joined_none c.args.posts.now)

pub loop-i-preserved : goal.loop-i-preserved
loop-i-preserved c = joined_more c.args.posts.now c.loop-i.i c.loop-i.year c.loop-i.invariant _ c.post_at.ensures _ c.join-year.ensures.change
