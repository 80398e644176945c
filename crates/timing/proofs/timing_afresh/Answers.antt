-- `timing::timing_afresh` meets its contract.
use Rattle.posts.specs.Call.{posts_in}
use Rattle.timing.proofs.timing_afresh.Goals as goal

pub returns : goal.returns
unfolding posts_in
returns c = cc
