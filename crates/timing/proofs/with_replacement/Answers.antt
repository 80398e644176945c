-- `timing::with_replacement` meets its contract.
use Rattle.timing.proofs.Changing.{replaced_by}
use Rattle.timing.proofs.with_replacement.Goals as goal

pub returns : goal.returns
returns c = replaced_by c.args.replacements.now c.args.number _ _ _ _ _ c.one_at.ensures.0 c.post_at.ensures c.leave-left.ensures c.join.ensures.change
