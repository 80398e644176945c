-- `cases::Case::take_frame` meets its contract.
use Rattle.cases.proofs.Contracts.{frame_taken}
use Rattle.cases.proofs.Case.take_frame.Goals as goal

pub returns : goal.returns
returns c = let s = c.step in frame_taken _ _ _ s.result _ c.requires s.ensures.refusal s.ensures.case c.err-refusal.ensures.value
