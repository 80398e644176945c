-- `cases::Case::close` meets its contract.
use Rattle.cases.proofs.Contracts.{closed_after}
use Rattle.cases.proofs.Case.close.Goals as goal

pub returns : goal.returns
returns c = closed_after _ _ c.outcome.ensures
