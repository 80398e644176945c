-- `cases::Case::start` meets its contract: noughts in every part.
use Rattle.cases.specs.State.{start}
use Rattle.cases.proofs.Contracts.{started}
use Rattle.cases.proofs.Case.start.Goals as goal

pub returns : goal.returns
unfolding start
returns c = started _ (cc)
