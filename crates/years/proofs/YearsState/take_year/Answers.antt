-- `years::YearsState::take_year` meets its contract: the years stay within bounds with an 02 that is not refused.
use Rattle.years.proofs.Years.{year_within}
use Rattle.years.proofs.YearsState.take_year.Goals as goal

pub invariant_of-self : goal.invariant_of-self
invariant_of-self c = year_within _ c.args.y c.pension-worked.result _ c.self.invariant (rw c.self.view_is c.in_ok-check.ensures) (rw c.self.view_is c.pension-worked.ensures.pension) c.none.ensures.empty
