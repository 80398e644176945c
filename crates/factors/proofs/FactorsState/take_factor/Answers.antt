-- `factors::FactorsState::take_factor` meets its contract: the factors found with the 05 are within bounds.
use Rattle.factors.proofs.Factors.{dated_within}
use Rattle.factors.proofs.FactorsState.take_factor.Goals as goal

pub invariant_of-self : goal.invariant_of-self
invariant_of-self c = dated_within _ _ _ c.in_ok-check.ensures _ _ _ c.self.invariant c.read.ensures c.read-2.ensures
