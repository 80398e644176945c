-- `calendar::completed_months` meets its contract: accepted dates are in order, so that no difference is below nought.
use native.Mathlib.Omega.{arith}
use Rattle.calendar.proofs.CountedMonths.{ordered}
use Rattle.calendar.proofs.completed_months.Goals as goal

pub overflow_sub-months : goal.overflow_sub-months
overflow_sub-months c = omega (arith, ordered _ _ c.requires)
