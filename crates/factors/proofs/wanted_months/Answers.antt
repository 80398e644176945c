-- `factors::wanted_months` meets its contract: months early above nought are wanted, nought and below are not.
use Rattle.rules.specs.Working.{early}
use Rattle.factors.proofs.Factors.{early_wanted, late_wanted}
use Rattle.factors.proofs.wanted_months.Goals as goal

pub returns-in-Early : goal.returns-in-Early
unfolding early
returns-in-Early c = early_wanted c.months_early.ensures.months c.in-Early.is

pub returns-in-Late : goal.returns-in-Late
unfolding early
returns-in-Late c = late_wanted c.months_early.ensures.months c.in-Late.is
