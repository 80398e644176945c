-- `factors::dated_for` meets its contract: a member who is not refused has dates and an age that months early takes.
use Rattle.factors.proofs.Factors.{member_taken}
use Rattle.factors.proofs.dated_for.Goals as goal

pub wanted_months-requires : goal.wanted_months-requires
wanted_months-requires c = member_taken _ c.requires
