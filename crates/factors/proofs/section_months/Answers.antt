-- `factors::section_months` meets its contract: a section's age is one that months early takes.
use Rattle.factors.proofs.Factors.{section_taken}
use Rattle.factors.proofs.section_months.Goals as goal

pub wanted_months-requires : goal.wanted_months-requires
wanted_months-requires c = section_taken _ c.requires c.if-m-eq0.false
