-- `cases::Case::take` meets its contract: bytes that are no frame have their refusal already.
use Rattle.cases.proofs.Contracts.{no_frame_taken}
use Rattle.cases.proofs.Case.take.Goals as goal

pub returns-in_default : goal.returns-in_default
returns-in_default c = rw (c.err.ensures.value, c.in_default.is, ← c.in_default.ensures) (no_frame_taken c.args.self c.in_default.field-0 c.requires)
