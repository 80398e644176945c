-- `running::lines::list` hands back the case with the frame that the word is.
use Rattle.running.proofs.Offered.{handed_one}
use mathlib.Core.Path.{refl}
use Rattle.running.proofs.lines.list.Goals as goal

pub returns : goal.returns
returns g c =
    handed_one _ _ c.bytes_in-n.ensures refl c.take-taken.ensures
