-- `figures::done` hands back the year after the command on the numbers of the words.
use mathlib.Core.Path.{refl}
use native.Mathlib.Omega.{arith}
use Rattle.figures.proofs.Handed.{numbers_given}
use Rattle.figures.proofs.done.Goals as goal

pub returns : goal.returns
returns g c =
    numbers_given {room = 15} c.numbers_in.ensures refl c.args.command (omega arith) c.changed.ensures
