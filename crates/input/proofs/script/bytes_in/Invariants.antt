-- `input::script::bytes_in` meets its contract: what was put is the start of what is spelled.
use Prim.Native.Nat.{◌*◌}
use lib.ListN.{drop}
use Rattle.input.specs.Script.{bytes_spelled}
use Rattle.input.proofs.Putting.{Putting}
use Rattle.input.proofs.script.bytes_in.Given as goal

abbrev pub invariant-loop-n : goal.invariant-loop-n
invariant-loop-n l = Putting (bytes_spelled l.text) l.initial.bytes (bytes_spelled (drop (2 * l.n) l.text)) l.bytes l.n
