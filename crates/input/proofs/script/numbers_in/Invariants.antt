-- `input::script::numbers_in` meets its contract: what was put is the start of the numbers.
use Rattle.std.proofs.Common.{◌≤◌, length}
use lib.ListN.{drop}
use Rattle.input.specs.Script.{numbers_of}
use Rattle.input.proofs.Putting.{Putting}
use Rattle.input.proofs.script.numbers_in.Given as goal

abbrev pub invariant-loop-n : goal.invariant-loop-n
invariant-loop-n l = record {
  within : l.at ≤ length l.text;
  put : Putting (numbers_of l.text) l.initial.numbers (numbers_of (drop l.at l.text)) l.numbers l.n;
}
