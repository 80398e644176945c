-- `texts::printing::printed` meets its contract: the line is its numbers one behind the other, and 0A.
use mathlib.Core.Path.{◌∙◌}
use lib.ListN.{length-append}
use Rattle.texts.specs.Printed.{printed_of}
use Rattle.texts.proofs.Writing.{length_digits, extended_twice}
use Rattle.texts.proofs.printing.printed.Goals as goal

pub returns-in-Ok : goal.returns-in-Ok
unfolding printed_of
returns-in-Ok c =
    let pensions = extended_twice (extended_twice c.with_number.ensures c.with_number-in-Ok.ensures) c.with_number-in-Ok-2.ensures in
    let amounts = extended_twice (extended_twice pensions c.with_number-in-Ok-3.ensures) c.with_number-in-Ok-4.ensures in
    let whole = extended_twice (extended_twice amounts c.with_number-in-Ok-5.ensures) c.with_end.ensures in
    rw c.in-Ok.is record {
      count = whole.count ∙ simp (length-append, length_digits);
      bytes = whole.bytes;
      rest = whole.rest;
    }
