-- `texts::printing::printed_refusal` meets its contract: the line is its numbers one behind the other, and 0A.
use mathlib.Core.Path.{◌∙◌}
use lib.ListN.{length-append}
use Rattle.texts.specs.Printed.{printed_of}
use Rattle.texts.proofs.Writing.{length_digits, extended_twice}
use Rattle.texts.proofs.printing.printed_refusal.Goals as goal

pub returns : goal.returns
unfolding printed_of
returns c =
    let whole = extended_twice (extended_twice (extended_twice c.with_number.ensures c.with_number-2.ensures) c.with_number-3.ensures) c.with_end.ensures in record {
      count = whole.count ∙ simp (length-append, length_digits);
      bytes = whole.bytes;
      rest = whole.rest;
    }
