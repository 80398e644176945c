-- A line that is being written.
use Rattle.std.specs.Prelude.{ℕ, ◌+◌, ◌≤◌, ◌≡◌, List, ◌++◌, length, take, drop}
use Rattle.texts.specs.declared.PrintedLine.{PrintedLine}
use Rattle.texts.specs.Printed.{printed_bytes}

-- a line with room for so many more bytes
pub record Room (line : PrintedLine) (many : ℕ) : Type 0 where
  pub size : length line.bytes ≡ printed_bytes
  pub fits : line.count + many ≤ printed_bytes

-- a line and behind it so many more bytes; the places past them as they were
pub record Extended (before : PrintedLine) (many : ℕ) (more : List ℕ) (after : PrintedLine) : Type 0 where
  pub size : length after.bytes ≡ printed_bytes
  pub count : after.count ≡ before.count + many
  pub bytes : take after.count after.bytes ≡ take before.count before.bytes ++ more
  pub rest : drop after.count after.bytes ≡ drop after.count before.bytes
