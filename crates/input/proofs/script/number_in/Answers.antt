-- `input::script::number_in` meets its contract: the digits are read one after the other.
use mathlib.Core.Path.{◌≡◌, ◌∙◌}
use borrow.Author.Rules.{rules}
use Rattle.std.proofs.Common.{fold}
use Rattle.input.specs.Script.{with_digit}
use Rattle.input.proofs.Numbers.{folded}
use Rattle.input.proofs.script.number_in.Goals as goal

pub returns : goal.returns
returns c =
    let read : c.fold.result ≡ fold with_digit 0 c.args.text.now = search rules in
    read ∙ folded 0 c.args.text.now
