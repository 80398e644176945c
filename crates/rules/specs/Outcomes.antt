-- What a case comes to, as the papers put it: amounts, or a refusal by its number.
use Rattle.std.specs.Prelude.{Result, Ok, Err}
use Rattle.measures.specs.Refusals.{number_of}
use Rattle.rules.specs.declared.Amounts.{Amounts}
use Rattle.rules.specs.declared.RefusalAt.{RefusalAt}
use Rattle.rules.specs.declared.NumberedLine.{NumberedLine}

-- the amounts of a worked case, or its refusal: its number, and the line of a text, 0 for no line
abbrev pub Outcome : Type 0
Outcome = Result Amounts NumberedLine

-- what the code hands back, as the papers put it: a refusal is its number
abbrev pub outcome_numbers : Result Amounts RefusalAt → Outcome
outcome_numbers (Ok amounts) = Ok amounts
outcome_numbers (Err refused) = Err (record { number = number_of refused.refusal; line = refused.line })
