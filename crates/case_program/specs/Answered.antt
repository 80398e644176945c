-- What the case program makes of what it read.
use Rattle.std.specs.Prelude.{List, ◌≡◌, ℕ, take, IsSome, Ok}
use Rattle.input.specs.declared.Reading.{Reading}
use Rattle.rules.specs.declared.Amounts.{Amounts}
use Rattle.rules.specs.Outcomes.{Outcome}
use Rattle.texts.specs.Text.{work_text}

-- the outcome is that of the bytes to work; after a failed read it is never a worked one
pub record Answered (bytes : List ℕ) (given : Reading) (o : Outcome) : Type 0 where
  pub is : o ≡ work_text (take given.count bytes)
  pub refused : IsSome given.error → (a : Amounts) → o ≡ Ok a → ⊥
