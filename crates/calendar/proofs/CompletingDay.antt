-- The day that completes a month of age, by whether the retirement's month has the birth day.
use Prim.Native.Nat.{◌≤◌, ◌<◌}
use mathlib.Core.Logic.{◌⊎◌, inl, inr}
use mathlib.Core.Path.{◌≡◌}
use native.Mathlib.Omega.{arith}
use borrow.Author.Tests.{lt-ltb, le-ltb}
use Rattle.measures.proofs.Tests.{le_or_lt}
use Rattle.calendar.specs.declared.Date.{Date}
use Rattle.calendar.specs.Dates.{last_day, completing_day}

module _ (birth retirement : Date) where
  -- the birth day, where the month has it
  pub by_birth_day : birth.day ≤ last_day retirement → birth.day ≡ completing_day birth retirement
  unfolding completing_day
  by_birth_day h = rw (le-ltb _ _ h)

  -- the last day of "a month too short for the birth day"
  pub by_last_day : last_day retirement < birth.day → last_day retirement ≡ completing_day birth retirement
  unfolding completing_day
  by_last_day h = rw (lt-ltb _ _ h)

  -- no later than either
  pub completing_lower : (completing_day birth retirement ≤ birth.day) × (completing_day birth retirement ≤ last_day retirement)
  completing_lower = by (le_or_lt birth.day (last_day retirement))
    where
      by : (birth.day ≤ last_day retirement) ⊎ (last_day retirement < birth.day)
          → (completing_day birth retirement ≤ birth.day) × (completing_day birth retirement ≤ last_day retirement)
      by (inl h) = (omega (arith, by_birth_day h), omega (arith, by_birth_day h))
      by (inr h) = (omega (arith, by_last_day h), omega (arith, by_last_day h))
