-- Request 2.3 in its own words, as laws of completed months.
use Prim.Native.Nat.{◌+◌, ◌*◌, ◌-◌, ◌≤◌, ◌<◌}
use mathlib.Core.Bool.{cond}
use mathlib.Core.Logic.{◌⊎◌, inl, inr}
use mathlib.Core.Path.{◌≡◌, refl, sym, ap}
use native.Mathlib.Omega.{arith}
use lib.Dec.{ltb}
use lib.IntN.{ℤ, pos, negsuc, ◌-ℤ◌, +ℤ_idr}
use borrow.Author.Tests.{lt-ltb, le-ltb}
use Rattle.measures.proofs.Tests.{le_or_lt}
use Rattle.calendar.specs.declared.Date.{Date}
use Rattle.calendar.specs.Dates.{date_of, is_leap, month_length, last_day, completing_day, completed_months, months_early}
use Rattle.calendar.specs.Ranges.{Accepted}
use Rattle.calendar.proofs.MonthNumbers.{month_number}
use Rattle.calendar.proofs.CompletingDay.{by_birth_day, by_last_day, completing_lower}
use Rattle.calendar.proofs.CountedMonths.{completed_full}

-- document 01's own age: "one fewer if the retirement day number is below the birth day number"
abbrev pub by_day_numbers : Date → Date → ℤ
by_day_numbers birth retirement =
    pos (12 * retirement.year + retirement.month) -ℤ pos (12 * birth.year + birth.month)
    -ℤ pos (cond (ltb retirement.day birth.day) 1 0)

module _ (birth retirement : Date) where
  -- in a month that has the birth day, document 01's age
  pub long_month : birth.day ≤ last_day retirement → completed_months birth retirement ≡ by_day_numbers birth retirement
  unfolding completed_months
  long_month h = rw (sym (by_birth_day birth retirement h))

  -- "the last day completes it", whatever the birth day
  pub last_day_completes : Accepted birth retirement → retirement.day ≡ last_day retirement
      → completed_months birth retirement ≡ pos (month_number retirement - month_number birth)
  last_day_completes a e = sym (completed_full birth retirement a (omega (arith, (completing_lower birth retirement).1)))

  -- before the last day of any month, document 01's age too: no other day moved
  pub before_last_day : retirement.day < last_day retirement → completed_months birth retirement ≡ by_day_numbers birth retirement
  unfolding completed_months
  before_last_day k = by (le_or_lt birth.day (last_day retirement))
    where
      by : (birth.day ≤ last_day retirement) ⊎ (last_day retirement < birth.day) → completed_months birth retirement ≡ by_day_numbers birth retirement
      by (inl h) = long_month h
      by (inr h) =
          let last = by_last_day birth retirement h in
          rw (lt-ltb retirement.day birth.day (omega arith), lt-ltb retirement.day (completing_day birth retirement) (omega (arith, last)))

  -- on the last day of a month too short for the birth day, one month more than document 01's age
  pub one_month_more : last_day retirement < birth.day → retirement.day ≡ last_day retirement
      → by_day_numbers birth retirement ≡ completed_months birth retirement -ℤ pos 1
  unfolding completed_months
  one_month_more h e =
      let last = by_last_day birth retirement h in
      let between = pos (month_number retirement) -ℤ pos (month_number birth) in
      rw (lt-ltb retirement.day birth.day (omega arith), le-ltb retirement.day (completing_day birth retirement) (omega (arith, last)))
      (ap (λ (z : ℤ). z -ℤ pos 1) (sym (+ℤ_idr between)))

-- some members by it, at pension age 60
pub months_shown :
    (months_early (date_of 1970 8 31) (date_of 2030 6 30) 60 ≡ pos 2) ×
    (months_early (date_of 1970 8 31) (date_of 2030 6 29) 60 ≡ pos 3) ×
    (months_early (date_of 1972 2 29) (date_of 2031 2 28) 60 ≡ pos 12) ×
    (months_early (date_of 1972 2 29) (date_of 2032 2 28) 60 ≡ pos 1) ×
    (months_early (date_of 1972 2 29) (date_of 2032 2 29) 60 ≡ pos 0) ×
    (months_early (date_of 2000 1 31) (date_of 2100 2 28) 60 ≡ negsuc 480)
unfolding is_leap month_length completing_day completed_months months_early
months_shown = (refl, refl, refl, refl, refl, refl)
