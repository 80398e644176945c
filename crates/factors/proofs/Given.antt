-- What the dates call gives of retirement early or late.
use mathlib.Core.Path.{◌≡◌}
use lib.IntN.{pos, neg_ℤ}
use Rattle.std.specs.Prelude.{Ok}
use Rattle.measures.specs.declared.Months.{Months}
use Rattle.calendar.specs.declared.MonthsEarly.{MonthsEarly}
use Rattle.calendar.specs.Dates.{DatesAnswer, months_of, months_given}

module _ {answer : DatesAnswer} {months : MonthsEarly} {m : Months} (a : answer ≡ Ok months) where
  pub early_given : months ≡ MonthsEarly.Early m → pos m.0 ≡ months_given answer
  unfolding months_given months_of
  early_given e = rw (a, e)

  pub late_given : months ≡ MonthsEarly.Late m → neg_ℤ (pos m.0) ≡ months_given answer
  unfolding months_given months_of
  late_given e = rw (a, e)
