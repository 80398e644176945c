-- How large the numbers of dates that stand, and of months early, are: what the functions below the dates call ask.
use Rattle.std.specs.Prelude.{ℕ, ◌≤◌, false, ◌≡◌, Ok, Err}
use Rattle.calendar.specs.declared.Date.{Date}
use Rattle.calendar.specs.declared.MonthsEarly.{MonthsEarly}
use Rattle.calendar.specs.Dates.{is_before, DatesAnswer}

-- the most months late: 2,411 months, from January 1900 to December 2100, less those of pension age 55
abbrev pub most_late : ℕ
most_late = 1751

-- early is above nought and at most the months of pension age 75
abbrev pub Bounded : MonthsEarly → Type 0
Bounded (MonthsEarly.Early months) = (1 ≤ months.0) × (months.0 ≤ 900)
Bounded (MonthsEarly.Late months) = months.0 ≤ most_late

-- an answer of the dates call: bounded months, or refusal 5
abbrev pub AnswerBounded : DatesAnswer → Type 0
AnswerBounded (Ok months) = Bounded months
AnswerBounded (Err number) = number ≡ 5

-- what the numbers of a date that stands keep to
pub record InRange (d : Date) : Type 0 where
  pub year_from : 1900 ≤ d.year
  pub year_to : d.year ≤ 2100
  pub month_from : 1 ≤ d.month
  pub month_to : d.month ≤ 12
  pub day_from : 1 ≤ d.day
  pub day_to : d.day ≤ 31

-- what two dates that are not refused keep to, whatever the pension age
pub record Accepted (birth retirement : Date) : Type 0 where
  pub born : InRange birth
  pub retired : InRange retirement
  pub order : is_before retirement birth ≡ false
