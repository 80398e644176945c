-- Document 01, "Months early", with request 2.3, and what refusal 5 says of dates and pension age.
use Rattle.std.specs.Prelude.{ℕ, ◌+◌, ◌*◌, ◌%◌, Bool, ◌&&◌, ◌||◌, not, cond, ltb, eqb, ℤ, pos, neg_ℤ, ◌-ℤ◌, Result, Ok, Err}
use Rattle.measures.specs.Refusals.{within, unless}
use Rattle.calendar.specs.declared.Date.{Date}
use Rattle.calendar.specs.declared.MonthsEarly.{MonthsEarly}

-- a date of year, month and day
abbrev pub date_of : ℕ → ℕ → ℕ → Date
date_of year month day = record { year = year; month = month; day = day }

-- "its Gregorian month": 4 divides a leap year, and where 100 does, 400 does too
unfoldable pub is_leap : ℕ → Bool
is_leap year = eqb (year % 4) 0 && (not (eqb (year % 100) 0) || eqb (year % 400) 0)

-- "a day that doesn't fit its Gregorian month": the days of a month, 0 for a month outside 1 to 12
unfoldable pub month_length : ℕ → ℕ → ℕ
month_length year month =
    cond (eqb month 4 || eqb month 6 || eqb month 9 || eqb month 11) 30
    (cond (eqb month 2) (cond (is_leap year) 29 28)
    (cond (within 1 12 month) 31 0))

-- "the last day" of a date's month
abbrev pub last_day : Date → ℕ
last_day d = month_length d.year d.month

-- Request 2.3: "in a month too short for the birth day, the last day completes it". The month is the retirement's; where it has the birth day, that day completes it.
unfoldable pub completing_day : Date → Date → ℕ
completing_day birth retirement = cond (ltb (last_day retirement) birth.day) (last_day retirement) birth.day

-- Age, as document 01 defines it: "Age is completed months: 12 × years + months between the dates, one fewer if the retirement day number is below" the completing day. Document 01 has "the birth day number" there; by request 2.3 its "day comparison gives way to this".
unfoldable pub completed_months : Date → Date → ℤ
completed_months birth retirement =
    pos (12 * retirement.year + retirement.month) -ℤ pos (12 * birth.year + birth.month)
    -ℤ pos (cond (ltb retirement.day (completing_day birth retirement)) 1 0)

-- Months early, as document 01 defines it: "Months early = 12 × pension age − age, which may be nought or negative"
unfoldable pub months_early : Date → Date → ℕ → ℤ
months_early birth retirement pensionAge = pos (12 * pensionAge) -ℤ completed_months birth retirement

-- "year outside 1900 to 2100, month outside 1 to 12, a day that doesn't fit its Gregorian month"
unfoldable pub date_stands : Date → Bool
date_stands d = within 1900 2100 d.year && within 1 12 d.month && within 1 (month_length d.year d.month) d.day

-- "before": by the year; in one year by the month; in one month by the day
unfoldable pub is_before : Date → Date → Bool
is_before a b =
    cond (eqb a.year b.year)
    (cond (eqb a.month b.month) (ltb a.day b.day) (ltb a.month b.month))
    (ltb a.year b.year)

-- "Dates apart: 5", with "retirement before birth" and "pension age outside 55 to 75"
unfoldable pub dates_refusal : Date → Date → ℕ → ℕ
dates_refusal birth retirement pensionAge =
    unless (date_stands birth && date_stands retirement && not (is_before retirement birth) && within 55 75 pensionAge) 5

-- the months of an enum answer: "which may be nought or negative"
unfoldable pub months_of : MonthsEarly → ℤ
months_of (MonthsEarly.Early months) = pos months.0
months_of (MonthsEarly.Late months) = neg_ℤ (pos months.0)

-- what the dates call gives: the months early, or the number of its refusal
abbrev pub DatesAnswer : Type 0
DatesAnswer = Result MonthsEarly ℕ

-- the refusal of an answer of the dates call, 0 for none
unfoldable pub refusal_given : DatesAnswer → ℕ
refusal_given (Ok months) = 0
refusal_given (Err number) = number

-- its number: "Each of these calls .. gives 0 for its number when refused."
unfoldable pub months_given : DatesAnswer → ℤ
months_given (Ok months) = months_of months
months_given (Err number) = pos 0

-- the number that the dates call gives: months early, 0 when refused
unfoldable pub dates_number : Date → Date → ℕ → ℤ
dates_number birth retirement pensionAge =
    cond (eqb (dates_refusal birth retirement pensionAge) 0) (months_early birth retirement pensionAge) (pos 0)
