-- Request 2.4, "2008 Section members": the pay of the section and its pension. Amounts are in pence.
use Rattle.std.specs.Prelude.{ℕ, ◌+◌, ◌*◌, Bool, true, ◌&&◌, cond, List, [], ◌∷◌, map, leb, ltb, length}
use Rattle.measures.specs.Limits.{highest_pay}
use Rattle.measures.specs.Rounding.{rounded, way, upward}
use Rattle.measures.specs.Refusals.{unless}
use Rattle.measures.specs.declared.Way.{Way}
use Rattle.benefits.specs.Limits.{most_days}
use Rattle.averages.specs.declared.TenPays.{TenPays}
use Rattle.averages.specs.declared.Three.{Three}
use Rattle.averages.specs.declared.AveragePay.{AveragePay}

-- ---- The best three consecutive years

-- "Ten pays come in a frame 08 [..]: oldest first"
abbrev pub pays_of : TenPays → List ℕ
pays_of t =
    t.pay10.0 ∷ t.pay9.0 ∷ t.pay8.0 ∷ t.pay7.0 ∷ t.pay6.0 ∷ t.pay5.0 ∷ t.pay4.0 ∷ t.pay3.0 ∷ t.pay2.0
    ∷ t.pay1.0 ∷ []

-- "three consecutive years": the sums of every three, oldest first
unfoldable pub threes : List ℕ → List ℕ
threes [] = []
threes (a ∷ []) = []
threes (a ∷ b ∷ []) = []
threes (a ∷ b ∷ c ∷ later) = (a + b + c) ∷ threes (b ∷ c ∷ later)

-- a sum with the last of its three years, year 1 being the last of all
abbrev pub three : ℕ → ℕ → Three
three sum year = record { sum = record { 0 = sum }; year = year }

-- "of equal averages, the latest": an earlier three only where it is higher
unfoldable pub better : ℕ → ℕ → Three → Three
better sum year later = cond (ltb later.sum.0 sum) (three sum year) later

-- the best of the sums, oldest first; the last of them ends in year 1
unfoldable pub best_of : List ℕ → Three
best_of [] = three 0 0
best_of (s ∷ []) = three s 1
best_of (s ∷ r ∷ later) = better s (length (r ∷ later) + 1) (best_of (r ∷ later))

-- "the best three consecutive years among ten given"
unfoldable pub best_three : TenPays → Three
best_three t = best_of (threes (pays_of t))

-- ---- The average

-- "the rounded average" of three years, by their sum
unfoldable pub average : ℕ → ℕ
average sum = rounded sum 3

-- "pay is the rounded average of the best three consecutive years among ten given"
unfoldable pub average_pay : TenPays → ℕ
average_pay t = average (best_three t).sum.0

-- which way it went: "its one average taken, the best before rounding" (2.6)
unfoldable pub average_way : TenPays → Way
average_way t = way (best_three t).sum.0 3

-- the averages of all: "The largest-benefit statement ranges over which three consecutive years are taken."
abbrev pub averages : TenPays → List ℕ
averages t = map average (threes (pays_of t))

-- what a case holds: the pay, the year in which its three years end, the days, and 1 where the pay was rounded up
unfoldable pub averaged : TenPays → AveragePay
averaged t = record { pay = record { 0 = average_pay t }; year = (best_three t).year; days = t.days; ups = upward (average_way t) }

-- ---- The pension

-- the days of service that earn a pension of the whole pay: "with 1/60 accrual", 60 years of 365 days
abbrev pub full_service2008 : ℕ
full_service2008 = 21900

-- "Its pension is rounded(pay × days/21,900)"
unfoldable pub pension2008 : ℕ → ℕ → ℕ
pension2008 pay days = rounded (pay * days) full_service2008

-- which way it went
unfoldable pub pension2008_way : ℕ → ℕ → Way
pension2008_way pay days = way (pay * days) full_service2008

-- ---- When it declines

-- "a pay in 08 exceeds 1,000,000,000," turned round
abbrev pub pays_within : List ℕ → Bool
pays_within [] = true
pays_within (pay ∷ pays) = leb pay highest_pay && pays_within pays

-- "27, [..] when a pay in 08 exceeds 1,000,000,000 or the days exceed 16,425"
unfoldable pub ten_pays_refusal : TenPays → ℕ
ten_pays_refusal t = unless (pays_within (pays_of t) && leb t.days most_days) 27
