-- Completed months and months early as numbers above, at and below nought.
use Prim.Native.Nat.{ℕ, ◌+◌, ◌*◌, ◌-◌, ◌≤◌, ◌<◌}
use mathlib.Core.Bool.{Bool, true, false, cond}
use mathlib.Core.Path.{◌≡◌, refl, sym, ◌∙◌, ap}
use native.Mathlib.Omega.{arith}
use lib.Dec.{eqb, ltb}
use lib.IntN.{ℤ, pos, neg_ℤ, ◌-ℤ◌}
use borrow.Author.Tests.{eqb-true, eqb-false, ltb-true, ltb-false, lt-ltb, le-ltb}
use Rattle.measures.proofs.Tests.{clash}
use Rattle.measures.proofs.Integers.{less, more}
use Rattle.calendar.specs.declared.Date.{Date}
use Rattle.calendar.specs.Dates.{completing_day, completed_months, months_early}
use Rattle.calendar.specs.Ranges.{Accepted}
use Rattle.calendar.proofs.MonthNumbers.{month_number, by_month_number}
use Rattle.calendar.proofs.CompletingDay.{completing_lower}

-- one fewer where the retirement day number is below the completing day
abbrev pub one_fewer : Date → Date → ℕ
one_fewer birth retirement = cond (ltb retirement.day (completing_day birth retirement)) 1 0

module _ (birth retirement : Date) (h : Accepted birth retirement) where
  -- retirement is no earlier than birth by the number of its month
  pub ordered : month_number birth + one_fewer birth retirement ≤ month_number retirement
  ordered =
      let born = h.born in
      let retired = h.retired in
      let by_numbers = by_month_number retirement birth retired.month_from retired.month_to born.month_from born.month_to in
      by _ refl _ refl (sym by_numbers ∙ h.order)
    where
      by : (t : Bool) → eqb (month_number retirement) (month_number birth) ≡ t
          → (s : Bool) → ltb retirement.day (completing_day birth retirement) ≡ s
          → cond t (ltb retirement.day birth.day) (ltb (month_number retirement) (month_number birth)) ≡ false
          → month_number birth + cond s 1 0 ≤ month_number retirement
      by true e true f o = clash (omega (arith, ltb-true, ltb-false, (completing_lower birth retirement).0))
      by true e false f o = omega (arith, eqb-true)
      by false e true f o = omega (arith, eqb-false, ltb-false)
      by false e false f o = omega (arith, ltb-false)

  -- the months completed, never below nought
  pub completed : completed_months birth retirement ≡ pos (month_number retirement - month_number birth - one_fewer birth retirement)
  unfolding completed_months
  completed =
      ap (λ (z : ℤ). z -ℤ pos (one_fewer birth retirement)) (less _ _ (omega (arith, ordered))) ∙ less _ _ (omega (arith, ordered))

  -- a retirement day number that is below the completing day
  pub ordered_short : retirement.day < completing_day birth retirement → month_number birth + 1 ≤ month_number retirement
  ordered_short d = rw (lt-ltb _ _ d) at ordered

  pub completed_short : retirement.day < completing_day birth retirement → pos (month_number retirement - month_number birth - 1) ≡ completed_months birth retirement
  completed_short d = sym (rw (lt-ltb _ _ d) at completed)

  -- one that is not
  pub completed_full : completing_day birth retirement ≤ retirement.day → pos (month_number retirement - month_number birth) ≡ completed_months birth retirement
  completed_full d = sym ((rw (le-ltb _ _ d) at completed) ∙ ap pos (omega arith))

  -- 1 January 1900 to 31 December 2100 is the most
  pub completed_bound : (n : ℕ) → pos n ≡ completed_months birth retirement → n ≤ 2411
  completed_bound n e =
      let same : n ≡ month_number retirement - month_number birth - one_fewer birth retirement = cc completed in
      omega arith

module _ (birth retirement : Date) (pensionAge n : ℕ) (e : pos n ≡ completed_months birth retirement) where
  -- retirement before pension age
  pub early_months : n ≤ 12 * pensionAge → pos (12 * pensionAge - n) ≡ months_early birth retirement pensionAge
  unfolding months_early
  early_months h = sym (less (12 * pensionAge) n h) ∙ ap (λ (z : ℤ). pos (12 * pensionAge) -ℤ z) e

  -- retirement at pension age or after it
  pub late_months : 12 * pensionAge ≤ n → neg_ℤ (pos (n - 12 * pensionAge)) ≡ months_early birth retirement pensionAge
  unfolding months_early
  late_months h = sym (more (12 * pensionAge) n h) ∙ ap (λ (z : ℤ). pos (12 * pensionAge) -ℤ z) e

-- what the count of months takes, and what the difference from pension age takes
pub ruleset counted = (ordered_short, completed_short, completed_full)

pub ruleset differences = (early_months, late_months, completed_bound)
