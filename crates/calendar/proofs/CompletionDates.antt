-- Completed months as days of the calendar: n months of age are completed from one day on, and not before it.
use Prim.Native.Nat.{ℕ, ◌+◌, ◌-◌, ◌/◌, ◌%◌, ◌≤◌}
use mathlib.Core.Bool.{Bool, true, false, cond}
use mathlib.Core.Path.{◌≡◌, refl, sym, ◌∙◌}
use native.Mathlib.Omega.{arith}
use lib.Dec.{eqb, ltb}
use lib.IntN.{pos}
use borrow.Author.Tests.{eqb-true, eqb-false, ltb-true, ltb-false, lt-ltb, le-ltb}
use Rattle.measures.proofs.Tests.{both_sides}
use Rattle.calendar.specs.declared.Date.{Date}
use Rattle.calendar.specs.Dates.{date_of, completing_day, completed_months, is_before}
use Rattle.calendar.specs.Ranges.{Accepted}
use Rattle.calendar.proofs.MonthNumbers.{month_number, by_month_number}
use Rattle.calendar.proofs.CountedMonths.{one_fewer, ordered, completed}

-- the day on which so many months of age are completed: so many months after the birth's month, on the day that completes it, for which only its year and month matter
abbrev pub completion_date : Date → ℕ → Date
completion_date birth months =
    let before = month_number birth + months - 1 in
    let year = before / 12 in
    let month = before % 12 + 1 in
    date_of year month (completing_day birth (date_of year month 0))

module _ (birth retirement : Date) (accepted : Accepted birth retirement) (age : ℕ) (e : pos age ≡ completed_months birth retirement) where
  -- the age, by the number of the retirement's month
  counted : (s : Bool) → ltb retirement.day (completing_day birth retirement) ≡ s → month_number birth + age + cond s 1 0 ≡ month_number retirement
  counted s q =
      let less : age ≡ month_number retirement - month_number birth - one_fewer birth retirement = cc (completed birth retirement accepted) in
      let room = ordered birth retirement accepted in
      omega (arith, rw q at less, rw q at room)

  -- a day that completes the month which is so many months after the birth's
  module _ (months : ℕ) (d : Date) (m : (1 ≤ d.month) × (d.month ≤ 12)) (f : month_number d ≡ month_number birth + months) (g : d.day ≡ completing_day birth d) where
    same_month : month_number retirement ≡ month_number d → d.day ≡ completing_day birth retirement
    unfolding completing_day
    same_month q =
        let y : d.year ≡ retirement.year = omega arith in
        let z : d.month ≡ retirement.month = omega arith in
        rw (y, z) at g

    from_day : is_before retirement d ≡ ltb age months
    from_day =
        by_month_number retirement d accepted.retired.month_from accepted.retired.month_to m.0 m.1
        ∙ by (eqb (month_number retirement) (month_number d)) refl (ltb retirement.day (completing_day birth retirement)) refl (ltb (month_number retirement) (month_number d)) refl
      where
        by : (t : Bool) → eqb (month_number retirement) (month_number d) ≡ t
            → (s : Bool) → ltb retirement.day (completing_day birth retirement) ≡ s
            → (u : Bool) → ltb (month_number retirement) (month_number d) ≡ u
            → cond t (ltb retirement.day d.day) u ≡ ltb age months
        by true p true q u r = rw (same_month (eqb-true _ _ p), q, lt-ltb age months (omega (arith, counted true q, eqb-true)))
        by true p false q u r = rw (same_month (eqb-true _ _ p), q, le-ltb age months (omega (arith, counted false q, eqb-true)))
        by false p s q true r = sym (lt-ltb age months (omega (arith, counted s q, ltb-true)))
        by false p s q false r =
            let at_most_one = both_sides (λ (n : ℕ). n ≤ 1) s 1 0 (omega arith) (omega arith) in
            sym (le-ltb age months (omega (arith, counted s q, at_most_one, ltb-false, eqb-false)))

  -- retirement is before that day exactly where the age is below so many months: they are completed from it on, and not before it
  pub completed_from : (months : ℕ) → is_before retirement (completion_date birth months) ≡ ltb age months
  unfolding completing_day
  completed_from months =
      from_day months (completion_date birth months) (omega arith, omega arith) (omega arith) refl
