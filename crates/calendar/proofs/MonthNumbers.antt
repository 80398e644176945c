-- Dates by the numbers of their months.
use Prim.Native.Nat.{ℕ, ◌+◌, ◌*◌, ◌≤◌}
use mathlib.Core.Bool.{Bool, true, false, cond}
use mathlib.Core.Path.{◌≡◌, refl}
use native.Mathlib.Omega.{arith}
use lib.Dec.{eqb, ltb}
use borrow.Author.Tests.{eqb-true, eqb-false, ltb-true, ltb-false, eq-eqb, ne_eqb, lt-ltb, le-ltb}
use Rattle.calendar.specs.declared.Date.{Date}
use Rattle.calendar.specs.Dates.{is_before}

-- the number of a date's month, counted from the start of year 0
abbrev pub month_number : Date → ℕ
month_number d = 12 * d.year + d.month

-- the earlier of two dates: by the number of the month, in one month by the day
module _ (a b : Date) (a-from : 1 ≤ a.month) (a-to : a.month ≤ 12) (b-from : 1 ≤ b.month) (b-to : b.month ≤ 12) where
  pub by_month_number : is_before a b ≡ cond (eqb (month_number a) (month_number b)) (ltb a.day b.day) (ltb (month_number a) (month_number b))
  unfolding is_before
  by_month_number = by _ refl _ refl _ refl
    where
      apart : (month_number a ≡ month_number b → ⊥) → eqb (month_number a) (month_number b) ≡ false
      apart = ne_eqb (month_number a) (month_number b)

      by : (t : Bool) → eqb a.year b.year ≡ t → (u : Bool) → eqb a.month b.month ≡ u
          → (s : Bool) → ltb (month_number a) (month_number b) ≡ s
          → cond t (cond u (ltb a.day b.day) (ltb a.month b.month)) (ltb a.year b.year)
          ≡ cond (eqb (month_number a) (month_number b)) (ltb a.day b.day) s
      by true e true f s g = rw (eq-eqb (month_number a) (month_number b) (omega (arith, eqb-true)))
      by true e false f true g =
          rw (apart (omega (arith, eqb-true, eqb-false)), lt-ltb a.month b.month (omega (arith, eqb-true, ltb-true)))
      by true e false f false g =
          rw (apart (omega (arith, eqb-true, eqb-false)), le-ltb a.month b.month (omega (arith, eqb-true, ltb-false)))
      by false e u f true g = rw (apart (omega (arith, eqb-false)), lt-ltb a.year b.year (omega (arith, eqb-false, ltb-true)))
      by false e u f false g = rw (apart (omega (arith, eqb-false)), le-ltb a.year b.year (omega (arith, eqb-false, ltb-false)))
