-- What is known of dates and a pension age that are not refused.
use Prim.Native.Nat.{ℕ, ◌≤◌}
use mathlib.Core.Bool.{Bool, true, false, ◌&&◌, not, cond}
use mathlib.Core.Path.{◌≡◌, refl}
use native.Mathlib.Nat.{le_trans}
use native.Mathlib.Omega.{arith}
use lib.Dec.{lit≤}
use lib.IntN.{pos}
use borrow.Author.Tests.{ne_eqb, not-true}
use Rattle.measures.specs.Refusals.{within, unless}
use Rattle.measures.proofs.Tests.{passed, parts}
use Rattle.calendar.specs.declared.Date.{Date}
use Rattle.calendar.specs.Dates.{month_length, date_stands, is_before, dates_refusal, months_early, dates_number}
use Rattle.calendar.specs.Ranges.{InRange, Accepted}

either : (t : Bool) (m n : ℕ) → m ≤ 31 → n ≤ 31 → cond t m n ≤ 31
either true m n p q = p
either false m n p q = q

-- no month is longer than 31 days
pub month_length_bound : (year month : ℕ) → month_length year month ≤ 31
unfolding month_length
month_length_bound year month = search (either, lit≤, tt)

-- the numbers of a date that stands
pub stands_in_range : (d : Date) → date_stands d ≡ true → InRange d
unfolding date_stands
stands_in_range d e =
    let day_to : d.day ≤ month_length d.year d.month = search parts in
    record {
      year_from = search parts;
      year_to = search parts;
      month_from = search parts;
      month_to = search parts;
      day_from = search parts;
      day_to = le_trans day_to (month_length_bound d.year d.month);
    }

-- the test behind refusal 5
abbrev accepts : Date → Date → ℕ → Bool
accepts birth retirement pensionAge =
    date_stands birth && date_stands retirement && not (is_before retirement birth) && within 55 75 pensionAge

module _ (birth retirement : Date) (pensionAge : ℕ) (e : dates_refusal birth retirement pensionAge ≡ 0) where
  held : accepts birth retirement pensionAge ≡ true
  unfolding dates_refusal
  held = passed _ 5 (omega arith) e

  -- dates that are not refused
  pub accepted : Accepted birth retirement
  accepted =
      let t = held in
      record {
        born = stands_in_range birth (search parts);
        retired = stands_in_range retirement (search parts);
        order = not-true _ (search parts);
      }

  -- a pension age that is not refused
  pub accepted_age : (55 ≤ pensionAge) × (pensionAge ≤ 75)
  accepted_age = let t = held in (search parts, search parts)

  -- the number given is the months early
  pub accepted_number : months_early birth retirement pensionAge ≡ dates_number birth retirement pensionAge
  unfolding dates_number
  accepted_number = rw e

refused : (t : Bool) (n : ℕ) → (unless t n ≡ 0 → ⊥) → unless t n ≡ n
refused true n h = absurd (h refl)
refused false n h = refl

module _ (birth retirement : Date) (pensionAge : ℕ) (h : dates_refusal birth retirement pensionAge ≡ 0 → ⊥) where
  -- the refusal is 5
  pub refused_5 : dates_refusal birth retirement pensionAge ≡ 5
  unfolding dates_refusal
  refused_5 = refused (accepts birth retirement pensionAge) 5 h

  -- the number given is 0
  pub refused_number : pos 0 ≡ dates_number birth retirement pensionAge
  unfolding dates_number
  refused_number = rw (ne_eqb _ 0 h)

-- what the dates call takes
pub ruleset answers = (accepted, accepted_age, accepted_number, refused_number, refused_5)
