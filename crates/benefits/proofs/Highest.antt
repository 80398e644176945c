-- Final pay is the highest pay of years 3 to 1, and its year the latest that has it.
use mathlib.Core.Path.{◌≡◌, refl}
use mathlib.Core.Bool.{Bool, true, false, cond}
use Prim.Native.Nat.{ℕ, ◌≤◌, ◌<◌, max}
use native.Mathlib.Omega.{arith}
use lib.Dec.{eqb}
use borrow.Author.Tests.{eqb-true, eqb-false, eq-eqb, ne_eqb}
use Rattle.benefits.specs.declared.FinalPay.{FinalPay}
use Rattle.benefits.specs.Steps.{of_year, pay_in, final_pay, final_year, best_pay}

-- what holds of the three years' values holds of the one picked
pub of_year_lem : {A : Type 0} (P : A → Type 0) (year : ℕ) {a b c : A} → P a → P b → P c → P (of_year year a b c)
of_year_lem {A} P year {a} {b} {c} h k l = by (eqb year 3) (eqb year 2)
  where
    by : (s t : Bool) → P (cond s a (cond t b c))
    by true t = h
    by false true = k
    by false false = l

-- whichever year is picked
pub final_highest : (f : FinalPay) (year : ℕ) → pay_in f year ≤ final_pay f
unfolding final_pay
final_highest f year = of_year_lem (λ (pay : ℕ). pay ≤ final_pay f) year (omega arith) (omega arith) (omega arith)

-- of the last two years alone
after_three : (year a : ℕ) {b c limit : ℕ} → year < 3 → b < limit → c < limit → of_year year a b c < limit
after_three year a {b} {c} {limit} h k l = by (eqb year 3) (eqb year 2) refl
  where
    by : (s t : Bool) → eqb year 3 ≡ s → cond s a (cond t b c) < limit
    by true t e = omega (arith, eqb-true)
    by false true e = k
    by false false e = l

-- of years 3 to 1 a year with the highest pay, after which no year has it
pub record Latest (f : FinalPay) (year : ℕ) : Type 0 where
  pub from : 1 ≤ year
  pub to : year ≤ 3
  pub highest : pay_in f year ≡ final_pay f
  pub later : (other : ℕ) → 1 ≤ other → other < year → pay_in f other < final_pay f

pub final_latest : (f : FinalPay) → Latest f (final_year f)
unfolding final_year final_pay
final_latest f = by (eqb f.pay1.0 (final_pay f)) (eqb f.pay2.0 (final_pay f)) refl refl
  where
    by : (s t : Bool) → eqb f.pay1.0 (final_pay f) ≡ s → eqb f.pay2.0 (final_pay f) ≡ t → Latest f (cond s 1 (cond t 2 3))
    by true t p q =
        record {
          from = omega arith;
          to = omega arith;
          highest = eqb-true _ _ p;
          later = λ other h k. omega arith;
        }
    by false true p q =
        record {
          from = omega arith;
          to = omega arith;
          highest = eqb-true _ _ q;
          later = λ other h k. let last : other ≡ 1 = omega arith in rw last (omega (arith, eqb-false));
        }
    by false false p q =
        record {
          from = omega arith;
          to = omega arith;
          highest = omega (arith, eqb-false);
          later = λ other h k. after_three other f.pay3.0 k (omega (arith, eqb-false)) (omega (arith, eqb-false));
        }

-- by comparing the pays
module _ (f : FinalPay) where
  best : (pay year : ℕ) → final_pay f ≡ pay → cond (eqb f.pay1.0 pay) 1 (cond (eqb f.pay2.0 pay) 2 3) ≡ year → best_pay f ≡ record { pay = record { 0 = pay }; year = year }
  unfolding best_pay final_year
  best pay year e g = rw e (λ i. record { pay = record { 0 = pay }; year = g i })

  pub best_1 : max f.pay3.0 f.pay2.0 ≤ f.pay1.0 → best_pay f ≡ record { pay = f.pay1; year = 1 }
  unfolding final_pay
  best_1 h = best f.pay1.0 1 (omega arith) (rw (eq-eqb f.pay1.0 f.pay1.0 refl))

  pub best_2 : f.pay1.0 < max f.pay3.0 f.pay2.0 → f.pay3.0 ≤ f.pay2.0 → best_pay f ≡ record { pay = f.pay2; year = 2 }
  unfolding final_pay
  best_2 h k = best f.pay2.0 2 (omega arith) (rw (ne_eqb f.pay1.0 f.pay2.0 (omega arith), eq-eqb f.pay2.0 f.pay2.0 refl))

  pub best_3 : f.pay1.0 < max f.pay3.0 f.pay2.0 → f.pay2.0 < f.pay3.0 → best_pay f ≡ record { pay = f.pay3; year = 3 }
  unfolding final_pay
  best_3 h k = best f.pay3.0 3 (omega arith) (rw (ne_eqb f.pay1.0 f.pay3.0 (omega arith), ne_eqb f.pay2.0 f.pay3.0 (omega arith)))
