-- How large the numbers of the steps can be.
use Rattle.std.specs.Prelude.{ℕ, zero, suc, ◌≤◌}
use Rattle.measures.specs.Limits.{highest_pay, highest_aggregate}
use Rattle.benefits.specs.declared.FinalPay.{FinalPay}
use Rattle.benefits.specs.Limits.{highest_revaluation, highest_allowance, most_days, highest_charge_factor}
use Rattle.benefits.specs.Steps.{after_year}

-- the numbers of an accepted final pay frame
pub record FinalPayBounds (f : FinalPay) : Type 0 where
  pub pay4 : f.pay4.0 ≤ highest_pay
  pub pay3 : f.pay3.0 ≤ highest_pay
  pub pay2 : f.pay2.0 ≤ highest_pay
  pub pay1 : f.pay1.0 ≤ highest_pay
  pub allowance3 : f.allowance3 ≤ highest_allowance
  pub allowance2 : f.allowance2 ≤ highest_allowance
  pub allowance1 : f.allowance1 ≤ highest_allowance
  pub days : f.days ≤ most_days
  pub factor : f.factor ≤ highest_charge_factor

-- the highest pension after so many years: each with the highest revaluation and the highest aggregate
unfoldable pub ceiling : ℕ → ℕ
ceiling zero = 0
ceiling (suc years) = after_year (ceiling years) highest_revaluation highest_aggregate
