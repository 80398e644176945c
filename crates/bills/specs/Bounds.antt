-- How large the numbers of an accepted change of employer are.
use Rattle.std.specs.Prelude.{◌≤◌, ◌<◌}
use Rattle.measures.specs.Limits.{highest_pay}
use Rattle.benefits.specs.declared.FinalPay.{FinalPay}
use Rattle.benefits.specs.Limits.{highest_allowance}
use Rattle.benefits.specs.Bounds.{FinalPayBounds}
use Rattle.bills.specs.declared.Change.{Change}

pub record ChangeBounds (f : FinalPay) (c : Change) : Type 0 where
  pub final_pay : FinalPayBounds f
  pub old_pay : c.old_pay.0 ≤ highest_pay
  pub old_days : 0 < c.old_days
  pub new_pay : c.new_pay.0 ≤ highest_pay
  pub new_days : 0 < c.new_days
  pub price_increase : c.price_increase ≤ highest_allowance
