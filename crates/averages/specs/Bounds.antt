-- How large the numbers of ten pays that are not refused can be.
use Rattle.std.specs.Prelude.{◌≤◌}
use Rattle.measures.specs.Limits.{highest_pay}
use Rattle.benefits.specs.Limits.{most_days}
use Rattle.averages.specs.declared.TenPays.{TenPays}
use Rattle.averages.specs.declared.AveragePay.{AveragePay}

-- the numbers of an accepted ten pays frame
pub record TenPaysBounds (t : TenPays) : Type 0 where
  pub pay10 : t.pay10.0 ≤ highest_pay
  pub pay9 : t.pay9.0 ≤ highest_pay
  pub pay8 : t.pay8.0 ≤ highest_pay
  pub pay7 : t.pay7.0 ≤ highest_pay
  pub pay6 : t.pay6.0 ≤ highest_pay
  pub pay5 : t.pay5.0 ≤ highest_pay
  pub pay4 : t.pay4.0 ≤ highest_pay
  pub pay3 : t.pay3.0 ≤ highest_pay
  pub pay2 : t.pay2.0 ≤ highest_pay
  pub pay1 : t.pay1.0 ≤ highest_pay
  pub days : t.days ≤ most_days

-- what a case holds of them
pub record AveragePayBounds (a : AveragePay) : Type 0 where
  pub pay : a.pay.0 ≤ highest_pay
  pub days : a.days ≤ most_days
  pub ups : a.ups ≤ 1
