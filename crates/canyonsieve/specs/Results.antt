-- The numbers that C passes, as the records of the papers, and what C gets in numbers.
use Rattle.std.specs.Prelude.{ℕ, ◌≡◌}
use Rattle.measures.specs.Answers.{number_unless}
use Rattle.benefits.specs.declared.FinalPay.{FinalPay}
use Rattle.bills.specs.declared.Change.{Change}
use Rattle.bills.specs.Employers.{old_charge, new_charge, change_refusal}
use Rattle.rules.specs.Outcomes.{Outcome}
use Rattle.rules.specs.Working.{number_of, line_of, amounts_given}
use Rattle.canyonsieve.specs.declared.ChargeFigures.{ChargeFigures}
use Rattle.canyonsieve.specs.declared.CaseFigures.{CaseFigures}

-- the ten numbers of a final pay frame
abbrev pub final_pay_of : ℕ → ℕ → ℕ → ℕ → ℕ → ℕ → ℕ → ℕ → ℕ → ℕ → FinalPay
final_pay_of pay4 pay3 pay2 pay1 allowance3 allowance2 allowance1 controls days factor =
    record {
      pay4 = record { 0 = pay4 };
      pay3 = record { 0 = pay3 };
      pay2 = record { 0 = pay2 };
      pay1 = record { 0 = pay1 };
      allowance3 = allowance3;
      allowance2 = allowance2;
      allowance1 = allowance1;
      controls = controls;
      days = days;
      factor = factor;
    }

-- the five numbers of a change of employer
abbrev pub change_of : ℕ → ℕ → ℕ → ℕ → ℕ → Change
change_of old_pay old_days new_pay new_days price_increase =
    record {
      old_pay = record { 0 = old_pay };
      old_days = old_days;
      new_pay = record { 0 = new_pay };
      new_days = new_days;
      price_increase = price_increase;
    }

-- every field of what C gets for a change of employer: the refusal, and both charges, noughts when refused
pub record BothCharges (f : FinalPay) (c : Change) (r : ChargeFigures) : Type 0 where
  pub refusal : r.refusal ≡ change_refusal f c
  pub old_employer : r.old_charge ≡ number_unless (change_refusal f c) (old_charge f c)
  pub new_employer : r.new_charge ≡ number_unless (change_refusal f c) (new_charge f c)

-- every field of what C gets for a case: the refusal with its line, and the amounts with the count of upward roundings, noughts when refused
pub record Flat (o : Outcome) (r : CaseFigures) : Type 0 where
  pub refusal : r.refusal ≡ number_of o
  pub line : r.line ≡ line_of o
  pub net2015 : r.net_2015 ≡ (amounts_given o).net_2015.0
  pub net1995 : r.net_1995 ≡ (amounts_given o).net_1995.0
  pub net_lump_sum : r.net_lump_sum ≡ (amounts_given o).net_lump_sum.0
  pub charge : r.charge ≡ (amounts_given o).charge.0
  pub rounded_up : r.rounded_up ≡ (amounts_given o).ups
