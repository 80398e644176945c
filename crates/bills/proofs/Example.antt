-- Two changes of employer by computation: source document 000, example 3, and the one with the largest charges.
use mathlib.Core.Path.{◌≡◌, refl}
use Rattle.measures.specs.Rounding.{rounded}
use Rattle.measures.specs.Answers.{answer_of_two}
use Rattle.std.proofs.Common.{Ok}
use Rattle.benefits.specs.declared.FinalPay.{FinalPay}
use Rattle.benefits.specs.Steps.{final_pay, final_year, section_pension, controlled, raised, allowed_from, allowed3, allowed2, excess_pension, charge_from, pays_within, terms_within, final_pay_refusal}
use Rattle.bills.specs.declared.Change.{Change}
use Rattle.bills.specs.Employers.{annualised, old_excess, new_excess, charge_in, old_charge, new_charge, parts_within, days_within, change_refusal, change_answer}

-- "32 years"; "Pensionable Pay 1 September 2014 - 28 February 2015 (181 days): £35,000", "1 March 2015 - 31 August 2015 (184 days): £45,000"
abbrev pays : FinalPay
pays =
    record {
      pay4 = record { 0 = 5900000 };
      pay3 = record { 0 = 6000000 };
      pay2 = record { 0 = 8000000 };
      pay1 = record { 0 = 9750000 };
      allowance3 = 65;
      allowance2 = 65;
      allowance1 = 65;
      controls = 7;
      days = 11680;
      factor = 2020;
    }

abbrev change : Change
change =
    record {
      old_pay = record { 0 = 3500000 };
      old_days = 181;
      new_pay = record { 0 = 4500000 };
      new_days = 184;
      price_increase = 20;
    }

pub example_3 : change_answer pays change ≡ Ok (record { one = record { 0 = 6323114 }; other = record { 0 = 2256339 } })
unfolding rounded answer_of_two final_pay final_year section_pension controlled raised allowed_from allowed3 allowed2 excess_pension charge_from pays_within terms_within final_pay_refusal annualised old_excess new_excess charge_in old_charge new_charge parts_within days_within change_refusal change_answer
example_3 = refl

abbrev largest : FinalPay
largest =
    record {
      pay4 = record { 0 = 0 };
      pay3 = record { 0 = 0 };
      pay2 = record { 0 = 0 };
      pay1 = record { 0 = 1000000000 };
      allowance3 = 0;
      allowance2 = 0;
      allowance1 = 0;
      controls = 7;
      days = 16425;
      factor = 10000;
    }

abbrev one_day : Change
one_day =
    record {
      old_pay = record { 0 = 1000000000 };
      old_days = 1;
      new_pay = record { 0 = 0 };
      new_days = 1;
      price_increase = 1000;
    }

pub largest_reached : change_answer largest one_day ≡ Ok (record { one = record { 0 = 42294375000000 }; other = record { 0 = 57937500000 } })
unfolding rounded answer_of_two final_pay final_year section_pension controlled raised allowed_from allowed3 allowed2 excess_pension charge_from pays_within terms_within final_pay_refusal annualised old_excess new_excess charge_in old_charge new_charge parts_within days_within change_refusal change_answer
largest_reached = refl
