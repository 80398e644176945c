-- Request 2.1, "A change of employer in year 2", in its order. Amounts are in pence.
use Rattle.std.specs.Prelude.{ℕ, ◌+◌, ◌*◌, ◌-◌, Bool, ◌&&◌, cond, leb, eqb}
use Rattle.measures.specs.Rounding.{rounded, way, upward}
use Rattle.measures.specs.Limits.{highest_pay}
use Rattle.measures.specs.Refusals.{unless, first_refusal}
use Rattle.measures.specs.Answers.{AnswerOfTwo, answer_of_two}
use Rattle.measures.specs.declared.Way.{Way}
use Rattle.benefits.specs.declared.FinalPay.{FinalPay}
use Rattle.benefits.specs.Limits.{highest_allowance}
use Rattle.benefits.specs.Steps.{final_year, controlled, raised, raised_way, allowed3_way, allowed2, allowed2_way, charge_from, charge_from_ups, final_pay_refusal}
use Rattle.bills.specs.declared.Change.{Change}

-- "Pay with each employer in year 2 is annualised as rounded(pay × 365/days)."
unfoldable pub annualised : ℕ → ℕ → ℕ
annualised pay days = rounded (pay * 365) days

-- which way it went
unfoldable pub annualised_way : ℕ → ℕ → Way
annualised_way pay days = way (pay * 365) days

-- "The old employer's excess is annualised pay above allowed year 2, raised by the final year's price increase in thousandths, rounded."
unfoldable pub old_excess : FinalPay → Change → ℕ
old_excess f c = raised (annualised c.old_pay.0 c.old_days - allowed2 f) c.price_increase

-- how many roundings on the way to it went up
unfoldable pub old_excess_ups : FinalPay → Change → ℕ
old_excess_ups f c =
    upward (annualised_way c.old_pay.0 c.old_days) + upward (allowed3_way f) + upward (allowed2_way f)
    + upward (raised_way (annualised c.old_pay.0 c.old_days - allowed2 f) c.price_increase)

-- "The new employer's excess is year 1 pay above its own annualised pay with that year's allowance."
unfoldable pub new_excess : FinalPay → Change → ℕ
new_excess f c = f.pay1.0 - raised (annualised c.new_pay.0 c.new_days) f.allowance1

-- how many roundings on the way to it went up
unfoldable pub new_excess_ups : FinalPay → Change → ℕ
new_excess_ups f c =
    upward (annualised_way c.new_pay.0 c.new_days)
    + upward (raised_way (annualised c.new_pay.0 c.new_days) f.allowance1)

-- "Each excess becomes a charge by document 01's step; it is 0 where its year's control bit is 0."
unfoldable pub charge_in : FinalPay → ℕ → ℕ → ℕ
charge_in f year over = cond (controlled f.controls year) (charge_from over f.days f.factor) 0

-- how many of its roundings went up
unfoldable pub charge_in_ups : FinalPay → ℕ → ℕ → ℕ
charge_in_ups f year over = cond (controlled f.controls year) (charge_from_ups over f.days f.factor) 0

-- the old employer's charge: its excess is that of year 2
unfoldable pub old_charge : FinalPay → Change → ℕ
old_charge f c = charge_in f 2 (old_excess f c)

-- the new employer's charge: its excess is that of year 1
unfoldable pub new_charge : FinalPay → Change → ℕ
new_charge f c = charge_in f 1 (new_excess f c)

-- "9 tries both part pays as pays and the price increase as an allowance.", turned round
unfoldable pub parts_within : Change → Bool
parts_within c = leb c.old_pay.0 highest_pay && leb c.new_pay.0 highest_pay && leb c.price_increase highest_allowance

-- "when either number of days is 0, the two together exceed 366," turned round
unfoldable pub days_within : Change → Bool
days_within c = leb 1 c.old_days && leb 1 c.new_days && leb (c.old_days + c.new_days) 366

-- "It refuses with 26, after 9, when .. days .., or final pay isn't that of year 1."
unfoldable pub change_refusal : FinalPay → Change → ℕ
change_refusal f c =
    first_refusal (first_refusal (final_pay_refusal f) (unless (parts_within c) 9)) (unless (days_within c && eqb (final_year f) 1) 26)

-- "we need both charges"; "Refused, this call .. gives 0 for its numbers"
unfoldable pub change_answer : FinalPay → Change → AnswerOfTwo
change_answer f c = answer_of_two (change_refusal f c) (old_charge f c) (new_charge f c)
