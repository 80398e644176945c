-- Document 01's steps on amounts, in its order: years, final pay, reduction, debit, charge, abatement. Amounts are in pence.
-- Beside each step that rounds, which way it went: "Every step that rounds passes that on" (2.6).
use Rattle.std.specs.Prelude.{ℕ, ◌+◌, ◌*◌, ◌-◌, ◌/◌, ◌%◌, ◌^◌, min, max, Bool, ◌&&◌, cond, leb, eqb}
use Rattle.measures.specs.Rounding.{rounded, way, upward}
use Rattle.measures.specs.Limits.{highest_pay}
use Rattle.measures.specs.Refusals.{within, unless, first_refusal}
use Rattle.measures.specs.Answers.{Answer, answer_with}
use Rattle.measures.specs.declared.Way.{Way}
use Rattle.benefits.specs.declared.FinalPay.{FinalPay}
use Rattle.benefits.specs.declared.BestPay.{BestPay}
use Rattle.benefits.specs.Limits.{highest_allowance, most_days, highest_charge_factor, highest_amount}

-- ---- Years

-- "rounded(pension × (10,000 + r)/10,000)"; "r is that year's revaluation in ten-thousandths"
unfoldable pub revalued : ℕ → ℕ → ℕ
revalued pension r = rounded (pension * (10000 + r)) 10000

-- which way it went
unfoldable pub revalued_way : ℕ → ℕ → Way
revalued_way pension r = way (pension * (10000 + r)) 10000

-- "rounded(aggregate/54)"
unfoldable pub accrued : ℕ → ℕ
accrued aggregate = rounded aggregate 54

-- which way it went
unfoldable pub accrued_way : ℕ → Way
accrued_way aggregate = way aggregate 54

-- "For each year in order it becomes rounded(pension × (10,000 + r)/10,000) + rounded(aggregate/54)"
unfoldable pub after_year : ℕ → ℕ → ℕ → ℕ
after_year pension r aggregate = revalued pension r + accrued aggregate

-- how many of both went up
unfoldable pub after_year_ups : ℕ → ℕ → ℕ → ℕ
after_year_ups pension r aggregate = upward (revalued_way pension r) + upward (accrued_way aggregate)

-- ---- Final pay

-- of three things the one of year 3, 2 or 1: "year 1 being the last"
abbrev pub of_year : {A : Type 0} → ℕ → A → A → A → A
of_year year three two one = cond (eqb year 3) three (cond (eqb year 2) two one)

-- the pay of year 3, 2 or 1
abbrev pub pay_in : FinalPay → ℕ → ℕ
pay_in f year = of_year year f.pay3.0 f.pay2.0 f.pay1.0

-- Final pay, as document 01 defines it: "Final pay is the highest of years 3 to 1"
unfoldable pub final_pay : FinalPay → ℕ
final_pay f = max f.pay3.0 (max f.pay2.0 f.pay1.0)

-- its year: "of equals, the later year"
unfoldable pub final_year : FinalPay → ℕ
final_year f = cond (eqb f.pay1.0 (final_pay f)) 1 (cond (eqb f.pay2.0 (final_pay f)) 2 3)

-- final pay with its year
unfoldable pub best_pay : FinalPay → BestPay
best_pay f = record { pay = record { 0 = final_pay f }; year = final_year f }

-- the days of service that earn a pension of the whole final pay
abbrev pub full_service : ℕ
full_service = 29200

-- "The 1995 pension is rounded(final pay × service days/29,200)"
unfoldable pub section_pension : ℕ → ℕ → ℕ
section_pension pay days = rounded (pay * days) full_service

-- which way it went
unfoldable pub section_pension_way : ℕ → ℕ → Way
section_pension_way pay days = way (pay * days) full_service

-- the lump sum for each penny of 1995 pension
abbrev pub lump_times : ℕ
lump_times = 3

-- "the lump sum 3 times that"
unfoldable pub lump_sum : ℕ → ℕ
lump_sum pension = lump_times * pension

-- ---- Reduction

-- "pension and lump sum become rounded(amount × factor/1,000)"
unfoldable pub reduced : ℕ → ℕ → ℕ
reduced amount factor = rounded (amount * factor) 1000

-- which way it went
unfoldable pub reduced_way : ℕ → ℕ → Way
reduced_way amount factor = way (amount * factor) 1000

-- ---- Debit

-- "Pension debit = rounded(pot × 100/factor in hundredths)"
unfoldable pub pension_debit : ℕ → ℕ → ℕ
pension_debit pot factor = rounded (pot * 100) factor

-- which way it went
unfoldable pub pension_debit_way : ℕ → ℕ → Way
pension_debit_way pot factor = way (pot * 100) factor

-- "lump debit in the 1995 Section = 3 times it"
unfoldable pub lump_debit : ℕ → ℕ
lump_debit debit = lump_times * debit

-- ---- Charge

-- whether the bit at a place is 1
abbrev pub bit : ℕ → ℕ → Bool
bit controls place = eqb (controls / 2 ^ place % 2) 1

-- "controls 1 (bits 0, 1, 2 for years 3, 2, 1)"
unfoldable pub controlled : ℕ → ℕ → Bool
controlled controls year = of_year year (bit controls 0) (bit controls 1) (bit controls 2)

-- a pay with an allowance of a thousandths: "× (1,000 + a)/1,000", rounded
unfoldable pub raised : ℕ → ℕ → ℕ
raised pay allowance = rounded (pay * (1000 + allowance)) 1000

-- which way it went
unfoldable pub raised_way : ℕ → ℕ → Way
raised_way pay allowance = way (pay * (1000 + allowance)) 1000

-- "three allowances in thousandths [..] (year 3 first)"
abbrev pub allowance_in : FinalPay → ℕ → ℕ
allowance_in f year = of_year year f.allowance3 f.allowance2 f.allowance1

-- a year "applies its own a" to a base; "A year whose control bit is 0 has its pay as allowed."
unfoldable pub allowed_from : FinalPay → ℕ → ℕ → ℕ
allowed_from f year base = cond (controlled f.controls year) (raised base (allowance_in f year)) (pay_in f year)

-- a year whose control bit is 0 rounds nothing
unfoldable pub allowed_from_way : FinalPay → ℕ → ℕ → Way
allowed_from_way f year base = cond (controlled f.controls year) (raised_way base (allowance_in f year)) Way.Exact

-- "Allowed year 3 = rounded(pay 4 × (1,000 + a)/1,000)."
unfoldable pub allowed3 : FinalPay → ℕ
allowed3 f = allowed_from f 3 f.pay4.0

-- which way it went
unfoldable pub allowed3_way : FinalPay → Way
allowed3_way f = allowed_from_way f 3 f.pay4.0

-- "Allowed year 2 applies its own a to the lower of pay 3 and allowed 3;"
unfoldable pub allowed2 : FinalPay → ℕ
allowed2 f = allowed_from f 2 (min f.pay3.0 (allowed3 f))

-- which way it went
unfoldable pub allowed2_way : FinalPay → Way
allowed2_way f = allowed_from_way f 2 (min f.pay3.0 (allowed3 f))

-- "allowed year 1 likewise to year 2."
unfoldable pub allowed1 : FinalPay → ℕ
allowed1 f = allowed_from f 1 (min f.pay2.0 (allowed2 f))

-- which way it went
unfoldable pub allowed1_way : FinalPay → Way
allowed1_way f = allowed_from_way f 1 (min f.pay2.0 (allowed2 f))

-- "all three allowed years count, whichever year gives final pay" (2.6)
unfoldable pub allowed_ups : FinalPay → ℕ
allowed_ups f = upward (allowed3_way f) + upward (allowed2_way f) + upward (allowed1_way f)

-- the allowed pay of year 3, 2 or 1: "that year's allowed"
unfoldable pub allowed_in : FinalPay → ℕ → ℕ
allowed_in f year = of_year year (allowed3 f) (allowed2 f) (allowed1 f)

-- Excess, as document 01 defines it: "Excess = final pay less that year's allowed, not below 0." "Excess in year 2 or 3 is not indexed."
unfoldable pub excess : FinalPay → ℕ
excess f = final_pay f - allowed_in f (final_year f)

-- "Excess pension = rounded(excess × days/29,200)."
unfoldable pub excess_pension : ℕ → ℕ → ℕ
excess_pension over days = section_pension over days

-- which way it went
unfoldable pub excess_pension_way : ℕ → ℕ → Way
excess_pension_way over days = section_pension_way over days

-- "Charge = rounded(excess pension × factor/100) + 3 × excess pension."
unfoldable pub charge_from : ℕ → ℕ → ℕ → ℕ
charge_from over days factor = rounded (excess_pension over days * factor) 100 + lump_times * excess_pension over days

-- its one rounding, that of the product
unfoldable pub charge_product_way : ℕ → ℕ → ℕ → Way
charge_product_way over days factor = way (excess_pension over days * factor) 100

-- how many of both went up: the excess pension's and the product's
unfoldable pub charge_from_ups : ℕ → ℕ → ℕ → ℕ
charge_from_ups over days factor = upward (excess_pension_way over days) + upward (charge_product_way over days factor)

-- the employer's final pay charge
unfoldable pub charge : FinalPay → ℕ
charge f = charge_from (excess f) f.days f.factor

-- how many roundings on the way to it went up
unfoldable pub charge_ups : FinalPay → ℕ
charge_ups f = allowed_ups f + charge_from_ups (excess f) f.days f.factor

-- ---- Abatement

-- Enhancement, as document 01 defines it: "Enhancement = pension − earned pension."
unfoldable pub enhancement : ℕ → ℕ → ℕ
enhancement pension earned = pension - earned

-- "Reduction = new pay + enhancement − previous pay, not below 0 and not above enhancement."
unfoldable pub abatement : ℕ → ℕ → ℕ → ℕ → ℕ
abatement pension earned previous new =
    min ((new + enhancement pension earned) - previous) (enhancement pension earned)

-- ---- When each part declines

-- "a pay above 1,000,000,000," turned round
unfoldable pub pays_within : FinalPay → Bool
pays_within f = leb f.pay4.0 highest_pay && leb f.pay3.0 highest_pay && leb f.pay2.0 highest_pay && leb f.pay1.0 highest_pay

-- "allowance above 1,000, controls above 7, days above 16,425, factor 0 or above 10,000." turned round
unfoldable pub terms_within : FinalPay → Bool
terms_within f =
    leb f.allowance3 highest_allowance && leb f.allowance2 highest_allowance && leb f.allowance1 highest_allowance
    && leb f.controls 7 && leb f.days most_days && within 1 highest_charge_factor f.factor

-- "9, a pay above .., factor 0 or above 10,000."
unfoldable pub final_pay_refusal : FinalPay → ℕ
final_pay_refusal f = unless (pays_within f && terms_within f) 9

-- "an amount above 1,000,000,000,000;" turned round
unfoldable pub amounts_within : ℕ → ℕ → ℕ → ℕ → Bool
amounts_within pension earned previous new =
    leb pension highest_amount && leb earned highest_amount && leb previous highest_amount && leb new highest_amount

-- "24, an amount above 1,000,000,000,000; 25, earned above pension."
unfoldable pub abatement_refusal : ℕ → ℕ → ℕ → ℕ → ℕ
abatement_refusal pension earned previous new =
    first_refusal (unless (amounts_within pension earned previous new) 24) (unless (leb earned pension) 25)

-- "Charge apart: 9." "Each of these calls .. gives 0 for its number when refused."
unfoldable pub charge_answer : FinalPay → Answer
charge_answer f = answer_with (final_pay_refusal f) (charge f)

-- "Abatement apart: 24, an amount above ..; 25, earned above pension."
unfoldable pub abatement_answer : ℕ → ℕ → ℕ → ℕ → Answer
abatement_answer pension earned previous new =
    answer_with (abatement_refusal pension earned previous new) (abatement pension earned previous new)
