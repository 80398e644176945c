-- "Steps" over the frames kept: one working, ours and a rival's, from the parts and the final pay that it picks.
use Rattle.std.specs.Prelude.{ℕ, ◌+◌, ◌-◌, Bool, ◌&&◌, ◌||◌, not, cond, List, [], ◌∷◌, leb, eqb, ℤ, pos, negsuc, Ok, Err}
use Rattle.std.proofs.Math.Option.{Option, none, some}
use Rattle.measures.specs.Refusals.{unless, first_refusal}
use Rattle.measures.specs.Rounding.{upward}
use Rattle.measures.specs.declared.Way.{Way}
use Rattle.calendar.specs.Dates.{months_early}
use Rattle.posts.specs.Posts.{aggregate, aggregate_pay, aggregate_way, parts}
use Rattle.benefits.specs.Steps.{after_year, after_year_ups, final_pay, section_pension, section_pension_way, lump_sum, reduced, reduced_way, pension_debit, pension_debit_way, lump_debit, charge, charge_ups}
use Rattle.averages.specs.Averages.{average_pay, average_way, averages, pension2008, pension2008_way}
use Rattle.frames.specs.declared.Member.{Member}
use Rattle.frames.specs.declared.Factor.{Factor}
use Rattle.frames.specs.declared.Debit.{Debit}
use Rattle.rules.specs.declared.Amounts.{Amounts}
use Rattle.rules.specs.Outcomes.{Outcome}
use Rattle.rules.specs.Rules.{WorkedYear, SectionPay, of1995, of2008, Frames, Kept, nothing, begun, given, has_section, in_section}

-- ---- Months early

-- "which may be nought or negative; then nothing is reduced": 0 where it is not positive
abbrev pub if_positive : ℤ → ℕ
if_positive (pos months) = months
if_positive (negsuc months) = 0

-- months early of a member at a pension age, 0 where retirement is not early
unfoldable pub early : Member → ℕ → ℕ
early m pensionAge = if_positive (months_early m.birth m.retirement pensionAge)

-- "Pension age is the member's for the 2015 Scheme"
abbrev pub early2015 : Member → ℕ
early2015 m = early m m.pension_age

-- "The section's months early are then taken from the byte."
abbrev pub early1995 : Member → ℕ
early1995 m = early m m.section_pension_age

-- ---- Years, with the aggregate of each

-- "For each year in order it becomes rounded(pension × (10,000 + r)/10,000) + rounded(aggregate/54)"
unfoldable pub pension_from : ℕ → List WorkedYear → List ℕ → ℕ
pension_from pension [] aggregates = pension
pension_from pension (y ∷ ys) [] = pension
pension_from pension (y ∷ ys) (a ∷ later) = pension_from (after_year pension y.year.revaluation a) ys later

-- "The pension starts at 0."
unfoldable pub pension_of : List WorkedYear → List ℕ → ℕ
pension_of years aggregates = pension_from 0 years aggregates

-- ours: the aggregates that the posts step gives
abbrev pub own_aggregates : List WorkedYear → List ℕ
own_aggregates [] = []
own_aggregates (y ∷ ys) = aggregate_pay y.posts ∷ own_aggregates ys

-- the parts that it gives
abbrev pub own_parts : List WorkedYear → List (List ℕ)
own_parts [] = []
own_parts (y ∷ ys) = parts y.posts ∷ own_parts ys

-- a rival's: what the parts that it picks are worth, "best in minutes times rate, which is how the rival workings are then valued" (2.7)
abbrev pub rival_aggregates : List WorkedYear → List (List ℕ) → List ℕ
rival_aggregates [] qs = []
rival_aggregates (y ∷ ys) [] = []
rival_aggregates (y ∷ ys) (q ∷ qs) = aggregate y.posts q ∷ rival_aggregates ys qs

-- ---- The pay of the section: final pay, or the average of ten pays

-- "any of years 3 to 1 for final pay; without a section there is none to pick";
-- "The largest-benefit statement ranges over which three consecutive years are taken."
abbrev pub candidates : Option SectionPay → List ℕ
candidates none = []
candidates (some (of1995 f)) = f.pay3.0 ∷ f.pay2.0 ∷ f.pay1.0 ∷ []
candidates (some (of2008 t)) = averages t

-- ours: "the highest of years 3 to 1"; "the rounded average of the best three consecutive years among ten given"
unfoldable pub own_pay : Option SectionPay → ℕ
own_pay none = 0
own_pay (some (of1995 f)) = final_pay f
own_pay (some (of2008 t)) = average_pay t

-- "The 1995 pension is rounded(final pay × service days/29,200)"; of the 2008 Section "rounded(pay × days/21,900)",
-- "its net is given in the 1995 place"
unfoldable pub pension1995 : Option SectionPay → ℕ → ℕ
pension1995 none pay = 0
pension1995 (some (of1995 f)) pay = section_pension pay f.days
pension1995 (some (of2008 t)) pay = pension2008 pay t.days

-- ---- Reduction

-- "for exactly that scheme and month"
abbrev pub is_for : ℕ → ℕ → Factor → Bool
is_for scheme months f = eqb f.scheme scheme && eqb f.months.0 months

-- the first of two that is there
abbrev pub or_else : {A : Type 0} → Option A → Option A → Option A
or_else none other = other
or_else (some x) other = some x

-- "the factors for exactly that scheme and month", of which 10 lets no second be kept
unfoldable pub factor_for : ℕ → ℕ → List Factor → Option Factor
factor_for scheme months [] = none
factor_for scheme months (f ∷ fs) = or_else (factor_for scheme months fs) (cond (is_for scheme months f) (some f) none)

-- "pension factor 2, lump factor 2, both in thousandths": the pension's
abbrev pub pension_factor : Option Factor → ℕ
pension_factor none = 0
pension_factor (some f) = f.pension

-- the lump sum's
abbrev pub lump_factor : Option Factor → ℕ
lump_factor none = 0
lump_factor (some f) = f.lump

-- "If months early is positive, pension and lump sum become rounded(amount × factor/1,000)"
unfoldable pub reduced_if : ℕ → ℕ → ℕ → ℕ
reduced_if months factor amount = cond (eqb months 0) amount (reduced amount factor)

-- the factors for the 2015 Scheme at the member's months early
abbrev pub factor2015 : Frames → Option Factor
factor2015 k = factor_for 0 (early2015 k.member) k.factors

-- for scheme 1: "Scheme 1 in factors and debits then means this section"
abbrev pub factor1995 : Frames → Option Factor
factor1995 k = factor_for 1 (early1995 k.member) k.factors

-- the 2015 pension before its debit, of any aggregates
unfoldable pub gross2015 : Frames → List ℕ → ℕ
gross2015 k aggregates = reduced_if (early2015 k.member) (pension_factor (factor2015 k)) (pension_of k.years aggregates)

-- the section's pension before its debit, of any pay; "without a section [..] the 1995 nets are 0"
unfoldable pub gross1995 : Frames → ℕ → ℕ
gross1995 k pay =
    cond (has_section k) (reduced_if (early1995 k.member) (pension_factor (factor1995 k)) (pension1995 k.pay pay)) 0

-- the lump sum before its debit; in the 2008 Section "there is no lump sum"
unfoldable pub gross_lump_sum : Frames → ℕ → ℕ
gross_lump_sum k pay =
    cond (in_section 1 k) (reduced_if (early1995 k.member) (lump_factor (factor1995 k)) (lump_sum (pension1995 k.pay pay))) 0

-- ---- Debit

-- the 06 of a scheme, of which 11 lets no second be kept
unfoldable pub debit_for : ℕ → List Debit → Option Debit
debit_for scheme [] = none
debit_for scheme (d ∷ ds) = or_else (debit_for scheme ds) (cond (eqb d.scheme scheme) (some d) none)

-- "Pension debit = rounded(pot × 100/factor in hundredths)"; "Without its 06 a debit is 0."
unfoldable pub debit_of : Option Debit → ℕ
debit_of none = 0
debit_of (some d) = pension_debit d.pot.0 d.factor

-- the debit of the 2015 pension
unfoldable pub debit2015 : Frames → ℕ
debit2015 k = debit_of (debit_for 0 k.debits)

-- the debit of the section's pension; without a section "the 1995 nets are 0"
unfoldable pub debit1995 : Frames → ℕ
debit1995 k = cond (has_section k) (debit_of (debit_for 1 k.debits)) 0

-- "lump debit in the 1995 Section = 3 times it"; in the 2008 Section "the debit touches pension only"
unfoldable pub debit_lump_sum : Frames → ℕ
debit_lump_sum k = cond (in_section 1 k) (lump_debit (debit1995 k)) 0

-- ---- Charge

-- the employer's charge, 0 without an 04; in the 2008 Section "no charge arises"
unfoldable pub charge_of : Option SectionPay → ℕ
charge_of none = 0
charge_of (some (of1995 f)) = charge f
charge_of (some (of2008 t)) = 0

-- ---- Which way a penny went (2.6): of our own working, the steps that round, in their order

-- of a year: the aggregate, "rounded once", the pension revalued, and the 54th
unfoldable pub year_ups : ℕ → WorkedYear → ℕ
year_ups pension y = upward (aggregate_way y.posts) + after_year_ups pension y.year.revaluation (aggregate_pay y.posts)

-- of each year in order
unfoldable pub ups_from : ℕ → List WorkedYear → ℕ
ups_from pension [] = 0
ups_from pension (y ∷ ys) = year_ups pension y + ups_from (after_year pension y.year.revaluation (aggregate_pay y.posts)) ys

-- of the section's pension: "with 2.4's pension and its one average taken, the best before rounding"
unfoldable pub section_ups : Option SectionPay → ℕ
section_ups none = 0
section_ups (some (of1995 f)) = upward (section_pension_way (final_pay f) f.days)
section_ups (some (of2008 t)) = upward (average_way t) + upward (pension2008_way (average_pay t) t.days)

-- of a reduction; one that is not made rounds nothing
unfoldable pub reduced_if_way : ℕ → ℕ → ℕ → Way
reduced_if_way months factor amount = cond (eqb months 0) Way.Exact (reduced_way amount factor)

-- that of the 2015 pension
unfoldable pub reduction2015 : Frames → Way
reduction2015 k =
    reduced_if_way (early2015 k.member) (pension_factor (factor2015 k)) (pension_of k.years (own_aggregates k.years))

-- of the section's pension
unfoldable pub reduction1995 : Frames → Way
reduction1995 k =
    cond (has_section k)
    (reduced_if_way (early1995 k.member) (pension_factor (factor1995 k)) (pension1995 k.pay (own_pay k.pay))) Way.Exact

-- of the lump sum
unfoldable pub reduction_lump_sum : Frames → Way
reduction_lump_sum k =
    cond (in_section 1 k)
    (reduced_if_way (early1995 k.member) (lump_factor (factor1995 k)) (lump_sum (pension1995 k.pay (own_pay k.pay)))) Way.Exact

-- of all three
unfoldable pub reduction_ups : Frames → ℕ
reduction_ups k = upward (reduction2015 k) + upward (reduction1995 k) + upward (reduction_lump_sum k)

-- of a debit; "Without its 06 a debit is 0", and nothing is rounded
unfoldable pub debit_way : Option Debit → Way
debit_way none = Way.Exact
debit_way (some d) = pension_debit_way d.pot.0 d.factor

-- of both debits, scheme 1's where the member has a section
unfoldable pub debit_ups : Frames → ℕ
debit_ups k = upward (debit_way (debit_for 0 k.debits)) + cond (has_section k) (upward (debit_way (debit_for 1 k.debits))) 0

-- of the charge, where there is an 04
unfoldable pub charge_ups_of : Option SectionPay → ℕ
charge_ups_of none = 0
charge_ups_of (some (of1995 f)) = charge_ups f
charge_ups_of (some (of2008 t)) = 0

-- "a worked case carries the count of its upward roundings [..]. The count equals that of the steps in document 01"
unfoldable pub ups_of : Frames → ℕ
ups_of k = ups_from 0 k.years + section_ups k.pay + reduction_ups k + debit_ups k + charge_ups_of k.pay

-- ---- Closing

-- "12, section 1 without 04"; "12 when section 2 has no 08": 4 lets no other section's frame be kept
unfoldable pub pay_there : Frames → Bool
pay_there k = not (has_section k) || given k.pay

-- "13, months early positive without that factor (even for a pension of 0)"
abbrev pub factor_there : ℕ → Option Factor → Bool
factor_there months factor = eqb months 0 || given factor

-- "the 2015 Scheme first, scheme 1 only where the member has a section"
unfoldable pub factors_there : Frames → Bool
factors_there k =
    factor_there (early2015 k.member) (factor2015 k)
    && (not (has_section k) || factor_there (early1995 k.member) (factor1995 k))

-- "14, a debit above what it is taken from"
unfoldable pub debits_fit : Frames → Bool
debits_fit k =
    leb (debit2015 k) (gross2015 k (own_aggregates k.years))
    && leb (debit1995 k) (gross1995 k (own_pay k.pay))
    && leb (debit_lump_sum k) (gross_lump_sum k (own_pay k.pay))

-- "closing for 4 (no 01), 12, 13, 14": the refusal, 0 for none
unfoldable pub closing_of : Kept → ℕ
closing_of nothing = 4
closing_of (begun k) = first_refusal (unless (pay_there k) 12) (first_refusal (unless (factors_there k) 13) (unless (debits_fit k) 14))

-- ---- The amounts given

-- "Net = reduced less debit."; with the count of 2.6
unfoldable pub amounts_of : Frames → Amounts
amounts_of k =
    record {
      net_2015 = record { 0 = gross2015 k (own_aggregates k.years) - debit2015 k };
      net_1995 = record { 0 = gross1995 k (own_pay k.pay) - debit1995 k };
      net_lump_sum = record { 0 = gross_lump_sum k (own_pay k.pay) - debit_lump_sum k };
      charge = record { 0 = charge_of k.pay };
      ups = ups_of k;
    }

-- the worked case, or the refusal: "At the end, line 0"
unfoldable pub worked_unless : ℕ → Amounts → Outcome
worked_unless refusal amounts = cond (eqb refusal 0) (Ok amounts) (Err (record { number = refusal; line = 0 }))

-- what the frames kept come to
unfoldable pub answer_of : Kept → Outcome
answer_of nothing = Err (record { number = 4; line = 0 })
answer_of (begun k) = worked_unless (closing_of (begun k)) (amounts_of k)

-- ---- An outcome in the numbers of the paper

-- the refusal, 0 for none
unfoldable pub number_of : Outcome → ℕ
number_of (Ok amounts) = 0
number_of (Err refusal) = refusal.number

-- its line, "0 for no line"
unfoldable pub line_of : Outcome → ℕ
line_of (Ok amounts) = 0
line_of (Err refusal) = refusal.line

-- the amounts; refused, "All amounts 0.", and a count that is "nought for a refused one"
unfoldable pub amounts_given : Outcome → Amounts
amounts_given (Ok amounts) = amounts
amounts_given (Err refusal) =
    record { net_2015 = record { 0 = 0 }; net_1995 = record { 0 = 0 }; net_lump_sum = record { 0 = 0 }; charge = record { 0 = 0 }; ups = 0 }
