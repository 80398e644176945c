-- Closing the running case gives the answer of the frames kept.
use Prim.Native.Nat.{ℕ, ◌+◌}
use mathlib.Core.Path.{◌≡◌, refl}
use mathlib.Core.Bool.{Bool, true, false, cond}
use lib.Dec.{eqb}
use Rattle.measures.specs.Refusals.{unless, first_refusal}
use Rattle.benefits.specs.Steps.{charge, charge_ups}
use Rattle.rules.specs.declared.Amounts.{Amounts}
use Rattle.std.specs.Prelude.{Err}
use Rattle.rules.specs.Outcomes.{Outcome}
use Rattle.rules.specs.Rules.{Frames, Kept, nothing, begun, has_section, in_section}
use Rattle.rules.specs.Working.{own_aggregates, own_pay, gross2015, gross1995, gross_lump_sum, debit2015, debit1995, debit_lump_sum, charge_of, ups_from, section_ups, reduction2015, reduction1995, reduction_lump_sum, reduction_ups, debit_ups, charge_ups_of, ups_of, pay_there, factors_there, debits_fit, closing_of, amounts_of, worked_unless, answer_of}
use Rattle.years.specs.Years.{pension_now, ups_now}
use Rattle.section.specs.Section.{final_pay_of, pay_held}
use Rattle.factors.specs.Factors.{factors_held}
use Rattle.debits.specs.Debits.{debits_of, net_of}
use Rattle.years.proofs.Years.{pension_now_lem, ups_now_lem}
use Rattle.section.proofs.Section as section
use Rattle.factors.proofs.Factors as factors
use Rattle.factors.proofs.Factors.{reduced_only, way_only}
use Rattle.debits.proofs.Debits as debits
use Rattle.cases.specs.declared.Case.{Case}
use Rattle.cases.specs.State.{start, open_refusal, gross_of, outcome_of}
use Rattle.cases.proofs.Stages.{stage_begun}
use Rattle.cases.proofs.Represents.{Represents, Holds, Good}

module _ (c : Case) (k : Frames) (h : Holds c k) (g : Good k) where
  pay_is : pay_held c.member.section c.section ≡ pay_there k
  unfolding pay_there has_section
  pay_is = rw h.member (section.held_is c.section k.pay h.section k.member.section g.pay)

  factors_are : factors_held c.member.section c.factors ≡ factors_there k
  unfolding factors_there has_section
  factors_are = rw h.member (factors.held_is c.factors k.member k.factors h.factors k.member.section)

  refusal_is : open_refusal c ≡ first_refusal (unless (pay_there k) 12) (unless (factors_there k) 13)
  unfolding open_refusal
  refusal_is = rw (pay_is, factors_are, h.stage, stage_begun k) refl

  gross_is : gross_of c ≡ record { pension2015 = record { 0 = gross2015 k (own_aggregates k.years) }; pension1995 = record { 0 = gross1995 k (own_pay k.pay) }; lump_sum = record { 0 = gross_lump_sum k (own_pay k.pay) }; ups = ups_from 0 k.years + section_ups k.pay + reduction_ups k }
  unfolding gross_of gross2015 gross1995 gross_lump_sum reduction_ups reduction2015 reduction1995 reduction_lump_sum has_section in_section
  gross_is =
      rw (h.member, section.earned_is c.section k.pay h.section k.member.section g.pay (pension_now c.years) (ups_now c.years), pension_now_lem c.years k.years h.years, ups_now_lem c.years k.years h.years)
      (rw (factors.reduced_is c.factors k.member k.factors h.factors) (rw (reduced_only, reduced_only, way_only, way_only) refl))

  debits_are : debits_of c.member.section c.debits ≡ record { pension2015 = record { 0 = debit2015 k }; pension1995 = record { 0 = debit1995 k }; lump_sum = record { 0 = debit_lump_sum k }; ups = debit_ups k }
  unfolding debit2015 debit1995 debit_lump_sum debit_ups has_section in_section
  debits_are = rw h.member (debits.debits_are c.debits k.debits h.debits k.member.section)

  charge_is : charge (final_pay_of c.section.pay) ≡ charge_of k.pay
  charge_is = section.charge_held c.section k.pay h.section k.member.section g.pay

  charge_ups_are : charge_ups (final_pay_of c.section.pay) ≡ charge_ups_of k.pay
  charge_ups_are = section.charge_ups_held c.section k.pay h.section k.member.section g.pay

-- the refusals at the end in one row
in_row : (a b d : ℕ) (amounts : Amounts) → cond (eqb (first_refusal a b) 0) (worked_unless d amounts) (Err (record { number = first_refusal a b; line = 0 })) ≡ worked_unless (first_refusal a (first_refusal b d)) amounts
unfolding worked_unless
in_row a b d amounts = by (eqb a 0) refl (eqb b 0) refl
  where
    refused : ℕ → Outcome
    refused n = Err (record { number = n; line = 0 })

    by : (s : Bool) → eqb a 0 ≡ s → (t : Bool) → eqb b 0 ≡ t
        → cond (eqb (cond s b a) 0) (worked_unless d amounts) (refused (cond s b a)) ≡ worked_unless (cond s (cond t d b) a) amounts
    by true p true q = rw q refl
    by true p false q = rw q refl
    by false p t q = rw p refl

pub closing_agrees : (c : Case) (k : Kept) → Represents c k → outcome_of c ≡ answer_of k
unfolding outcome_of answer_of closing_of net_of debits_fit amounts_of ups_of open_refusal start
closing_agrees c nothing h = rw h refl
closing_agrees c (begun k) h =
    rw (refusal_is c k h.0 h.1, gross_is c k h.0 h.1, debits_are c k h.0 h.1, charge_is c k h.0 h.1, charge_ups_are c k h.0 h.1)
    (in_row (unless (pay_there k) 12) (unless (factors_there k) 13) (unless (debits_fit k) 14) (amounts_of k))
