-- The running case as the code holds it: what each frame makes of it, and what closing reads off it. The parts that it hands frames to are those of
-- `years`, `section`, `factors` and `debits`.
use Rattle.std.specs.Prelude.{ℕ, Bool, ◌&&◌, cond, List, leb, eqb, Ok, Err}
use Rattle.measures.specs.Refusals.{within, unless, first_refusal}
use Rattle.measures.specs.Tries.{after}
use Rattle.calendar.specs.declared.Date.{Date}
use Rattle.benefits.specs.Steps.{charge, charge_ups}
use Rattle.frames.specs.declared.Member.{Member}
use Rattle.frames.specs.declared.Frame.{Frame}
use Rattle.frames.specs.Frames.{Decoded}
use Rattle.frames.specs.Limits.{member_refusal}
use Rattle.rules.specs.Outcomes.{Outcome}
use Rattle.rules.specs.declared.SchemeAmounts.{SchemeAmounts}
use Rattle.years.specs.declared.YearsState.{YearsState}
use Rattle.section.specs.declared.SectionState.{SectionState}
use Rattle.factors.specs.declared.FactorsState.{FactorsState}
use Rattle.debits.specs.declared.DebitsState.{DebitsState}
use Rattle.years.specs.Years.{no_years, year_fields, post_fields, pension_now, ups_now, with_year, with_post, YearsBounds}
use Rattle.section.specs.Section.{no_section, final_pay_of, pay_fields, with_pay, ten_pays_fields, with_ten_pays, pay_held, earned_of, SectionBounds}
use Rattle.factors.specs.Factors.{no_factors, factors_for, factor_fields, with_factor, factors_held, reduced_by, DatedBounds}
use Rattle.debits.specs.Debits.{no_debits, debit_fields, with_debit, debits_of, net_of, DebitsBounds}
use Rattle.cases.specs.declared.order.Stage.{Stage}
use Rattle.cases.specs.declared.Case.{Case}

-- ---- the case with no frame

-- a date with noughts
abbrev pub no_date : Date
no_date = record { year = 0; month = 0; day = 0 }

-- a member with noughts
abbrev pub no_member : Member
no_member = record { birth = no_date; retirement = no_date; section = 0; pension_age = 0; section_pension_age = 0 }

-- noughts throughout
unfoldable pub start : Case
start = record { stage = Stage.Empty; member = no_member; years = no_years; section = no_section; factors = no_factors; debits = no_debits }

-- ---- the refusal of a frame

-- the number of a stage, in their order
abbrev pub stage_number : Stage → ℕ
stage_number Stage.Empty = 0
stage_number Stage.Member = 1
stage_number Stage.Years = 2
stage_number Stage.Pay = 3
stage_number Stage.Factors = 4
stage_number Stage.Debits = 5

-- whether a frame may follow, by the number of the stage: 0 without a frame, 1 after the 01, 2 after an 02 or 03, 3 after the 04 or 08, 4 after an 05,
-- 5 after an 06
unfoldable pub in_order_at : ℕ → ℕ → Frame → Bool
in_order_at stage section (Frame.Member m) = eqb stage 0
in_order_at stage section (Frame.Year y) = within 1 2 stage
in_order_at stage section (Frame.Post x) = eqb stage 2
in_order_at stage section (Frame.FinalPay f) = within 1 2 stage && eqb section 1
in_order_at stage section (Frame.Factor f) = within 1 4 stage
in_order_at stage section (Frame.Debit d) = leb 1 stage
in_order_at stage section (Frame.TenPays t) = within 1 2 stage && eqb section 2

-- the refusal of its fields, by the part that takes it
unfoldable pub case_fields : Case → Frame → ℕ
case_fields c (Frame.Member m) = member_refusal m
case_fields c (Frame.Year y) = year_fields c.years y
case_fields c (Frame.Post x) = post_fields c.years x
case_fields c (Frame.FinalPay f) = pay_fields c.section f
case_fields c (Frame.Factor f) = factor_fields c.member.section c.factors f
case_fields c (Frame.Debit d) = debit_fields c.member.section c.debits d
case_fields c (Frame.TenPays t) = ten_pays_fields c.section t

-- 4, then its fields
unfoldable pub case_refusal : Case → Frame → ℕ
case_refusal c f = first_refusal (unless (in_order_at (stage_number c.stage) c.member.section f) 4) (case_fields c f)

-- ---- the case advanced by a frame

-- the stage after a frame of each kind
abbrev pub stage_of_kind : Frame → Stage
stage_of_kind (Frame.Member m) = Stage.Member
stage_of_kind (Frame.Year y) = Stage.Years
stage_of_kind (Frame.Post x) = Stage.Years
stage_of_kind (Frame.FinalPay f) = Stage.Pay
stage_of_kind (Frame.Factor f) = Stage.Factors
stage_of_kind (Frame.Debit d) = Stage.Debits
stage_of_kind (Frame.TenPays t) = Stage.Pay

-- the case at a stage with other years
abbrev pub at_years : Case → Stage → YearsState → Case
at_years c stage s = record { stage = stage; member = c.member; years = s; section = c.section; factors = c.factors; debits = c.debits }

-- with another section
abbrev pub at_section : Case → Stage → SectionState → Case
at_section c stage s = record { stage = stage; member = c.member; years = c.years; section = s; factors = c.factors; debits = c.debits }

-- with other factors
abbrev pub at_factors : Case → Stage → FactorsState → Case
at_factors c stage s = record { stage = stage; member = c.member; years = c.years; section = c.section; factors = s; debits = c.debits }

-- with other debits
abbrev pub at_debits : Case → Stage → DebitsState → Case
at_debits c stage s = record { stage = stage; member = c.member; years = c.years; section = c.section; factors = c.factors; debits = s }

-- with a member, and the months early of each scheme
abbrev pub at_member : Case → Member → Case
at_member c m = record { stage = Stage.Member; member = m; years = c.years; section = c.section; factors = factors_for m; debits = c.debits }

-- by a frame of any of the seven kinds
unfoldable pub case_next : Case → Frame → Case
case_next c (Frame.Member m) = at_member c m
case_next c (Frame.Year y) = at_years c Stage.Years (with_year c.years y)
case_next c (Frame.Post x) = at_years c Stage.Years (with_post c.years x)
case_next c (Frame.FinalPay f) = at_section c Stage.Pay (with_pay c.section f)
case_next c (Frame.Factor f) = at_factors c Stage.Factors (with_factor c.factors f)
case_next c (Frame.Debit d) = at_debits c Stage.Debits (with_debit c.debits d)
case_next c (Frame.TenPays t) = at_section c Stage.Pay (with_ten_pays c.section t)

-- ---- "taking a frame hands back the case advanced by it; a refused frame hands back the case unchanged": `tried` of these two

-- the refusal of a frame as it is offered
unfoldable pub refusal_of_case : Case → Decoded → ℕ
refusal_of_case c (Ok f) = case_refusal c f
refusal_of_case c (Err number) = number

-- what it makes of a case
unfoldable pub next_of_case : Case → Decoded → Case
next_of_case c (Ok f) = case_next c f
next_of_case c (Err number) = c

-- "It starts from a case with no frame; each frame is given to the case that the one before handed back"
unfoldable pub after_all : List Decoded → Case
after_all ds = after refusal_of_case next_of_case start ds

-- ---- closing

-- 4, 12 and 13
unfoldable pub open_refusal : Case → ℕ
open_refusal c =
    first_refusal (unless (leb 1 (stage_number c.stage)) 4)
    (first_refusal (unless (pay_held c.member.section c.section) 12) (unless (factors_held c.member.section c.factors) 13))

-- the amounts before the debits
unfoldable pub gross_of : Case → SchemeAmounts
gross_of c = reduced_by c.factors (earned_of c.section c.member.section (pension_now c.years) (ups_now c.years))

-- the refusal, or the nets
unfoldable pub outcome_of : Case → Outcome
outcome_of c =
    cond (eqb (open_refusal c) 0)
    (net_of (gross_of c) (debits_of c.member.section c.debits) (charge (final_pay_of c.section.pay)) (charge_ups (final_pay_of c.section.pay)))
    (Err (record { number = open_refusal c; line = 0 }))

-- ---- how large the numbers of a case are

-- of each part
pub record Bounds (c : Case) : Type 0 where
  pub years : YearsBounds c.years
  pub section : SectionBounds c.section
  pub dated : DatedBounds c.factors.dated
  pub debits : DebitsBounds c.debits
