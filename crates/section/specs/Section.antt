-- The pay of the member's section, as a case holds it: what an 04 or an 08 makes of it, and what closing reads off it.
use Rattle.std.specs.Prelude.{ℕ, ◌+◌, Bool, ◌||◌, not, cond, eqb, Option, Some, None, is_some}
use Rattle.measures.specs.Rounding.{upward}
use Rattle.benefits.specs.declared.FinalPay.{FinalPay}
use Rattle.benefits.specs.Steps.{final_pay, section_pension, section_pension_way, lump_sum, final_pay_refusal}
use Rattle.benefits.specs.Bounds.{FinalPayBounds}
use Rattle.averages.specs.declared.TenPays.{TenPays}
use Rattle.averages.specs.declared.AveragePay.{AveragePay}
use Rattle.averages.specs.Averages.{averaged, pension2008, pension2008_way, ten_pays_refusal}
use Rattle.averages.specs.Bounds.{AveragePayBounds}
use Rattle.frames.specs.Limits.{is_section}
use Rattle.rules.specs.declared.SchemeAmounts.{SchemeAmounts}
use Rattle.section.specs.declared.HeldPay.{HeldPay}
use Rattle.section.specs.declared.SectionState.{SectionState}

-- a final pay with noughts
abbrev pub no_pay : FinalPay
no_pay =
    record {
      pay4 = record { 0 = 0 };
      pay3 = record { 0 = 0 };
      pay2 = record { 0 = 0 };
      pay1 = record { 0 = 0 };
      allowance3 = 0;
      allowance2 = 0;
      allowance1 = 0;
      controls = 0;
      days = 0;
      factor = 0;
    }

-- an average pay with noughts
abbrev pub no_average : AveragePay
no_average = record { pay = record { 0 = 0 }; year = 0; days = 0; ups = 0 }

-- no pay frame yet
abbrev pub no_section : SectionState
no_section = record { pay = None }

-- the final pay held, noughts without one
abbrev pub final_pay_of : Option HeldPay → FinalPay
final_pay_of None = no_pay
final_pay_of (Some (HeldPay.FinalPay f)) = f
final_pay_of (Some (HeldPay.Average a)) = no_pay

-- the average pay held, noughts without one
abbrev pub average_of : Option HeldPay → AveragePay
average_of None = no_average
average_of (Some (HeldPay.FinalPay f)) = no_average
average_of (Some (HeldPay.Average a)) = a

-- ---- by an 04

-- an 04: 9
unfoldable pub pay_fields : SectionState → FinalPay → ℕ
pay_fields s f = final_pay_refusal f

-- the final pay
unfoldable pub with_pay : SectionState → FinalPay → SectionState
with_pay s f = record { pay = Some (HeldPay.FinalPay f) }

-- ---- by an 08

-- an 08: 27
unfoldable pub ten_pays_fields : SectionState → TenPays → ℕ
ten_pays_fields s t = ten_pays_refusal t

-- its average pay
unfoldable pub with_ten_pays : SectionState → TenPays → SectionState
with_ten_pays s t = record { pay = Some (HeldPay.Average (averaged t)) }

-- ---- closing

-- the pay frame that a section wants is there; else 12
unfoldable pub pay_held : ℕ → SectionState → Bool
pay_held section s = not (is_section section) || is_some s.pay

-- the 1995 pension of a final pay
unfoldable pub pension_of_pay : FinalPay → ℕ
pension_of_pay f = section_pension (final_pay f) f.days

-- whether its rounding went up
unfoldable pub ups_of_pay : FinalPay → ℕ
ups_of_pay f = upward (section_pension_way (final_pay f) f.days)

-- how many of the roundings of an average pay and its pension went up
unfoldable pub ups_of_average : AveragePay → ℕ
ups_of_average a = a.ups + upward (pension2008_way a.pay.0 a.days)

-- the pension of the member's section
unfoldable pub pension_earned : ℕ → SectionState → ℕ
pension_earned section s =
    cond (eqb section 1) (pension_of_pay (final_pay_of s.pay)) (cond (eqb section 2) (pension2008 (average_of s.pay).pay.0 (average_of s.pay).days) 0)

-- how many of its roundings went up
unfoldable pub ups_earned_by : ℕ → SectionState → ℕ
ups_earned_by section s = cond (eqb section 1) (ups_of_pay (final_pay_of s.pay)) (cond (eqb section 2) (ups_of_average (average_of s.pay)) 0)

-- the lump sum that goes with it, in the 1995 Section alone
unfoldable pub lump_earned : ℕ → ℕ → ℕ
lump_earned section pension = cond (eqb section 1) (lump_sum pension) 0

-- the amounts before any reduction, with the 2015 pension and its upward roundings beside those of the section
unfoldable pub earned_of : SectionState → ℕ → ℕ → ℕ → SchemeAmounts
earned_of s section pension ups =
    record {
      pension2015 = record { 0 = pension };
      pension1995 = record { 0 = pension_earned section s };
      lump_sum = record { 0 = lump_earned section (pension_earned section s) };
      ups = ups + ups_earned_by section s;
    }

-- how large its numbers are
pub record SectionBounds (s : SectionState) : Type 0 where
  pub pay : FinalPayBounds (final_pay_of s.pay)
  pub average : AveragePayBounds (average_of s.pay)
