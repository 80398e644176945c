-- Scheme Pays debits, as a case holds them: the refusal of an 06, what it makes of them, and the net amounts.
use Rattle.std.specs.Prelude.{ℕ, ◌+◌, ◌*◌, ◌-◌, ◌≤◌, Bool, true, ◌&&◌, cond, leb, ltb, eqb, Option, Some, None}
use Rattle.measures.specs.Refusals.{unless, first_refusal}
use Rattle.measures.specs.Rounding.{upward}
use Rattle.measures.specs.declared.Counted.{Counted}
use Rattle.benefits.specs.Limits.{highest_pot}
use Rattle.benefits.specs.Steps.{pension_debit, pension_debit_way, lump_debit}
use Rattle.frames.specs.declared.Debit.{Debit}
use Rattle.frames.specs.Limits.{is_section, debit_refusal}
use Rattle.rules.specs.Outcomes.{Outcome}
use Rattle.rules.specs.Working.{worked_unless}
use Rattle.rules.specs.declared.SchemeAmounts.{SchemeAmounts}
use Rattle.debits.specs.declared.DebitsState.{DebitsState}

-- no debit
abbrev pub no_debit : Counted
no_debit = record { amount = record { 0 = 0 }; ups = 0 }

-- no 06 yet
abbrev pub no_debits : DebitsState
no_debits = record { previous = None; pension2015 = no_debit; pension1995 = no_debit }

-- ---- by an 06

-- whether a scheme is above that of the previous 06
abbrev pub above_previous : Option ℕ → ℕ → Bool
above_previous None scheme = true
above_previous (Some previous) scheme = ltb previous scheme

-- an 06: 11
unfoldable pub debit_fields : ℕ → DebitsState → Debit → ℕ
debit_fields section s d = first_refusal (debit_refusal d section) (unless (above_previous s.previous d.scheme) 11)

-- the debit where it is of that scheme, else the debit before
unfoldable pub debit_by : Counted → ℕ → Debit → Counted
debit_by before scheme d =
    cond (eqb d.scheme scheme)
    (record { amount = record { 0 = pension_debit d.pot.0 d.factor }; ups = upward (pension_debit_way d.pot.0 d.factor) }) before

-- the debit of its scheme; the next 06 is of a higher one
unfoldable pub with_debit : DebitsState → Debit → DebitsState
with_debit s d = record { previous = Some d.scheme; pension2015 = debit_by s.pension2015 0 d; pension1995 = debit_by s.pension1995 1 d }

-- ---- closing

-- what there is of the section's debit, 0 without a section
unfoldable pub pension_if : ℕ → ℕ → ℕ
pension_if section debit = cond (is_section section) debit 0

-- that of the lump sum, in the 1995 Section alone
unfoldable pub lump_if : ℕ → ℕ → ℕ
lump_if section debit = cond (eqb section 1) (lump_debit debit) 0

-- the debit of each amount
unfoldable pub debits_of : ℕ → DebitsState → SchemeAmounts
debits_of section s =
    record {
      pension2015 = s.pension2015.amount;
      pension1995 = record { 0 = pension_if section s.pension1995.amount.0 };
      lump_sum = record { 0 = lump_if section (pension_if section s.pension1995.amount.0) };
      ups = s.pension2015.ups + pension_if section s.pension1995.ups;
    }

-- each debit is at most what it is taken from
abbrev pub covered : SchemeAmounts → SchemeAmounts → Bool
covered g d =
    leb d.pension2015.0 g.pension2015.0 && leb d.pension1995.0 g.pension1995.0 && leb d.lump_sum.0 g.lump_sum.0

-- each amount less its debit, with the charge and all upward roundings, or 14
unfoldable pub net_of : SchemeAmounts → SchemeAmounts → ℕ → ℕ → Outcome
net_of g d charge charge_ups =
    worked_unless (unless (covered g d) 14)
    (record {
      net_2015 = record { 0 = g.pension2015.0 - d.pension2015.0 };
      net_1995 = record { 0 = g.pension1995.0 - d.pension1995.0 };
      net_lump_sum = record { 0 = g.lump_sum.0 - d.lump_sum.0 };
      charge = record { 0 = charge };
      ups = g.ups + d.ups + charge_ups;
    })

-- the highest debit: that of the highest pot, by a factor of a hundredth
abbrev pub highest_debit : ℕ
highest_debit = 100 * highest_pot

-- how large the section's debit is, and how often each was rounded
pub record DebitsBounds (s : DebitsState) : Type 0 where
  pub pension1995 : s.pension1995.amount.0 ≤ highest_debit
  pub ups2015 : s.pension2015.ups ≤ 1
  pub ups1995 : s.pension1995.ups ≤ 1
