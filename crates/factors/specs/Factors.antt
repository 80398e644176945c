-- Months early and the factors found, as a case holds them: the refusal of an 05, what it makes of them, and the reduction.
use Rattle.std.specs.Prelude.{ℕ, ◌+◌, ◌≤◌, Bool, true, ◌&&◌, ◌||◌, not, cond, ltb, eqb, Option, Some, None, is_some, unwrap_or}
use Rattle.measures.specs.Refusals.{unless, first_refusal}
use Rattle.measures.specs.Rounding.{upward}
use Rattle.benefits.specs.Limits.{highest_early_factor}
use Rattle.frames.specs.declared.Member.{Member}
use Rattle.frames.specs.declared.Factor.{Factor}
use Rattle.frames.specs.Limits.{is_section, factor_refusal}
use Rattle.rules.specs.Working.{early2015, early1995, is_for, reduced_if, reduced_if_way}
use Rattle.rules.specs.declared.SchemeAmounts.{SchemeAmounts}
use Rattle.factors.specs.declared.PreviousFactor.{PreviousFactor}
use Rattle.factors.specs.declared.FoundFactor.{FoundFactor}
use Rattle.factors.specs.declared.SchemeFactors.{SchemeFactors}
use Rattle.factors.specs.declared.Dated.{Dated}
use Rattle.factors.specs.declared.FactorsState.{FactorsState}

-- noughts where no factor is found
abbrev pub no_factor : FoundFactor
no_factor = record { pension = 0; lump = 0 }

-- the factors found
abbrev pub factors_of : Option FoundFactor → FoundFactor
factors_of found = unwrap_or found no_factor

-- no factors yet for months early
abbrev pub none_for : ℕ → SchemeFactors
none_for months = record { early = record { 0 = months }; found = None }

-- no date, no factors
abbrev pub no_dated : Dated
no_dated = record { of2015 = none_for 0; of1995 = none_for 0 }

-- neither
abbrev pub no_factors : FactorsState
no_factors = record { previous = None; dated = no_dated }

-- ---- by an 01

-- the months that a factor is wanted for, of each scheme, and no factor yet
unfoldable pub dated_for : Member → Dated
dated_for m = record { of2015 = none_for (early2015 m); of1995 = none_for (early1995 m) }

-- and no 05 yet
unfoldable pub factors_for : Member → FactorsState
factors_for m = record { previous = None; dated = dated_for m }

-- ---- by an 05

-- whether it stands after the previous one, by scheme and then months
unfoldable pub after_previous : Option PreviousFactor → Factor → Bool
after_previous None f = true
after_previous (Some p) f = ltb p.scheme f.scheme || (eqb p.scheme f.scheme && ltb p.months.0 f.months.0)

-- an 05: 10
unfoldable pub factor_fields : ℕ → FactorsState → Factor → ℕ
factor_fields section s f = first_refusal (factor_refusal f section) (unless (after_previous s.previous f) 10)

-- the factor where it is for exactly that scheme and month, else what was found before
unfoldable pub found_by : Option FoundFactor → ℕ → ℕ → Factor → Option FoundFactor
found_by before scheme months f =
    cond (is_for scheme months f) (Some (record { pension = f.pension; lump = f.lump })) before

-- those of a scheme with an 05 more
abbrev pub read_by : SchemeFactors → ℕ → Factor → SchemeFactors
read_by s scheme f = record { early = s.early; found = found_by s.found scheme s.early.0 f }

-- the same of both schemes
unfoldable pub dated_by : Dated → Factor → Dated
dated_by d f = record { of2015 = read_by d.of2015 0 f; of1995 = read_by d.of1995 1 f }

-- it is the previous one, and is found where it is for exactly the months early
unfoldable pub with_factor : FactorsState → Factor → FactorsState
with_factor s f = record { previous = Some (record { scheme = f.scheme; months = f.months }); dated = dated_by s.dated f }

-- ---- closing

-- the factor that months early want, where they are positive
abbrev pub wanted_found : ℕ → Option FoundFactor → Bool
wanted_found months f = eqb months 0 || is_some f

-- every factor that is wanted, by the member's section; else 13
unfoldable pub factors_held : ℕ → FactorsState → Bool
factors_held section s =
    wanted_found s.dated.of2015.early.0 s.dated.of2015.found
    && (not (is_section section) || wanted_found s.dated.of1995.early.0 s.dated.of1995.found)

-- how many of the three reductions went up
unfoldable pub reductions_by : FactorsState → SchemeAmounts → ℕ
reductions_by s a =
    upward (reduced_if_way s.dated.of2015.early.0 (factors_of s.dated.of2015.found).pension a.pension2015.0)
    + upward (reduced_if_way s.dated.of1995.early.0 (factors_of s.dated.of1995.found).pension a.pension1995.0)
    + upward (reduced_if_way s.dated.of1995.early.0 (factors_of s.dated.of1995.found).lump a.lump_sum.0)

-- the amounts reduced, each by its own factor
unfoldable pub reduced_by : FactorsState → SchemeAmounts → SchemeAmounts
reduced_by s a =
    record {
      pension2015 = record { 0 = reduced_if s.dated.of2015.early.0 (factors_of s.dated.of2015.found).pension a.pension2015.0 };
      pension1995 = record { 0 = reduced_if s.dated.of1995.early.0 (factors_of s.dated.of1995.found).pension a.pension1995.0 };
      lump_sum = record { 0 = reduced_if s.dated.of1995.early.0 (factors_of s.dated.of1995.found).lump a.lump_sum.0 };
      ups = a.ups + reductions_by s a;
    }

-- how large the factors of an 05 are, in thousandths
pub record FoundBounds (f : FoundFactor) : Type 0 where
  pub pension : f.pension ≤ highest_early_factor
  pub lump : f.lump ≤ highest_early_factor

-- of both schemes
pub record DatedBounds (d : Dated) : Type 0 where
  pub factor2015 : FoundBounds (factors_of d.of2015.found)
  pub factor1995 : FoundBounds (factors_of d.of1995.found)
