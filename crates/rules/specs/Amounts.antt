-- An amount for each benefit: how large, as the steps on it ask; and how many roundings on the way can have gone up.
use Rattle.std.specs.Prelude.{ℕ, ◌+◌, ◌*◌, ◌≤◌, ◌^◌}
use Rattle.rules.specs.declared.SchemeAmounts.{SchemeAmounts}
use Rattle.rules.specs.Rules.{most_years}

-- three of each year: its aggregate, the revaluation and the 54th
abbrev pub ups_of_years : ℕ
ups_of_years = 3 * most_years

-- with those of the section's pension: that of the 2008 Section has two
abbrev pub ups_earned : ℕ
ups_earned = ups_of_years + 2

-- with those of the three reductions
abbrev pub ups_reduced : ℕ
ups_reduced = ups_earned + 3

-- before the reductions, each amount in 64 bits with a factor in thousandths
pub record AmountsBounds (a : SchemeAmounts) : Type 0 where
  pub pension2015 : a.pension2015.0 ≤ 2 ^ 50
  pub pension1995 : a.pension1995.0 ≤ 2 ^ 50
  pub lump_sum : a.lump_sum.0 ≤ 2 ^ 50
  pub ups : a.ups ≤ ups_earned
