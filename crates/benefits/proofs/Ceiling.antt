-- The pension after at most 50 years is at most 26,961,298,242,272 pence.
use mathlib.Core.Path.{◌≡◌, refl}
use Prim.Native.Nat.{ℕ, zero, suc, ◌^◌, ◌≤◌}
use native.Mathlib.Nat.{le_refl, le_of_suc-le-suc, not-suc-le-zero}
use native.Mathlib.Omega.{arith}
use Rattle.measures.specs.Rounding.{rounded}
use Rattle.benefits.specs.Limits.{highest_revaluation}
use Rattle.benefits.specs.Steps.{revalued, accrued, after_year}
use Rattle.measures.specs.Limits.{highest_aggregate}
use Rattle.benefits.specs.Bounds.{ceiling}
use Rattle.benefits.proofs.Monotone.{after_year_mono}

-- one year more, within the limits of its frames
pub ceiling_step : (k p r a : ℕ) → p ≤ ceiling k → r ≤ highest_revaluation → a ≤ highest_aggregate → after_year p r a ≤ ceiling (suc k)
unfolding ceiling
ceiling_step k p r a h g l = after_year_mono h g l

pub ceiling_mono : (j k : ℕ) → j ≤ k → ceiling j ≤ ceiling k
unfolding ceiling
ceiling_mono zero k h = omega arith
ceiling_mono (suc j) zero h = absurd (not-suc-le-zero h)
ceiling_mono (suc j) (suc k) h = after_year_mono (ceiling_mono j k (le_of_suc-le-suc h)) (le_refl highest_revaluation) (le_refl highest_aggregate)

pub ceiling_fifty : ceiling 50 ≡ 26961298242272
unfolding ceiling after_year revalued accrued rounded
ceiling_fifty = refl

-- so each year's pension is within what `revalued`, `after_year` and `reduced` require
pub ceiling_fits : (k : ℕ) → k ≤ 50 → ceiling k ≤ 2 ^ 50
ceiling_fits k h = omega (arith, ceiling_mono k 50 h, ceiling_fifty)
