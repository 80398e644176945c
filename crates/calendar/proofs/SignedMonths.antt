-- Months as signed numbers of the machine.
use Prim.Native.Nat.{ℕ, zero, suc, ◌-◌, ◌≤◌}
use mathlib.Core.Path.{◌≡◌, ◌∙◌, ap}
use native.Mathlib.Omega.{arith}
use lib.IntN.{ℤ, pos, neg_ℤ, ◌-ℤ◌}
use mir.Syntax.{w64}
use mir.Val.{SFits, to_z, of_z}
use mir.Facts.{to_z-of_z}
use Rattle.calendar.specs.Ranges.{most_late}
use Rattle.measures.proofs.Integers.{more}

module _ (n : ℕ) (h : n ≤ most_late) where
  -- months fit, and are read as they are
  pub months_fit : SFits w64 (pos n)
  months_fit = omega arith

  pub months_read : to_z w64 n ≡ pos n
  months_read = to_z-of_z months_fit

minus_fits : (n : ℕ) → n ≤ most_late → SFits w64 (neg_ℤ (pos n))
minus_fits zero h = omega arith
minus_fits (suc n) h = omega arith

module _ (n : ℕ) (h : n ≤ most_late) where
  same : n - 0 ≡ n
  same = omega arith

  minus : pos 0 -ℤ to_z w64 n ≡ neg_ℤ (pos n)
  minus = ap (λ (z : ℤ). pos 0 -ℤ z) (months_read n h) ∙ more 0 n (omega arith) ∙ ap (λ (k : ℕ). neg_ℤ (pos k)) same

  -- below nought too
  pub late_fits : SFits w64 (pos 0 -ℤ to_z w64 n)
  late_fits = rw minus (minus_fits n h)

  pub late_read : to_z w64 (of_z w64 (pos 0 -ℤ to_z w64 n)) ≡ neg_ℤ (pos n)
  late_read = to_z-of_z late_fits ∙ minus

-- either
pub ruleset reads = (months_read, late_read)
