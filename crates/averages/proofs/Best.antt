-- The best three consecutive years: no other three have a higher sum, and no later three have the same. A higher pay gives no lower a pension.
use Prim.Native.Nat.{ℕ, ◌+◌, ◌≤◌, ◌<◌}
use mathlib.Core.Path.{◌≡◌, refl, ap}
use mathlib.Core.Bool.{Bool, true, false, cond}
use mathlib.Core.List.{List, [], ◌∷◌, ◌++◌, map}
use native.Mathlib.Nat.{le_trans, le_refl, mul-le-mul}
use native.Mathlib.Omega.{arith}
use lib.Dec.{ltb}
use lib.ListN.{length}
use borrow.Author.Tests.{ltb-true, ltb-false}
use Rattle.measures.specs.Lists.{All}
use Rattle.measures.proofs.Lists.{all_map}
use Rattle.measures.proofs.Rounding.{rounded_mono}
use Rattle.averages.specs.declared.TenPays.{TenPays}
use Rattle.averages.specs.declared.Three.{Three}
use Rattle.averages.specs.Averages.{pays_of, threes, three, better, best_of, best_three, average, average_pay, averages, full_service2008, pension2008}

-- each is at most a number
abbrev pub AllAtMost : ℕ → List ℕ → Type 0
AllAtMost most ns = All (λ n. n ≤ most) ns

-- each is below a number
abbrev pub AllBelow : ℕ → List ℕ → Type 0
AllBelow limit ns = All (λ n. n < limit) ns

pub all_wider : {m n : ℕ} (xs : List ℕ) → m ≤ n → AllAtMost m xs → AllAtMost n xs
all_wider xs h a = all_map _ _ (λ x p. le_trans p h) xs a

-- ---- the highest

-- neither of two is above the better of them
module _ (sum year : ℕ) (later : Three) where
  better_own : sum ≤ (better sum year later).sum.0
  unfolding better
  better_own = by (ltb later.sum.0 sum) refl
    where
      by : (t : Bool) → ltb later.sum.0 sum ≡ t → sum ≤ (cond t (three sum year) later).sum.0
      by true e = le_refl sum
      by false e = ltb-false _ _ e

  better_later : later.sum.0 ≤ (better sum year later).sum.0
  unfolding better
  better_later = by (ltb later.sum.0 sum) refl
    where
      by : (t : Bool) → ltb later.sum.0 sum ≡ t → later.sum.0 ≤ (cond t (three sum year) later).sum.0
      by true e = omega (arith, ltb-true)
      by false e = le_refl later.sum.0

pub best_highest : (ss : List ℕ) → AllAtMost (best_of ss).sum.0 ss
unfolding best_of
best_highest [] = tt
best_highest (s ∷ []) = (le_refl s, tt)
best_highest (s ∷ r ∷ later) =
    let rest = best_of (r ∷ later) in
    (better_own s _ rest, all_wider (r ∷ later) (better_later s _ rest) (best_highest (r ∷ later)))

averages_most : (most : ℕ) (ss : List ℕ) → AllAtMost most ss → AllAtMost (average most) (map average ss)
unfolding average
averages_most most [] a = tt
averages_most most (s ∷ later) a = (rounded_mono 3 (omega arith) a.0, averages_most most later a.1)

-- no three consecutive years average more than the pay taken
pub average_most : (t : TenPays) → AllAtMost (average_pay t) (averages t)
unfolding average_pay best_three
average_most t = averages_most _ (threes (pays_of t)) (best_highest (threes (pays_of t)))

-- ---- the latest

-- "of equal averages, the latest": the sum is one of the list, its year is counted from the end, and each later sum is below it
pub record Latest (ss : List ℕ) (best : Three) : Type 0 where
  pub earlier : List ℕ
  pub later : List ℕ
  pub is : ss ≡ earlier ++ best.sum.0 ∷ later
  pub year : best.year ≡ length later + 1
  pub below : AllBelow best.sum.0 later

pub best_latest : (s : ℕ) (ss : List ℕ) → Latest (s ∷ ss) (best_of (s ∷ ss))
unfolding best_of better
best_latest s [] = record { earlier = []; later = []; is = refl; year = refl; below = tt }
best_latest s (r ∷ later) = by (ltb (best_of (r ∷ later)).sum.0 s) refl (best_latest r later)
  where
    by : (t : Bool) → ltb (best_of (r ∷ later)).sum.0 s ≡ t → Latest (r ∷ later) (best_of (r ∷ later)) → Latest (s ∷ r ∷ later) (cond t (three s (length (r ∷ later) + 1)) (best_of (r ∷ later)))
    by true e l =
        record {
          earlier = [];
          later = r ∷ later;
          is = refl;
          year = refl;
          below = all_map _ _ (λ x p. omega (arith, ltb-true)) (r ∷ later) (best_highest (r ∷ later));
        }
    by false e l = record { earlier = s ∷ l.earlier; later = l.later; is = ap (λ (xs : List ℕ). s ∷ xs) l.is; year = l.year; below = l.below }

-- of the ten pays
pub three_latest : (t : TenPays) → Latest (threes (pays_of t)) (best_three t)
unfolding best_three threes
three_latest t = best_latest _ _

-- ten years have eight threes of consecutive years
pub eight_threes : (t : TenPays) → length (threes (pays_of t)) ≡ 8
unfolding threes
eight_threes t = refl

-- ---- the pension

pub pension2008_mono : {a b : ℕ} (days : ℕ) → a ≤ b → pension2008 a days ≤ pension2008 b days
unfolding pension2008
pension2008_mono days h = rounded_mono full_service2008 (omega arith) (mul-le-mul h (le_refl days))
