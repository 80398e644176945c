-- What holds of every element of a list, by its end, at a place, and of a weaker statement.
use mathlib.Core.List.{List, [], ◌∷◌, ◌++◌}
use Prim.Native.Nat.{ℕ, zero, suc, ◌+◌, ◌<◌}
use mathlib.Core.Path.{◌≡◌, refl}
use native.Mathlib.Nat.{not-suc-le-zero, le_of_suc-le-suc}
use native.Mathlib.Omega.{arith}
use lib.ListN.{length, get_or}
use Rattle.measures.specs.Lists.{All}

module _ {A : Type 0} (P : A → Type 0) where
  pub all_end : (xs : List A) (x : A) → All P xs → P x → All P (xs ++ x ∷ [])
  all_end [] x a p = (p, tt)
  all_end (y ∷ xs) x a p = (a.0, all_end xs x a.1 p)

  pub all_init : (xs : List A) (x : A) → All P (xs ++ x ∷ []) → All P xs × P x
  all_init [] x a = (tt, a.0)
  all_init (y ∷ xs) x a = let r = all_init xs x a.1 in ((a.0, r.0), r.1)

  pub all_at : (xs : List A) (i : ℕ) (d : A) → All P xs → i < length xs → P (get_or xs i d)
  all_at [] i d a g = absurd (not-suc-le-zero g)
  all_at (x ∷ xs) zero d a g = a.0
  all_at (x ∷ xs) (suc i) d a g = all_at xs i d a.1 (le_of_suc-le-suc g)

  pub all_map : (Q : A → Type 0) → ((x : A) → P x → Q x) → (xs : List A) → All P xs → All Q xs
  all_map Q f [] a = tt
  all_map Q f (x ∷ xs) a = (f x a.0, all_map Q f xs a.1)

pub length_end : {A : Type 0} (xs : List A) (x : A) → length (xs ++ x ∷ []) ≡ length xs + 1
length_end [] x = refl
length_end (y ∷ ys) x = omega (arith, length_end ys x)
