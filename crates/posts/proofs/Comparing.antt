-- From the comparison of two products to the rank of their posts.
use mathlib.Core.Path.{◌≡◌, refl, sym}
use mathlib.Core.Bool.{Bool, true, false, cond, ◌||◌, ◌&&◌}
use Prim.Native.Nat.{ℕ, ◌*◌, ◌<◌}
use native.Mathlib.Omega.{arith}
use lib.Dec.{leb, ltb}
use borrow.Author.Tests.{ltb-true, ltb-false, lt-ltb, le-ltb, le-leb, lt-leb}
use Rattle.posts.specs.declared.Post.{Post}
use Rattle.posts.specs.Posts.{rate_over, rate_under}
use Rattle.posts.specs.Rates.{ordered, comparison, is_higher, is_equal, ranked_before}
use Rattle.posts.proofs.Pays.{ordered_higher, ordered_lower, ordered_equal, by_products}

-- the rank by the cross products a and b, where y is the earlier or not
abbrev ranked : ℕ → ℕ → Bool → Bool
ranked a b e = cond e (leb a b) (ltb a b)

module _ (a b : ℕ) where
  above : a < b → (e : Bool) → true ≡ ranked a b e
  above g true = sym (le-leb a b (omega arith))
  above g false = sym (lt-ltb a b g)

  level : a ≡ b → (e : Bool) → (e && true) ≡ ranked a b e
  level q true = sym (le-leb a b (omega arith))
  level q false = sym (le-ltb a b (omega arith))

  below : b < a → (e : Bool) → (e && false) ≡ ranked a b e
  below g true = sym (lt-leb a b g)
  below g false = sym (le-ltb a b (omega arith))

  -- the rank by one sum of tests, without a branch
  flat : (e : Bool) → (is_higher (ordered b a) || (e && is_equal (ordered b a))) ≡ ranked a b e
  flat e = go (ltb a b) (ltb b a) refl refl
    where
      go : (s t : Bool) → ltb a b ≡ s → ltb b a ≡ t → (is_higher (ordered b a) || (e && is_equal (ordered b a))) ≡ ranked a b e
      go true t q r = let k = ltb-true a b q in rw (← ordered_higher b a k) (above k e)
      go false true q r = let k = ltb-true b a r in rw (← ordered_lower b a k) (below k e)
      go false false q r =
          let k = ltb-false a b q in
          let l = ltb-false b a r in
          rw (← ordered_equal b a k l) (level (omega arith) e)

-- whether y goes before x by its comparison with x
pub ranks : (x y : Post) (e : Bool) → (is_higher (comparison y x) || (e && is_equal (comparison y x))) ≡ ranked_before x e y
ranks x y e = rw (← by_products y x refl refl) (flat (rate_over x * rate_under y) (rate_over y * rate_under x) e)
