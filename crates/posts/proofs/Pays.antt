-- At every h above nought the pays alone give the answer that the products give, and without a supplement rates compare as document 01's.
use Prim.Native.Nat.{ℕ, ◌*◌, ◌≤◌, ◌<◌}
use mathlib.Core.Path.{◌≡◌, refl, sym, ◌∙◌, ap, ap₂}
use mathlib.Core.Bool.{Bool, true, false, cond}
use native.Mathlib.Nat.{mul-le-mul_right, mul-lt-mul_of_pos_right, mul_comm, mul-pos}
use native.Mathlib.Omega.{arith}
use lib.Dec.{leb, ltb}
use borrow.Author.Tests.{leb-true, leb-false, ltb-true, ltb-false, le-leb, lt-leb, lt-ltb, le-ltb, eq-eqb, ne_eqb}
use Rattle.std.proofs.Common.{Greater, Less, Equal, nat_cmp}
use Rattle.posts.specs.declared.Post.{Post}
use Rattle.posts.specs.Posts.{h, w, p, HasMinutes, NoSupplement, rate_over, rate_under}
use Rattle.posts.specs.Rates.{ordered, comparison}

pub ltb_scaled : (a b m : ℕ) → 0 < m → ltb (a * m) (b * m) ≡ ltb a b
ltb_scaled a b m k = by (ltb a b) refl
  where
    by : (t : Bool) → ltb a b ≡ t → ltb (a * m) (b * m) ≡ t
    by true e = lt-ltb _ _ (mul-lt-mul_of_pos_right (ltb-true a b e) k)
    by false e = le-ltb _ _ (mul-le-mul_right m (ltb-false a b e))

pub leb_scaled : (a b m : ℕ) → 0 < m → leb (a * m) (b * m) ≡ leb a b
leb_scaled a b m k = by (leb a b) refl
  where
    by : (t : Bool) → leb a b ≡ t → leb (a * m) (b * m) ≡ t
    by true e = le-leb _ _ (mul-le-mul_right m (leb-true a b e))
    by false e = lt-leb _ _ (mul-lt-mul_of_pos_right (leb-false a b e) k)

-- "at every h above nought its answer, higher, lower or equal, is the one that the products give", for every two numbers
pub pays_decide : (a b m : ℕ) → 0 < m → ordered a b ≡ ordered (a * m) (b * m)
unfolding ordered
pays_decide a b m k = rw (ltb_scaled b a m k, ltb_scaled a b m k)

-- some answers; at h = 0 the products are equal, whatever the pays
pub pays_shown :
    (ordered 5 5 ≡ Equal) ×
    (ordered 6 5 ≡ Greater) ×
    (ordered 5 6 ≡ Less) ×
    (ordered 18446744073709551615 0 ≡ Greater) ×
    (ordered (5 * 3) (6 * 3) ≡ Less) ×
    (ordered (5 * 0) (6 * 0) ≡ Equal)
unfolding ordered
pays_shown = (refl, refl, refl, refl, refl, refl)

-- the answer by its tests
module _ (a b : ℕ) where
  pub ordered_higher : b < a → Greater ≡ ordered a b
  unfolding ordered
  ordered_higher k = rw (lt-ltb b a k)

  pub ordered_lower : a < b → Less ≡ ordered a b
  unfolding ordered
  ordered_lower k = rw (le-ltb b a (omega arith), lt-ltb a b k)

  pub ordered_equal : a ≤ b → b ≤ a → Equal ≡ ordered a b
  unfolding ordered
  ordered_equal k l = rw (le-ltb b a k, le-ltb a b l)

  -- and by std's comparison
  pub as_compared : nat_cmp a b ≡ ordered a b
  unfolding ordered
  as_compared = by (ltb b a) (ltb a b) refl refl
    where
      by : (s t : Bool) → ltb b a ≡ s → ltb a b ≡ t → nat_cmp a b ≡ cond s Greater (cond t Less Equal)
      by true t e f = let k = ltb-true b a e in rw (le-ltb a b (omega arith), ne_eqb a b (λ q. omega arith))
      by false true e f = rw f
      by false false e f = rw (f, eq-eqb a b (omega (arith, ltb-false b a e, ltb-false a b f)))

-- two rates compare as their cross products do
pub by_products : (x y : Post) {a b : ℕ} → a ≡ rate_over x * rate_under y → b ≡ rate_over y * rate_under x → ordered a b ≡ comparison x y
unfolding ordered comparison
by_products x y e f = rw (e, f)

-- without a supplement a cross product is document 01's, the pay times the other's contracted minutes, times both whole-time weeks
pub cross : (x y : Post) → NoSupplement x → rate_over x * rate_under y ≡ p x * h y * (w x * w y)
cross x y e = omega (arith, ap (λ (k : ℕ). k * h x * rate_under y) e)

pub weeks_pos : (x y : Post) → HasMinutes x → HasMinutes y → 0 < w x * w y
weeks_pos x y k l =
    let one : 0 < w x = omega (arith, k.0, k.1) in
    let other : 0 < w y = omega (arith, l.0, l.1) in
    mul-pos one other

-- two posts without a supplement
module _ (x y : Post) (k : HasMinutes x) (l : HasMinutes y) (e : NoSupplement x) (f : NoSupplement y) where
  -- their rates compare as document 01's products do
  pub plain_products : {a b : ℕ} → a ≡ p x * h y → b ≡ p y * h x → ordered a b ≡ comparison x y
  plain_products q r =
      ap₂ ordered q r
      ∙ pays_decide (p x * h y) (p y * h x) (w x * w y) (weeks_pos x y k l)
      ∙ by_products x y (sym (cross x y e)) (ap (λ (m : ℕ). p y * h x * m) (mul_comm (w x) (w y)) ∙ sym (cross y x f))

  -- and on equal contracts as the pays do
  pub equal_contracts : h x ≡ h y → ordered (p x) (p y) ≡ comparison x y
  equal_contracts q = pays_decide (p x) (p y) (h x) k.0 ∙ plain_products (ap (λ (m : ℕ). p x * m) q) refl
