-- The laws of numbers in two halves.
use mathlib.Core.Path.{◌≡◌, sym, ◌∙◌, ap}
use Prim.Native.Nat.{ℕ, ◌+◌, ◌*◌, ◌/◌, ◌%◌, ◌≤◌, ◌<◌}
use native.Mathlib.Nat.{div-add-mod'}
use native.Mathlib.Omega.{arith}
use mathlib.Core.Logic.{⊎_elim}
use lib.Dec.{ltb}
use Rattle.measures.specs.Rounding.{rounded, way}
use Rattle.measures.proofs.Tests.{le_or_lt, ltb_iff}
use Rattle.measures.proofs.Rounding.{rounded_add, way_add}
use Rattle.halves.specs.declared.Halves.{Halves}
use Rattle.halves.specs.Halves.{half, value_of, Carried}

-- a × b from the parts of a: the upper part carries what the lower one yields
pub product_halves : (a b m : ℕ) → (a / m * b + a % m * b / m) * m + a % m * b % m ≡ a * b
product_halves a b m = omega (arith, div-add-mod' (a % m * b) m, ap (λ (n : ℕ). n * b) (div-add-mod' a m))

-- the product from the parts of b, the upper one divided first
module _ (a b d m : ℕ) (pd : 0 < d) where
  abbrev upper : ℕ
  upper = a * (b / m)

  abbrev rest : ℕ
  rest = upper % d * m + a * (b % m)

  product_split : a * b ≡ (upper / d * m) * d + rest
  product_split = omega (arith, ap (λ (n : ℕ). n * m) (div-add-mod' (a * (b / m)) d), ap (λ (n : ℕ). a * n) (div-add-mod' b m))

  pub product_rounded : upper / d * m + rounded rest d ≡ rounded (a * b) d
  product_rounded = sym (ap (λ (n : ℕ). rounded n d) product_split ∙ rounded_add (upper / d * m) rest d pd)

  pub product_way : way rest d ≡ way (a * b) d
  product_way = sym (ap (λ (n : ℕ). way n d) product_split ∙ way_add (upper / d * m) rest d pd)

-- the upper halves decide, and where they are equal the lower ones
module _ (x y : Halves) where
  abbrev one : ℕ
  one = x.upper * half + x.lower

  abbrev other : ℕ
  other = y.upper * half + y.lower

  pub upper_decides : Carried x → Carried y → (x.upper ≡ y.upper → ⊥) → ltb x.upper y.upper ≡ ltb (value_of x) (value_of y)
  unfolding value_of
  upper_decides cx cy n = sym (ltb_iff one other x.upper y.upper below (λ k. omega (arith, k, cx)))
    where
      below : one < other → x.upper < y.upper
      below k =
          ⊎_elim
          (λ (l : y.upper ≤ x.upper). absurd (n (omega (arith, k, l, cx, cy))))
          (λ (l : x.upper < y.upper). l)
          (le_or_lt y.upper x.upper)

  pub lower_decides : x.upper ≡ y.upper → ltb x.lower y.lower ≡ ltb (value_of x) (value_of y)
  unfolding value_of
  lower_decides e = sym (ltb_iff one other x.lower y.lower (λ k. omega (arith, k, e)) (λ k. omega (arith, k, e)))
