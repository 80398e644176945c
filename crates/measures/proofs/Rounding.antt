-- The laws of rounding, for any number and any divisor above 0.
use mathlib.Core.Path.{◌≡◌, refl, sym, ◌∙◌, ap, ap₂}
use mathlib.Core.Bool.{cond}
use Prim.Native.Nat.{ℕ, zero, suc, ◌+◌, ◌*◌, ◌/◌, ◌%◌, ◌-◌, ◌≤◌, ◌<◌}
use native.Mathlib.Nat.{le-div_iff_mul-le, div-mul-le_self, mul-add-div_right, mul-div-mul_right, le_trans, le_of_eq, div-eq_of_lt, div-add-mod', mul-le-mul_left, mod-lt, le_antisymm, lt_of_mul-lt-mul_right, le_of_mul-le-mul_right, mul-lt-mul_of_pos_right}
use native.Mathlib.Omega.{arith}
use lib.Dec.{eqb, ltb}
use borrow.Author.Tests.{eq-eqb, ne_eqb, lt-ltb, le-ltb}
use Rattle.measures.specs.declared.Way.{Way}
use Rattle.measures.specs.Rounding.{rounded, way, upward}
use Rattle.measures.proofs.Tests.{eqb_iff, ltb_iff}

div_mono : {m n : ℕ} (d : ℕ) → 0 < d → m ≤ n → m / d ≤ n / d
div_mono {m} {n} d pd h = (le-div_iff_mul-le pd).1 (le_trans (div-mul-le_self m d) h)

-- a larger number rounds no lower
pub rounded_mono : {m n : ℕ} (d : ℕ) → 0 < d → m ≤ n → rounded m d ≤ rounded n d
unfolding rounded
rounded_mono d pd h = div_mono (2 * d) (omega arith) (omega arith)

-- a whole part may be taken out before rounding
pub rounded_add : (a n d : ℕ) → 0 < d → rounded (a * d + n) d ≡ a + rounded n d
unfolding rounded
rounded_add a n d pd = ap (λ (x : ℕ). x / (2 * d)) (omega arith) ∙ mul-add-div_right {m = 2 * d} (omega arith) a (2 * n + d)

-- a fraction may be scaled
pub rounded_scale : (n d k : ℕ) → 0 < k → rounded (n * k) (d * k) ≡ rounded n d
unfolding rounded
rounded_scale n d k pk =
    ap (λ (x : ℕ). x / (2 * (d * k))) (omega arith) ∙ ap (λ (x : ℕ). ((2 * n + d) * k) / x) (omega arith) ∙ mul-div-mul_right (2 * n + d) (2 * d) pk

pub rounded_zero : (d : ℕ) → 0 < d → rounded 0 d ≡ 0
unfolding rounded
rounded_zero d pd = div-eq_of_lt (omega arith)

-- a whole number rounds to itself
pub rounded_whole : (a d : ℕ) → 0 < d → rounded (a * d) d ≡ a
rounded_whole a d pd = ap (λ (x : ℕ). rounded x d) (omega arith) ∙ rounded_add a 0 d pd ∙ ap (λ (x : ℕ). a + x) (rounded_zero d pd) ∙ omega arith

-- what is at most a whole number rounds to at most that number
pub rounded_bound : (n a d : ℕ) → 0 < d → n ≤ a * d → rounded n d ≤ a
rounded_bound n a d pd h = le_trans (rounded_mono d pd h) (le_of_eq (rounded_whole a d pd))

-- less than a half goes down, a half or more goes up
rounded_down : (n d : ℕ) → 0 < d → n + n < d → rounded n d ≡ 0
unfolding rounded
rounded_down n d pd h = div-eq_of_lt (omega arith)

rounded_up : (n d : ℕ) → 0 < d → n < d → d ≤ n + n → rounded n d ≡ 1
unfolding rounded
rounded_up n d pd below h =
    ap (λ (x : ℕ). x / (2 * d)) (let e : 2 * n + d ≡ 1 * (2 * d) + (2 * n - d) = omega arith in e)
    ∙ mul-add-div_right {m = 2 * d} (omega arith) 1 (2 * n - d)
    ∙ ap (λ (x : ℕ). 1 + x) (div-eq_of_lt (omega arith))

-- by the quotient and the rest, as code rounds
module _ (n d : ℕ) (pd : 0 < d) where
  split : rounded n d ≡ n / d + rounded (n % d) d
  split = ap (λ (x : ℕ). rounded x d) (sym (div-add-mod' n d)) ∙ rounded_add (n / d) (n % d) d pd

  pub rest_up : d - n % d ≤ n % d → n / d + 1 ≡ rounded n d
  rest_up h = sym (split ∙ ap (λ (x : ℕ). n / d + x) (rounded_up (n % d) d pd (mod-lt n pd) (omega (arith, mod-lt n pd))))

  pub rest_down : n % d < d - n % d → n / d ≡ rounded n d
  rest_down h = sym (split ∙ ap (λ (x : ℕ). n / d + x) (rounded_down (n % d) d pd (omega arith)) ∙ omega arith)

  -- a quotient that goes up by one still fits
  pub quotient_half : d - n % d ≤ n % d → n / d + n / d ≤ n
  quotient_half h = omega (arith, mul-le-mul_left (n / d) two, div-mul-le_self n d)
    where
      two : 2 ≤ d
      two = omega (arith, mod-lt n pd)

-- ---- which way it went

-- by the quotient and the rest, as code rounds
module _ (n d : ℕ) (pd : 0 < d) where
  pub rest_none : n % d ≡ 0 → n / d ≡ rounded n d
  rest_none z = rest_down n d pd (omega arith)

  pub way_exact : n % d ≡ 0 → Way.Exact ≡ way n d
  unfolding way
  way_exact z = rw (eq-eqb (rounded n d * d) n (ap (λ (q : ℕ). q * d) (sym (rest_none z)) ∙ omega (arith, div-add-mod' n d))) refl

  pub way_down : (n % d ≡ 0 → ⊥) → n % d < d - n % d → Way.Down ≡ way n d
  unfolding way
  way_down f h = rw (ne_eqb (rounded n d * d) n (λ e. let z : ⊥ = omega (arith, below, e) in z), lt-ltb (rounded n d * d) n below) refl
    where
      above_none : (k : ℕ) → (k ≡ 0 → ⊥) → 0 < k
      above_none zero f = absurd (f refl)
      above_none (suc k) f = omega arith

      below : rounded n d * d < n
      below = omega (arith, ap (λ (q : ℕ). q * d) (rest_down n d pd h), div-add-mod' n d, above_none (n % d) f)

  pub way_up : d - n % d ≤ n % d → Way.Up ≡ way n d
  unfolding way
  way_up h = rw (ne_eqb (rounded n d * d) n (λ e. let z : ⊥ = omega (arith, above, e) in z), le-ltb (rounded n d * d) n (omega (arith, above))) refl
    where
      above : n < rounded n d * d
      above = omega (arith, ap (λ (q : ℕ). q * d) (rest_up n d pd h), div-add-mod' n d, mod-lt n pd)

-- of 54ths, by computation: a half is up, less is down, a whole number is exact, nought too
pub ways_shown : (way 27 54 ≡ Way.Up) × (way 26 54 ≡ Way.Down) × (way 54 54 ≡ Way.Exact) × (way 0 54 ≡ Way.Exact) × (way 81 54 ≡ Way.Up)
unfolding way rounded
ways_shown = (refl, refl, refl, refl, refl)

-- a whole part changes nothing
pub way_add : (a n d : ℕ) → 0 < d → way (a * d + n) d ≡ way n d
unfolding way
way_add a n d pd = rw (rounded_add a n d pd) (ap₂ (λ s t. cond s Way.Exact (cond t Way.Down Way.Up)) same less)
  where
    same : eqb ((a + rounded n d) * d) (a * d + n) ≡ eqb (rounded n d * d) n
    same = eqb_iff ((a + rounded n d) * d) (a * d + n) (rounded n d * d) n (λ e. omega (arith, e)) (λ e. omega (arith, e))

    less : ltb ((a + rounded n d) * d) (a * d + n) ≡ ltb (rounded n d * d) n
    less = ltb_iff ((a + rounded n d) * d) (a * d + n) (rounded n d * d) n (λ e. omega (arith, e)) (λ e. omega (arith, e))

-- a scale changes nothing
pub way_scale : (n d k : ℕ) → 0 < k → way (n * k) (d * k) ≡ way n d
unfolding way
way_scale n d k pk = rw (rounded_scale n d k pk) (ap₂ (λ s t. cond s Way.Exact (cond t Way.Down Way.Up)) same less)
  where
    r : ℕ
    r = rounded n d * d

    order : rounded n d * (d * k) ≡ r * k
    order = omega arith

    same : eqb (rounded n d * (d * k)) (n * k) ≡ eqb r n
    same =
        rw order
        (eqb_iff (r * k) (n * k) r n
        (λ e. le_antisymm (le_of_mul-le-mul_right {k = k} (le_of_eq e) pk) (le_of_mul-le-mul_right {k = k} (le_of_eq (sym e)) pk))
        (λ e. ap (λ (m : ℕ). m * k) e))

    less : ltb (rounded n d * (d * k)) (n * k) ≡ ltb r n
    less = rw order (ltb_iff (r * k) (n * k) r n (λ e. lt_of_mul-lt-mul_right k e) (λ e. mul-lt-mul_of_pos_right e pk))

-- a whole number is exact
pub way_whole : (a d : ℕ) → 0 < d → way (a * d) d ≡ Way.Exact
unfolding way
way_whole a d pd = rw (rounded_whole a d pd, eq-eqb (a * d) (a * d) refl) refl

-- a rounding counts once at most
pub upward_most : (went : Way) → upward went ≤ 1
unfolding upward
upward_most Way.Exact = omega arith
upward_most Way.Down = omega arith
upward_most Way.Up = omega arith
