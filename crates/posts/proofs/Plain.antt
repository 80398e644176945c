-- Without a supplement a year's parts, the worth of any division, the aggregate and its way are document 01's.
use mathlib.Core.Path.{◌≡◌, refl, sym, ◌∙◌, ap, ap₂}
use mathlib.Core.Bool.{Bool, cond}
use mathlib.Core.List.{List, [], ◌∷◌, ◌++◌}
use Prim.Native.Nat.{ℕ, ◌+◌, ◌*◌, ◌-◌, ◌<◌, min}
use native.Mathlib.Nat.{mul_comm, mul-pos}
use native.Mathlib.Omega.{arith}
use lib.Dec.{leb, ltb}
use Rattle.measures.specs.Lists.{All}
use Rattle.measures.proofs.Lists.{all_end}
use Rattle.measures.specs.Rounding.{rounded, way}
use Rattle.measures.proofs.Rounding.{rounded_scale, way_scale}
use Rattle.posts.specs.declared.Post.{Post}
use Rattle.posts.specs.Division.{Claim, numerator, denominator, higher, no_lower, parts_of, shares}
use Rattle.posts.specs.Posts.{h, w, p, HasMinutes, NoSupplement, contracted_minutes, weighted_parts, rate_over, rate_under, claim, claims, sum_under, aggregate, aggregate_pay, aggregate_way, any_whole_time, whole_time_parts, parts}
use Rattle.posts.specs.Plain.{claim01, claims01, parts01, aggregate01, aggregate_way01}
use Rattle.posts.proofs.Aggregate.{plain_aggregate, plain_aggregate_way}
use Rattle.posts.proofs.Pays.{ltb_scaled, leb_scaled, cross, weeks_pos}

-- ---- the worth of a division: document 01's fraction, with all whole-time weeks above and below its line

weeks : List Post → ℕ
weeks [] = 1
weeks (x ∷ xs) = w x * weeks xs

all_weeks_pos : (xs : List Post) → All HasMinutes xs → 0 < weeks xs
unfolding weeks
all_weeks_pos [] k = omega arith
all_weeks_pos (x ∷ xs) k = let one : 0 < w x = omega (arith, k.0.0, k.0.1) in mul-pos one (all_weeks_pos xs k.1)

under_weeks : (H : ℕ) (xs : List Post) → denominator (claims H xs) ≡ denominator (claims01 H xs) * weeks xs
unfolding weeks
under_weeks H [] = refl
under_weeks H (x ∷ xs) = omega (arith, ap (λ (k : ℕ). rate_under x * k) (under_weeks H xs))

over_weeks : (H : ℕ) (xs : List Post) (qs : List ℕ) → All NoSupplement xs → numerator (claims H xs) qs ≡ numerator (claims01 H xs) qs * weeks xs
unfolding weeks
over_weeks H [] qs e = omega arith
over_weeks H (x ∷ xs) [] e = omega arith
over_weeks H (x ∷ xs) (q ∷ qs) e =
    omega (
      arith,
      ap (λ (k : ℕ). k * rate_under x) (over_weeks H xs qs e.1),
      ap (λ (k : ℕ). q * (p x * w x) * k) (under_weeks H xs),
      ap (λ (k : ℕ). q * (k * h x) * denominator (claims H xs)) e.0,
    )

-- document 01's line below the fraction
abbrev sum_under01 : List Post → ℕ
sum_under01 xs = denominator (claims01 (contracted_minutes xs) xs) * contracted_minutes xs

sum_under_weeks : (xs : List Post) → sum_under xs ≡ sum_under01 xs * weeks xs
sum_under_weeks xs = ap (λ (k : ℕ). k * contracted_minutes xs) (under_weeks (contracted_minutes xs) xs) ∙ omega arith

pub plain_worth : (xs : List Post) (qs : List ℕ) → All HasMinutes xs → All NoSupplement xs → aggregate xs qs ≡ aggregate01 xs qs
unfolding aggregate aggregate01
plain_worth xs qs k e =
    ap₂ rounded (over_weeks (contracted_minutes xs) xs qs e) (sum_under_weeks xs)
    ∙ rounded_scale (numerator (claims01 (contracted_minutes xs) xs) qs) (sum_under01 xs) (weeks xs) (all_weeks_pos xs k)

-- ---- the ranking: each cross product is document 01's times both whole-time weeks

module _ (H : ℕ) where
  module _ (x : Post) (k : HasMinutes x) (e : NoSupplement x) where
    -- any test of two cross products that a scale leaves as it is
    same_test : (test : ℕ → ℕ → Bool) → ((a b m : ℕ) → 0 < m → test (a * m) (b * m) ≡ test a b)
        → (y : Post) → HasMinutes y → NoSupplement y → test (rate_over x * rate_under y) (rate_over y * rate_under x) ≡ test (p x * h y) (p y * h x)
    same_test test scaled y l f =
        ap₂ test (cross x y e) (cross y x f ∙ ap (λ (m : ℕ). p y * h x * m) (mul_comm (w y) (w x)))
        ∙ scaled (p x * h y) (p y * h x) (w x * w y) (weeks_pos x y k l)

    no_lower_parts : (ys : List Post) → All HasMinutes ys → All NoSupplement ys → parts_of (no_lower (claim H x)) (claims H ys) ≡ parts_of (no_lower (claim01 H x)) (claims01 H ys)
    no_lower_parts [] l f = refl
    no_lower_parts (y ∷ ys) l f =
        ap₂ (λ (t : Bool) (n : ℕ). cond t (h y * H) 0 + n) (same_test leb leb_scaled y l.0 f.0) (no_lower_parts ys l.1 f.1)

    higher_parts : (ys : List Post) → All HasMinutes ys → All NoSupplement ys → parts_of (higher (claim H x)) (claims H ys) ≡ parts_of (higher (claim01 H x)) (claims01 H ys)
    higher_parts [] l f = refl
    higher_parts (y ∷ ys) l f =
        ap₂ (λ (t : Bool) (n : ℕ). cond t (h y * H) 0 + n) (same_test ltb ltb_scaled y l.0 f.0) (higher_parts ys l.1 f.1)

  claims_end : (xs : List Post) (x : Post) → claims H (xs ++ x ∷ []) ≡ claims H xs ++ claim H x ∷ []
  claims_end [] x = refl
  claims_end (y ∷ xs) x = ap (λ (l : List Claim). claim H y ∷ l) (claims_end xs x)

  claims01_end : (xs : List Post) (x : Post) → claims01 H (xs ++ x ∷ []) ≡ claims01 H xs ++ claim01 H x ∷ []
  claims01_end [] x = refl
  claims01_end (y ∷ xs) x = ap (λ (l : List Claim). claim01 H y ∷ l) (claims01_end xs x)

  same_shares : (K : ℕ) (earlier later : List Post) → All HasMinutes earlier → All HasMinutes later → All NoSupplement earlier → All NoSupplement later
      → shares K (claims H earlier) (claims H later) ≡ shares K (claims01 H earlier) (claims01 H later)
  same_shares K earlier [] k l e f = refl
  same_shares K earlier (x ∷ later) k l e f =
      ap₂ (λ (n : ℕ) (r : List ℕ). min (h x * H) (K - n) ∷ r)
      (ap₂ ◌+◌ (no_lower_parts x l.0 f.0 earlier k e) (higher_parts x l.0 f.0 later l.1 f.1))
      (ap (λ (z : List Claim). shares K z (claims H later)) (sym (claims_end earlier x))
      ∙ same_shares K (earlier ++ x ∷ []) later (all_end HasMinutes earlier x k l.0) l.1 (all_end NoSupplement earlier x e f.0) f.1
      ∙ ap (λ (z : List Claim). shares K z (claims01 H later)) (claims01_end earlier x))

pub plain_parts : (xs : List Post) → All HasMinutes xs → All NoSupplement xs → parts xs ≡ parts01 xs
plain_parts xs k e =
    ap (cond (any_whole_time xs) (whole_time_parts (contracted_minutes xs) xs)) (same_shares (contracted_minutes xs) (weighted_parts xs) [] xs tt k tt e)

-- ---- "without one, document 01's comparison holds": the aggregate and its way

pub plain_year : (xs : List Post) → All HasMinutes xs → All NoSupplement xs → aggregate_pay xs ≡ aggregate01 xs (parts01 xs)
plain_year xs k e = plain_aggregate xs e ∙ plain_worth xs (parts xs) k e ∙ ap (aggregate01 xs) (plain_parts xs k e)

pub plain_way : (xs : List Post) → All HasMinutes xs → All NoSupplement xs → aggregate_way xs ≡ aggregate_way01 xs
unfolding aggregate_way01
plain_way xs k e =
    plain_aggregate_way xs e
    ∙ ap₂ way (over_weeks H xs (parts xs) e) (sum_under_weeks xs)
    ∙ way_scale (numerator (claims01 H xs) (parts xs)) (sum_under01 xs) (weeks xs) (all_weeks_pos xs k)
    ∙ ap (λ (qs : List ℕ). way (numerator (claims01 H xs) qs) (sum_under01 xs)) (plain_parts xs k e)
  where
    H : ℕ
    H = contracted_minutes xs
