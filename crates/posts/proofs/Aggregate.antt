-- The aggregate pay of a year's posts: no allowed division of the parts is worth more, and one rounded fraction is enough to compute it and its way.
use mathlib.Core.Path.{◌≡◌, refl, sym, ◌∙◌, ap, ap₂, subst}
use mathlib.Core.Bool.{Bool, true, false, cond}
use mathlib.Core.List.{List, [], ◌∷◌}
use mathlib.Core.Logic.{⊎_elim}
use Prim.Native.Nat.{ℕ, ◌+◌, ◌*◌, ◌-◌, ◌≤◌, ◌<◌, min}
use native.Mathlib.Nat.{mul-le-mul_right, mul-le-mul_left, le_refl, le_of_eq, le_trans, mul-pos}
use native.Mathlib.Omega.{arith}
use lib.Dec.{eqb}
use borrow.Author.Tests.{eq-eqb, ne_eqb, eqb-true}
use Rattle.measures.specs.Lists.{All}
use Rattle.measures.proofs.Tests.{le_or_lt}
use Rattle.measures.specs.declared.Way.{Way}
use Rattle.measures.specs.Rounding.{rounded, way}
use Rattle.measures.proofs.Rounding.{rounded_mono, rounded_add, rounded_scale, rounded_whole, rounded_bound, way_add, way_scale, way_whole}
use Rattle.posts.specs.declared.Post.{Post}
use Rattle.posts.specs.Division.{Claim, IsRate, numerator, denominator, Within, nothing, more, AllowedParts, division}
use Rattle.posts.specs.Paid.{paid, either_way, paid_way}
use Rattle.posts.specs.Posts.{h, w, p, s, HasMinutes, NoSupplement, contracted_minutes, weighted_parts, rate_over, rate_under, claims, counted, counted_together, sum_under, aggregate, aggregate_pay, aggregate_way, whole_time, any_whole_time, whole_time_parts, parts, Rival, RivalIf}
use Rattle.posts.proofs.Filling.{Filled, done, over, under, level, seen}
use Rattle.posts.proofs.Optimum.{optimal_division, division_allowed, shares_within}

pub rate_under_pos : (x : Post) → HasMinutes x → 0 < rate_under x
rate_under_pos x k = let week : 0 < w x = omega (arith, k.0, k.1) in mul-pos week k.0

pub rated : (H : ℕ) (xs : List Post) → All HasMinutes xs → All IsRate (claims H xs)
rated H [] k = tt
rated H (x ∷ xs) k = (rate_under_pos x k.0, rated H xs k.1)

denominator_pos : (xs : List Claim) → All IsRate xs → 0 < denominator xs
denominator_pos [] k = omega arith
denominator_pos (x ∷ xs) k = mul-pos k.0 (denominator_pos xs k.1)

sum_under_pos : (x : Post) (xs : List Post) → All HasMinutes (x ∷ xs) → 0 < sum_under (x ∷ xs)
sum_under_pos x xs k =
    let some : 0 < contracted_minutes (x ∷ xs) = omega (arith, k.0.0) in
    mul-pos (denominator_pos (claims (contracted_minutes (x ∷ xs)) (x ∷ xs)) (rated (contracted_minutes (x ∷ xs)) (x ∷ xs) k)) some

-- ---- a fraction's number and its way

-- n/d is rounded to t, and goes the way v
abbrev pub Rounds : ℕ → ℕ → ℕ → Way → Type 0
Rounds n d t v = (rounded n d ≡ t) × (way n d ≡ v)

pub rounds_whole : (n a d : ℕ) → 0 < d → n ≡ a * d → Rounds n d a Way.Exact
rounds_whole n a d pd e = (ap (λ (k : ℕ). rounded k d) e ∙ rounded_whole a d pd, ap (λ (k : ℕ). way k d) e ∙ way_whole a d pd)

-- a whole part taken out, the rest scaled
rounds_rest : (a n d k t : ℕ) (v : Way) → 0 < d → 0 < k → Rounds n d t v → Rounds (a * (d * k) + n * k) (d * k) (a + t) v
rounds_rest a n d k t v pd pk r = (
  rounded_add a (n * k) (d * k) (mul-pos pd pk) ∙ ap (λ (u : ℕ). a + u) (rounded_scale n d k pk ∙ r.0),
  way_add a (n * k) (d * k) (mul-pos pd pk) ∙ way_scale n d k pk ∙ r.1,
)

pub either_exact : (v : Way) → either_way v Way.Exact ≡ v
unfolding either_way
either_exact Way.Exact = refl
either_exact Way.Down = refl
either_exact Way.Up = refl

-- ---- the closed form: what each post counts for its parts rounded by itself, where one of these at most is no whole number before
-- it is rounded

-- what a post counts is a whole number
abbrev Whole : ℕ → Post → ℕ → Type 0
Whole H x a = (m : ℕ) × (counted H x a ≡ m * (rate_under x * H))

abbrev Wholes : ℕ → List Post → List ℕ → Type 0
Wholes H [] cs = Unit {0}
Wholes H (x ∷ xs) [] = Unit {0}
Wholes H (x ∷ xs) (a ∷ cs) = Whole H x a × Wholes H xs cs

-- for all posts but one at most
data Lone (H : ℕ) : List Post → List ℕ → Type 0 where
  none : Lone H [] []
  skip : {x : Post} {xs : List Post} {a : ℕ} {cs : List ℕ} → Whole H x a → Lone H xs cs → Lone H (x ∷ xs) (a ∷ cs)
  this : {x : Post} {xs : List Post} {a : ℕ} {cs : List ℕ} → Wholes H xs cs → Lone H (x ∷ xs) (a ∷ cs)

module _ (H : ℕ) (pH : 0 < H) where
  abbrev D : List Post → ℕ
  D xs = denominator (claims H xs)

  D-pos : (xs : List Post) → All HasMinutes xs → 0 < D xs
  D-pos xs k = denominator_pos (claims H xs) (rated H xs k)

  head_whole : (x : Post) (a : ℕ) → HasMinutes x → (k : Whole H x a) → Rounds (counted H x a) (rate_under x * H) k.0 Way.Exact
  head_whole x a u k = rounds_whole (counted H x a) k.0 (rate_under x * H) (mul-pos (rate_under_pos x u) pH) k.1

  wholes_sum : (xs : List Post) (cs : List ℕ) → All HasMinutes xs → Wholes H xs cs → (counted_together H xs cs ≡ paid H xs cs * (D xs * H)) × (paid_way H xs cs ≡ Way.Exact)
  unfolding counted_together paid paid_way either_way
  wholes_sum [] cs u k = (omega arith, refl)
  wholes_sum (x ∷ xs) [] u k = (omega arith, refl)
  wholes_sum (x ∷ xs) (a ∷ cs) u k =
      let head = head_whole x a u.0 k.0 in
      let rest = wholes_sum xs cs u.1 k.1 in
      (rw head.0 (omega (arith, ap (λ (n : ℕ). n * D xs) k.0.1, ap (λ (n : ℕ). n * rate_under x) rest.0)), ap₂ either_way head.1 rest.1)

  lone_rounds : (xs : List Post) (cs : List ℕ) → All HasMinutes xs → Lone H xs cs → Rounds (counted_together H xs cs) (D xs * H) (paid H xs cs) (paid_way H xs cs)
  unfolding counted_together paid paid_way either_way
  lone_rounds [] [] u none = rounds_whole 0 0 (1 * H) (omega arith) (omega arith)
  lone_rounds (x ∷ xs) (a ∷ cs) u (skip k l) =
      let head = head_whole x a u.0 k in
      let sum : counted H x a * D xs + counted_together H xs cs * rate_under x ≡ k.0 * (D xs * H * rate_under x) + counted_together H xs cs * rate_under x = omega (arith, ap (λ (n : ℕ). n * D xs) k.1) in
      let order : rate_under x * D xs * H ≡ D xs * H * rate_under x = omega arith in
      rw (sum, order, head.0, head.1)
      (rounds_rest k.0 _ (D xs * H) (rate_under x) _ _ (mul-pos (D-pos xs u.1) pH) (rate_under_pos x u.0) (lone_rounds xs cs u.1 l))
  lone_rounds (x ∷ xs) (a ∷ cs) u (this k) =
      let rest = wholes_sum xs cs u.1 k in
      let sum : counted H x a * D xs + counted_together H xs cs * rate_under x ≡ paid H xs cs * (rate_under x * H * D xs) + counted H x a * D xs = omega (arith, ap (λ (n : ℕ). n * rate_under x) rest.0) in
      let order : rate_under x * D xs * H ≡ rate_under x * H * D xs = omega arith in
      let turned : rounded (counted H x a) (rate_under x * H) + paid H xs cs ≡ paid H xs cs + rounded (counted H x a) (rate_under x * H) = omega arith in
      rw (sum, order, turned, rest.1, either_exact (way (counted H x a) (rate_under x * H)))
      (rounds_rest (paid H xs cs) (counted H x a) (rate_under x * H) (D xs) _ _ (mul-pos (rate_under_pos x u.0) pH) (D-pos xs u.1) (refl, refl))
  lone_rounds [] (a ∷ cs) u x4 = elim x4 [ ]
  lone_rounds (x ∷ xs) [] u x5 = elim x5 [ ]

-- ---- of a year's posts one at most counts no whole number

full : (H : ℕ) (x : Post) (a : ℕ) → a ≡ h x * H → Whole H x a
unfolding counted
full H x a e = (p x + s x, rw (eq-eqb a (h x * H) e) refl)

nought : (H : ℕ) (x : Post) (a : ℕ) → a ≡ 0 → Whole H x a
unfolding counted
nought H x a e = by (eqb a (h x * H))
  where
    by : (t : Bool) → (m : ℕ) × (cond t ((p x + s x) * (rate_under x * H)) (a * rate_over x) ≡ m * (rate_under x * H))
    by true = (p x + s x, refl)
    by false = (0, ap (λ (k : ℕ). k * rate_over x) e ∙ omega arith)

module _ (H K : ℕ) (c : Claim) where
  -- once K is used up, only whole numbers follow
  filled_wholes : {t : ℕ} (xs : List Post) {cs : List ℕ} → Filled K c t (claims H xs) cs → K ≤ t → Wholes H xs cs
  filled_wholes {t = t} [] done g = tt
  filled_wholes {t = t} (x ∷ xs) (over k f) g = (full H x _ refl, filled_wholes {t = t} xs f g)
  filled_wholes {t = t} (x ∷ xs) (under k f) g = (nought H x _ refl, filled_wholes {t = t} xs f g)
  filled_wholes {t = t} (x ∷ xs) (level k k' f) g = (nought H x (min (h x * H) (K - t)) (omega arith), filled_wholes {t = t + h x * H} xs f (omega arith))

  filled_lone : {t : ℕ} (xs : List Post) {cs : List ℕ} → Filled K c t (claims H xs) cs → Lone H xs cs
  filled_lone {t = t} [] done = none
  filled_lone {t = t} (x ∷ xs) (over k f) = skip (full H x _ refl) (filled_lone {t = t} xs f)
  filled_lone {t = t} (x ∷ xs) (under k f) = skip (nought H x _ refl) (filled_lone {t = t} xs f)
  filled_lone {t = t} (x ∷ xs) (level k k' f) =
      ⊎_elim
      (λ (g : K ≤ t + h x * H). this (filled_wholes xs f g))
      (λ (g : t + h x * H < K). skip (full H x (min (h x * H) (K - t)) (omega arith)) (filled_lone {t = t + h x * H} xs f))
      (le_or_lt K (t + h x * H))

whole_lone : (H : ℕ) (xs : List Post) → Lone H xs (whole_time_parts H xs)
whole_lone H [] = none
whole_lone H (x ∷ xs) = skip (by (whole_time x)) (whole_lone H xs)
  where
    by : (b : Bool) → Whole H x (cond b (h x * H) 0)
    by true = full H x (h x * H) refl
    by false = nought H x 0 refl

parts_lone : (xs : List Post) → All HasMinutes xs → Lone (contracted_minutes xs) xs (parts xs)
parts_lone xs k = by (any_whole_time xs)
  where
    H : ℕ
    H = contracted_minutes xs

    by : (b : Bool) → Lone H xs (cond b (whole_time_parts H xs) (division (weighted_parts xs) (claims H xs)))
    by true = whole_lone H xs
    by false = let t = seen (weighted_parts xs) (claims H xs) (rated H xs k) in filled_lone H (weighted_parts xs) t.c xs t.filled

-- ---- the theorems

parts_rounds : (xs : List Post) → All HasMinutes xs
    → Rounds (counted_together (contracted_minutes xs) xs (parts xs)) (sum_under xs) (paid (contracted_minutes xs) xs (parts xs)) (paid_way (contracted_minutes xs) xs (parts xs))
unfolding counted_together paid paid_way rounded way
parts_rounds [] k = (refl, refl)
parts_rounds (x ∷ xs) k = lone_rounds (contracted_minutes (x ∷ xs)) (omega (arith, k.0.0)) (x ∷ xs) _ k (parts_lone (x ∷ xs) k)

pub aggregate_closed : (xs : List Post) → All HasMinutes xs → aggregate_pay xs ≡ paid (contracted_minutes xs) xs (parts xs)
unfolding aggregate_pay
aggregate_closed xs k = (parts_rounds xs k).0

pub way_closed : (xs : List Post) → All HasMinutes xs → aggregate_way xs ≡ paid_way (contracted_minutes xs) xs (parts xs)
unfolding aggregate_way
way_closed xs k = (parts_rounds xs k).1

-- the parts of a year without a whole-time post
pub parts_part_time : (xs : List Post) → any_whole_time xs ≡ false → parts xs ≡ division (weighted_parts xs) (claims (contracted_minutes xs) xs)
parts_part_time xs e = ap (λ (b : Bool). cond b (whole_time_parts (contracted_minutes xs) xs) (division (weighted_parts xs) (claims (contracted_minutes xs) xs))) e

-- on exact fractions before rounding: in minutes times rate every allowed division is worth at most what ours is
pub optimal_exact : (xs : List Post) (qs : List ℕ) → All HasMinutes xs → Rival xs qs → numerator (claims (contracted_minutes xs) xs) qs ≤ numerator (claims (contracted_minutes xs) xs) (parts xs)
optimal_exact xs qs k r = by (any_whole_time xs) refl r
  where
    H : ℕ
    H = contracted_minutes xs

    by : (b : Bool) → any_whole_time xs ≡ b → RivalIf b xs qs → numerator (claims H xs) qs ≤ numerator (claims H xs) (parts xs)
    by true e r = le_of_eq (ap (numerator (claims H xs)) r)
    by false e r =
        subst (λ (z : List ℕ). numerator (claims H xs) qs ≤ numerator (claims H xs) z) (sym (parts_part_time xs e))
        (optimal_division (weighted_parts xs) (claims H xs) qs (rated H xs k) r)

-- a post counts at least its minutes times its rate: in full more where it has a supplement and is not whole-time
counted_least : (H : ℕ) (x : Post) (q : ℕ) → HasMinutes x → q * rate_over x ≤ counted H x q
unfolding counted
counted_least H x q k = by (eqb q (h x * H)) refl
  where
    by : (t : Bool) → eqb q (h x * H) ≡ t → q * rate_over x ≤ cond t ((p x + s x) * (rate_under x * H)) (q * rate_over x)
    by true e = omega (arith, ap (λ (n : ℕ). n * rate_over x) (eqb-true q (h x * H) e), mul-le-mul_left (s x * h x * H) k.1)
    by false e = le_refl _

-- so any division counts at least what it is worth in minutes times rate
pub worth_counted : (H : ℕ) (xs : List Post) (qs : List ℕ) → All HasMinutes xs → numerator (claims H xs) qs ≤ counted_together H xs qs
unfolding counted_together
worth_counted H [] qs k = omega arith
worth_counted H (x ∷ xs) [] k = omega arith
worth_counted H (x ∷ xs) (q ∷ qs) k =
    omega (arith, mul-le-mul_right (denominator (claims H xs)) (counted_least H x q k.0), mul-le-mul_right (rate_under x) (worth_counted H xs qs k.1))

-- no allowed division of a year's parts, valued in minutes times rate, is worth more than our aggregate
pub optimal : (xs : List Post) (qs : List ℕ) → All HasMinutes xs → Rival xs qs → aggregate xs qs ≤ aggregate_pay xs
unfolding aggregate aggregate_pay counted_together rounded
optimal [] qs k r = le_refl _
optimal (x ∷ xs) qs k r =
    rounded_mono (sum_under (x ∷ xs)) (sum_under_pos x xs k) (le_trans (optimal_exact (x ∷ xs) qs k r) (worth_counted (contracted_minutes (x ∷ xs)) (x ∷ xs) (parts (x ∷ xs)) k))

-- our own parts are one of the divisions that a rival may pick, so the largest aggregate is attained
pub parts_allowed : (xs : List Post) → All HasMinutes xs → Rival xs (parts xs)
parts_allowed xs k = by (any_whole_time xs) refl
  where
    by : (b : Bool) → any_whole_time xs ≡ b → RivalIf b xs (parts xs)
    by true e = refl
    by false e =
        subst (λ (z : List ℕ). AllowedParts (weighted_parts xs) (claims (contracted_minutes xs) xs) z) (sym (parts_part_time xs e))
        (division_allowed (weighted_parts xs) (claims (contracted_minutes xs) xs) (rated (contracted_minutes xs) xs k))

-- without a supplement a year counts what its parts are worth in minutes times rate
module _ (H : ℕ) where
  plain_counted : (x : Post) (q : ℕ) → NoSupplement x → counted H x q ≡ q * rate_over x
  unfolding counted
  plain_counted x q n = by (eqb q (h x * H)) refl
    where
      by : (t : Bool) → eqb q (h x * H) ≡ t → cond t ((p x + s x) * (rate_under x * H)) (q * rate_over x) ≡ q * rate_over x
      by true e = omega (arith, ap (λ (m : ℕ). m * rate_over x) (eqb-true q (h x * H) e), ap (λ (m : ℕ). m * (rate_under x * H)) n, ap (λ (m : ℕ). h x * H * (m * h x)) n)
      by false e = refl

  plain_together : (xs : List Post) (qs : List ℕ) → All NoSupplement xs → counted_together H xs qs ≡ numerator (claims H xs) qs
  unfolding counted_together
  plain_together [] qs n = refl
  plain_together (x ∷ xs) [] n = refl
  plain_together (x ∷ xs) (q ∷ qs) n = ap₂ (λ (a b : ℕ). a * denominator (claims H xs) + b * rate_under x) (plain_counted x q n.0) (plain_together xs qs n.1)

pub plain_aggregate : (xs : List Post) → All NoSupplement xs → aggregate_pay xs ≡ aggregate xs (parts xs)
unfolding aggregate_pay aggregate
plain_aggregate xs n = ap (λ (k : ℕ). rounded k (sum_under xs)) (plain_together (contracted_minutes xs) xs (parts xs) n)

pub plain_aggregate_way : (xs : List Post) → All NoSupplement xs → aggregate_way xs ≡ way (numerator (claims (contracted_minutes xs) xs) (parts xs)) (sum_under xs)
unfolding aggregate_way
plain_aggregate_way xs n = ap (λ (k : ℕ). way k (sum_under xs)) (plain_together (contracted_minutes xs) xs (parts xs) n)

-- ---- no post has more than h × H parts, in a whole-time year too

whole_within : (H : ℕ) (xs : List Post) → Within (claims H xs) (whole_time_parts H xs)
whole_within H [] = nothing
whole_within H (x ∷ xs) = more (by (whole_time x)) (whole_within H xs)
  where
    by : (b : Bool) → cond b (h x * H) 0 ≤ h x * H
    by true = omega arith
    by false = omega arith

pub parts_within : (xs : List Post) → Within (claims (contracted_minutes xs) xs) (parts xs)
parts_within xs = by (any_whole_time xs)
  where
    H : ℕ
    H = contracted_minutes xs

    by : (b : Bool) → Within (claims H xs) (cond b (whole_time_parts H xs) (division (weighted_parts xs) (claims H xs)))
    by true = whole_within H xs
    by false = shares_within (weighted_parts xs) [] (claims H xs)

-- ---- the bound: no year counts more than all pays and supplements

unfoldable pub pay_total : List Post → ℕ
pay_total [] = 0
pay_total (x ∷ xs) = p x + s x + pay_total xs

-- a post counts at most its pay and its supplement
pub counted_most : (H : ℕ) (x : Post) (q : ℕ) → HasMinutes x → q ≤ h x * H → counted H x q ≤ (p x + s x) * (rate_under x * H)
unfolding counted
counted_most H x q k g = by (eqb q (h x * H))
  where
    by : (t : Bool) → cond t ((p x + s x) * (rate_under x * H)) (q * rate_over x) ≤ (p x + s x) * (rate_under x * H)
    by true = le_refl _
    by false = omega (arith, mul-le-mul_right (rate_over x) g, mul-le-mul_left (s x * h x * H) k.1)

together_most : (H : ℕ) (xs : List Post) (qs : List ℕ) → All HasMinutes xs → Within (claims H xs) qs → counted_together H xs qs ≤ pay_total xs * (denominator (claims H xs) * H)
unfolding pay_total counted_together
together_most H [] [] k nothing = omega arith
together_most H (x ∷ xs) (q ∷ qs) k (more g r) =
    omega (arith, mul-le-mul_right (denominator (claims H xs)) (counted_most H x q k.0 g), mul-le-mul_right (rate_under x) (together_most H xs qs k.1 r))
together_most H [] (q ∷ qs) k x4 = elim x4 [ ]
together_most H (x ∷ xs) [] k x5 = elim x5 [ ]

pub aggregate_bound : (xs : List Post) → All HasMinutes xs → aggregate_pay xs ≤ pay_total xs
unfolding pay_total rounded aggregate_pay counted_together
aggregate_bound [] k = omega arith
aggregate_bound (x ∷ xs) k =
    rounded_bound _ (pay_total (x ∷ xs)) (sum_under (x ∷ xs)) (sum_under_pos x xs k) (together_most (contracted_minutes (x ∷ xs)) (x ∷ xs) (parts (x ∷ xs)) k (parts_within (x ∷ xs)))

-- ---- "a lone whole-time post counts p + s": the pay and the supplement of the whole-time posts, of which refusal 8 lets one pass

unfoldable pub whole_time_pay : List Post → ℕ
whole_time_pay [] = 0
whole_time_pay (x ∷ xs) = cond (whole_time x) (p x + s x) 0 + whole_time_pay xs

-- a post in full
pub full_rounds : (H : ℕ) (x : Post) → 0 < H → HasMinutes x → Rounds (counted H x (h x * H)) (rate_under x * H) (p x + s x) Way.Exact
unfolding full
full_rounds H x pH k = head_whole H pH x (h x * H) k (full H x (h x * H) refl)

-- and one without parts
none_counted : (H : ℕ) (x : Post) → 0 < H → HasMinutes x → counted H x 0 ≡ 0 * rate_over x
unfolding counted
none_counted H x pH k = ap (λ (t : Bool). cond t ((p x + s x) * (rate_under x * H)) (0 * rate_over x)) (some (h x * H) (mul-pos k.0 pH))
  where
    some : (n : ℕ) → 0 < n → eqb 0 n ≡ false
    some n g = ne_eqb 0 n (λ e. let z : ⊥ = omega (arith, e) in z)

pub none_rounds : (H : ℕ) (x : Post) → 0 < H → HasMinutes x → Rounds (counted H x 0) (rate_under x * H) 0 Way.Exact
none_rounds H x pH k = rounds_whole (counted H x 0) 0 (rate_under x * H) (mul-pos (rate_under_pos x k) pH) (none_counted H x pH k ∙ omega arith)

paid_whole : (H : ℕ) (xs : List Post) → 0 < H → All HasMinutes xs → paid H xs (whole_time_parts H xs) ≡ whole_time_pay xs
unfolding paid whole_time_pay
paid_whole H [] pH k = refl
paid_whole H (x ∷ xs) pH k = ap₂ ◌+◌ (by (whole_time x)) (paid_whole H xs pH k.1)
  where
    by : (b : Bool) → rounded (counted H x (cond b (h x * H) 0)) (rate_under x * H) ≡ cond b (p x + s x) 0
    by true = (full_rounds H x pH k.0).0
    by false = (none_rounds H x pH k.0).0

pub aggregate_whole_time : (xs : List Post) → All HasMinutes xs → any_whole_time xs ≡ true → aggregate_pay xs ≡ whole_time_pay xs
unfolding whole_time_pay rounded aggregate_pay counted_together
aggregate_whole_time [] k e = refl
aggregate_whole_time (x ∷ xs) k e =
    aggregate_closed (x ∷ xs) k
    ∙ ap (λ (b : Bool). paid H (x ∷ xs) (cond b (whole_time_parts H (x ∷ xs)) (division (weighted_parts (x ∷ xs)) (claims H (x ∷ xs))))) e
    ∙ paid_whole H (x ∷ xs) (omega (arith, k.0.0)) k
  where
    H : ℕ
    H = contracted_minutes (x ∷ xs)

-- in minutes times rate that year is worth as much: the rate of a whole-time post is (p + s)/w
full_worth : (H : ℕ) (x : Post) → h x ≡ w x → h x * H * rate_over x ≡ counted H x (h x * H)
unfolding counted
full_worth H x e = rw (eq-eqb (h x * H) (h x * H) refl) (omega (arith, ap (λ (n : ℕ). n * H * (s x * h x)) e))

whole_worth : (H : ℕ) (xs : List Post) → 0 < H → All HasMinutes xs → numerator (claims H xs) (whole_time_parts H xs) ≡ counted_together H xs (whole_time_parts H xs)
unfolding counted_together
whole_worth H [] pH k = refl
whole_worth H (x ∷ xs) pH k = ap₂ (λ (a b : ℕ). a * denominator (claims H xs) + b * rate_under x) (by (whole_time x) refl) (whole_worth H xs pH k.1)
  where
    by : (b : Bool) → whole_time x ≡ b → cond b (h x * H) 0 * rate_over x ≡ counted H x (cond b (h x * H) 0)
    by true e = full_worth H x (eqb-true (h x) (w x) e)
    by false e = sym (none_counted H x pH k.0)

forced_worth : (xs : List Post) → All HasMinutes xs → any_whole_time xs ≡ true → aggregate xs (parts xs) ≡ aggregate_pay xs
unfolding aggregate aggregate_pay counted_together
forced_worth [] k e = refl
forced_worth (x ∷ xs) k e =
    let H : ℕ = contracted_minutes (x ∷ xs) in
    rw e (ap (λ (n : ℕ). rounded n (sum_under (x ∷ xs))) (whole_worth H (x ∷ xs) (omega (arith, k.0.0)) k))

-- "in a year with a post of h = w it has instead the parts that the posts step gives": a rival then has our parts and our worth
pub whole_time_worth : (xs : List Post) (qs : List ℕ) → All HasMinutes xs → any_whole_time xs ≡ true → Rival xs qs → (qs ≡ parts xs) × (aggregate xs qs ≡ aggregate_pay xs)
whole_time_worth xs qs k e r = let own = subst (λ (b : Bool). RivalIf b xs qs) e r in (own, ap (aggregate xs) own ∙ forced_worth xs k e)
