-- The turns of the loops over a year's posts: what one post adds to the minutes ahead, to the parts, to the pay and to its way.
use mathlib.Core.Path.{◌≡◌, refl, sym, ◌∙◌, ap, ap₂}
use mathlib.Core.Bool.{Bool, true, false, cond}
use mathlib.Core.List.{List, [], ◌∷◌, ◌++◌}
use Prim.Native.Nat.{ℕ, zero, suc, ◌+◌, ◌*◌, ◌-◌, ◌≤◌, ◌<◌, min}
use native.Mathlib.Nat.{not-suc-le-zero, le_of_suc-le-suc}
use native.Mathlib.Numerals.{add-one}
use native.Mathlib.Omega.{arith}
use lib.Dec.{ltb}
use lib.ListN.{length, take, drop, get_or, set, length-set, drop_of_length-le, take-append-drop}
use lib.Seq.{drop-cons, set_at, append_snoc, get_or-take, take-suc, take_all, length-take-le}
use borrow.Author.Tests.{ltb-true, ltb-false, le-ltb}
use Rattle.measures.specs.Limits.{highest_counted, most_posts}
use Rattle.measures.specs.declared.Way.{Way}
use Rattle.measures.specs.Rounding.{rounded, way}
use Rattle.posts.specs.declared.Post.{Post}
use Rattle.posts.specs.declared.YearPosts.{YearPosts}
use Rattle.posts.specs.Division.{Claim, Within, nothing, more, higher, no_lower, parts_of, claim_at, division, shares}
use Rattle.posts.specs.Posts.{h, contracted_minutes, weighted_parts, rate_over, rate_under, claim, claims, counted, whole_time, any_whole_time, whole_time_parts, parts, aggregate_pay, aggregate_way}
use Rattle.posts.specs.Rates.{ranked_before, minutes_ahead}
use Rattle.posts.specs.Paid.{paid, either_way, paid_way}
use Rattle.posts.specs.Year.{no_post, no_parts, minutes_before, posts_of, Held}
use Rattle.posts.proofs.Aggregate.{aggregate_closed, way_closed, either_exact, parts_within}
use Rattle.posts.proofs.Ranking.{division_at}
use Rattle.posts.proofs.Ranks.{any_whole_time_lem}
use Rattle.posts.proofs.Standing.{stand_worked, posts_count}

-- ---- the minutes ahead of a post

-- the post at place i, with `at` the place of x
pub ahead_turn : (x y : Post) (at i : ℕ) (ys : List Post) → minutes_ahead x (at - i) (y ∷ ys) ≡ cond (ranked_before x (ltb i at) y) (h y) 0 + minutes_ahead x (at - (i + 1)) ys
unfolding minutes_ahead
ahead_turn x y at i ys = by (ltb i at) refl
  where
    by : (b : Bool) → ltb i at ≡ b → minutes_ahead x (at - i) (y ∷ ys) ≡ cond (ranked_before x b y) (h y) 0 + minutes_ahead x (at - (i + 1)) ys
    by true e = let s : at - i ≡ suc (at - (i + 1)) = omega (arith, ltb-true i at e) in rw s refl
    by false e =
        let s : at - i ≡ 0 = omega (arith, ltb-false i at e) in
        let t : at - (i + 1) ≡ 0 = omega (arith, ltb-false i at e) in
        rw (s, t) refl

pub ahead_none : (x : Post) (k : ℕ) → minutes_ahead x k [] ≡ 0
unfolding minutes_ahead
ahead_none x zero = refl
ahead_none x (suc k) = refl

pub minutes_if_most : (b : Bool) (n : ℕ) → cond b n 0 ≤ n
minutes_if_most true n = omega arith
minutes_if_most false n = omega arith

pub ahead_most : (x : Post) (k : ℕ) (xs : List Post) → minutes_ahead x k xs ≤ contracted_minutes xs
unfolding minutes_ahead
ahead_most x zero [] = omega arith
ahead_most x (suc k) [] = omega arith
ahead_most x zero (y ∷ ys) = omega (arith, ahead_most x zero ys, minutes_if_most (ranked_before x false y) (h y))
ahead_most x (suc k) (y ∷ ys) = omega (arith, ahead_most x k ys, minutes_if_most (ranked_before x true y) (h y))

minutes_if_times : (b : Bool) (n H : ℕ) → cond b n 0 * H ≡ cond b (n * H) 0
minutes_if_times true n H = refl
minutes_if_times false n H = omega arith

-- as parts, H to a minute
ahead_parts : (H : ℕ) (x : Post) (k : ℕ) (xs : List Post) → minutes_ahead x k xs * H ≡ parts_of (no_lower (claim H x)) (take k (claims H xs)) + parts_of (higher (claim H x)) (drop k (claims H xs))
unfolding minutes_ahead
ahead_parts H x zero [] = omega arith
ahead_parts H x (suc k) [] = omega arith
ahead_parts H x zero (y ∷ ys) = omega (arith, ahead_parts H x zero ys, minutes_if_times (ranked_before x false y) (h y) H)
ahead_parts H x (suc k) (y ∷ ys) = omega (arith, ahead_parts H x k ys, minutes_if_times (ranked_before x true y) (h y) H)

-- ---- the parts of the post at a place

pub claims_length : (H : ℕ) (xs : List Post) → length (claims H xs) ≡ length xs
claims_length H [] = refl
claims_length H (x ∷ xs) = ap suc (claims_length H xs)

pub claims_at : (H : ℕ) (xs : List Post) (i : ℕ) → i < length xs → claim_at (claims H xs) i ≡ claim H (get_or xs i no_post)
claims_at H [] i g = absurd (not-suc-le-zero g)
claims_at H (x ∷ xs) zero g = refl
claims_at H (x ∷ xs) (suc i) g = claims_at H xs i (le_of_suc-le-suc g)

pub whole_at : (H : ℕ) (xs : List Post) (i : ℕ) → i < length xs → get_or (whole_time_parts H xs) i 0 ≡ cond (whole_time (get_or xs i no_post)) (h (get_or xs i no_post) * H) 0
whole_at H [] i g = absurd (not-suc-le-zero g)
whole_at H (x ∷ xs) zero g = refl
whole_at H (x ∷ xs) (suc i) g = whole_at H xs i (le_of_suc-le-suc g)

-- the claim of the post itself is not among those at a higher rate
pub ahead_at : (H : ℕ) (xs : List Post) (i : ℕ) → i < length xs
    → minutes_ahead (get_or xs i no_post) i xs * H
    ≡ parts_of (no_lower (claim H (get_or xs i no_post))) (take i (claims H xs)) + parts_of (higher (claim H (get_or xs i no_post))) (drop (suc i) (claims H xs))
ahead_at H xs i g =
    ahead_parts H x i xs
    ∙ ap (λ (n : ℕ). parts_of (no_lower (claim H x)) (take i (claims H xs)) + n)
    (ap (parts_of (higher (claim H x))) (drop-cons (claims H xs) i (record { most = 0; n = 0; d = 0 }) (omega (arith, claims_length H xs)))
    ∙ ap (λ (c : Claim). cond (higher (claim H x) c) c.most 0 + rest) (claims_at H xs i g)
    ∙ ap (λ (b : Bool). cond b (h x * H) 0 + rest) (le-ltb (rate_over x * rate_under x) (rate_over x * rate_under x) (omega arith))
    ∙ omega arith)
  where
    x : Post
    x = get_or xs i no_post

    rest : ℕ
    rest = parts_of (higher (claim H x)) (drop (suc i) (claims H xs))

division_share : (H K : ℕ) (xs : List Post) (i : ℕ) → i < length xs
    → get_or (division K (claims H xs)) i 0 ≡ min (h (get_or xs i no_post) * H) (K - minutes_ahead (get_or xs i no_post) i xs * H)
division_share H K xs i g =
    division_at K (claims H xs) i (omega (arith, claims_length H xs))
    ∙ ap (λ (c : Claim). min c.most (K - (parts_of (no_lower c) (take i (claims H xs)) + parts_of (higher c) (drop (suc i) (claims H xs))))) (claims_at H xs i g)
    ∙ ap (λ (n : ℕ). min (h (get_or xs i no_post) * H) (K - n)) (sym (ahead_at H xs i g))

part_at : (xs : List Post) (i : ℕ) → i < length xs
    → get_or (parts xs) i 0
    ≡ cond (any_whole_time xs)
    (cond (whole_time (get_or xs i no_post)) (h (get_or xs i no_post) * contracted_minutes xs) 0)
    (min (h (get_or xs i no_post) * contracted_minutes xs) (weighted_parts xs - minutes_ahead (get_or xs i no_post) i xs * contracted_minutes xs))
part_at xs i g = by (any_whole_time xs)
  where
    H : ℕ
    H = contracted_minutes xs

    by : (b : Bool) → get_or (cond b (whole_time_parts H xs) (division (weighted_parts xs) (claims H xs))) i 0 ≡ cond b (cond (whole_time (get_or xs i no_post)) (h (get_or xs i no_post) * H) 0) (min (h (get_or xs i no_post) * H) (weighted_parts xs - minutes_ahead (get_or xs i no_post) i xs * H))
    by true = whole_at H xs i g
    by false = division_share H (weighted_parts xs) xs i g

shares_length : (K : ℕ) (e l : List Claim) → length (shares K e l) ≡ length l
shares_length K e [] = refl
shares_length K e (x ∷ l) = ap suc (shares_length K (e ++ x ∷ []) l)

whole_length : (H : ℕ) (l : List Post) → length (whole_time_parts H l) ≡ length l
whole_length H [] = refl
whole_length H (x ∷ l) = ap suc (whole_length H l)

pub parts_length : (xs : List Post) → length (parts xs) ≡ length xs
parts_length xs = by (any_whole_time xs)
  where
    H : ℕ
    H = contracted_minutes xs

    by : (b : Bool) → length (cond b (whole_time_parts H xs) (division (weighted_parts xs) (claims H xs))) ≡ length xs
    by true = whole_length H xs
    by false = shares_length (weighted_parts xs) [] (claims H xs) ∙ claims_length H xs

within_at : (H : ℕ) (xs : List Post) (qs : List ℕ) (i : ℕ) → Within (claims H xs) qs → i < length xs → get_or qs i 0 ≤ h (get_or xs i no_post) * H
within_at H [] [] i nothing g = absurd (not-suc-le-zero g)
within_at H (x ∷ xs) (q ∷ qs) zero (more k u) g = k
within_at H (x ∷ xs) (q ∷ qs) (suc i) (more k u) g = within_at H xs qs i u (le_of_suc-le-suc g)
within_at H [] (q ∷ qs) i x4 g = elim x4 [ ]
within_at H (x ∷ xs) [] i x5 g = elim x5 [ ]

-- what the posts from place i on count, and which way that goes
paid_turn : (H : ℕ) (xs : List Post) (qs : List ℕ) (i : ℕ) → i < length xs → i < length qs
    → (paid H (drop i xs) (drop i qs)
    ≡ rounded (counted H (get_or xs i no_post) (get_or qs i 0)) (rate_under (get_or xs i no_post) * H) + paid H (drop (i + 1) xs) (drop (i + 1) qs))
    × (paid_way H (drop i xs) (drop i qs)
    ≡ either_way (way (counted H (get_or xs i no_post) (get_or qs i 0)) (rate_under (get_or xs i no_post) * H)) (paid_way H (drop (i + 1) xs) (drop (i + 1) qs)))
unfolding paid paid_way
paid_turn H xs qs i g k = rw (add-one, drop-cons xs i no_post g, drop-cons qs i 0 k) (refl, refl)

either_assoc : (u v t : Way) → either_way (either_way u v) t ≡ either_way u (either_way v t)
unfolding either_way
either_assoc Way.Exact v t = refl
either_assoc Way.Down v t = refl
either_assoc Way.Up v t = refl

-- ---- writing

-- a turn of a loop that copies s into the first places of d
pub write_turn : {A : Type 0} (z : A) (s d : List A) (i : ℕ) → i < length s → i < length d → set (take i s ++ drop i d) i (get_or s i z) ≡ take (i + 1) s ++ drop (i + 1) d
write_turn z s d i hs hd =
    rw add-one
    (ap (λ (r : List _). set (take i s ++ r) i (get_or s i z)) (drop-cons d i z hd)
    ∙ set_at (take i s) (get_or d i z) (drop (suc i) d) (get_or s i z) i (length-take-le i s (omega arith))
    ∙ sym (append_snoc (take i s) (get_or s i z) (drop (suc i) d))
    ∙ ap (λ (r : List _). r ++ drop (suc i) d) (sym (take-suc s i z hs)))

-- its end, where the places past the n copied are those of s
pub write_all : {A : Type 0} (s d : List A) (n : ℕ) → drop n s ≡ drop n d → take n s ++ drop n d ≡ s
write_all s d n e = ap (λ (r : List _). take n s ++ r) (sym e) ∙ take-append-drop n s

-- ---- the same for a year, as the code reads it

-- what the posts from place i on count
abbrev paid_from : YearPosts → ℕ → ℕ
paid_from y i = paid y.minutes.0 (drop i (posts_of y)) (drop i (parts (posts_of y)))

-- and which way that goes
abbrev way_from : YearPosts → ℕ → Way
way_from y i = paid_way y.minutes.0 (drop i (posts_of y)) (drop i (parts (posts_of y)))

-- the parts and the pay of the posts before place i, and which way that pay went
pub record Upto (y : YearPosts) (out : List ℕ) (pay : ℕ) (went : Way) (i : ℕ) : Type 0 where
  pub within : i ≤ y.count
  pub room : length out ≡ most_posts
  pub written : out ≡ take i (parts (posts_of y)) ++ drop i no_parts
  pub most : pay ≤ highest_counted * i
  pub earned : pay + paid_from y i ≡ aggregate_pay (posts_of y)
  pub way : either_way went (way_from y i) ≡ aggregate_way (posts_of y)

module _ (y : YearPosts) (held : Held y) where
  count : length (posts_of y) ≡ y.count
  count = posts_count y held

  pub at_place : (i : ℕ) → i < y.count → get_or (posts_of y) i no_post ≡ get_or y.list i no_post
  at_place i g = get_or-take y.count y.list i no_post g

  pub front : (i : ℕ) → i < y.count → drop i (posts_of y) ≡ get_or y.list i no_post ∷ drop (i + 1) (posts_of y)
  front i g =
      drop-cons (posts_of y) i no_post (omega (arith, count))
      ∙ ap₂ (λ (x : Post) (k : ℕ). x ∷ drop k (posts_of y)) (at_place i g) (sym (add-one i))

  pub past : (i : ℕ) → y.count ≤ i → drop i (posts_of y) ≡ []
  past i g = drop_of_length-le (posts_of y) {i = i} (omega (arith, count))

  -- the parts of the post at place i, as the code works them out
  pub part_is : (i part : ℕ) → i < y.count
      → part
      ≡ cond (ltb 0 y.wholes)
      (cond (whole_time (get_or y.list i no_post)) (h (get_or y.list i no_post) * y.minutes.0) 0)
      (min (h (get_or y.list i no_post) * y.minutes.0) (y.weighted - minutes_before y i * y.minutes.0))
      → part ≡ get_or (parts (posts_of y)) i 0
  part_is i part g e =
      e
      ∙ rw (held.wholes, ← any_whole_time_lem (posts_of y), held.ranked i (omega (arith, count)), held.minutes, held.weighted, ← at_place i g)
      (sym (part_at (posts_of y) i (omega (arith, count))))

  -- the minutes before a post are among those of all posts
  pub before_most : (i : ℕ) → i < y.count → minutes_before y i ≤ y.minutes.0
  before_most i g = omega (arith, held.ranked i (omega (arith, count)), held.minutes, ahead_most (get_or (posts_of y) i no_post) i (posts_of y))

  pub part_most : (i : ℕ) → i < y.count → get_or (parts (posts_of y)) i 0 ≤ h (get_or y.list i no_post) * y.minutes.0
  part_most i g =
      rw (held.minutes, ← at_place i g)
      (within_at (contracted_minutes (posts_of y)) (posts_of y) (parts (posts_of y)) i (parts_within (posts_of y)) (omega (arith, count)))

  -- what the post at place i counts for so many parts, before it is rounded: above the line, and below it
  abbrev over : ℕ → ℕ → ℕ
  over i part = counted y.minutes.0 (get_or y.list i no_post) part

  abbrev under : ℕ → ℕ
  under i = rate_under (get_or y.list i no_post) * y.minutes.0

  paid_front : (i : ℕ) → i < y.count
      → (paid_from y i ≡ rounded (over i (get_or (parts (posts_of y)) i 0)) (under i) + paid_from y (i + 1))
      × (way_from y i ≡ either_way (way (over i (get_or (parts (posts_of y)) i 0)) (under i)) (way_from y (i + 1)))
  paid_front i g =
      rw (← at_place i g)
      (paid_turn y.minutes.0 (posts_of y) (parts (posts_of y)) i (omega (arith, count)) (omega (arith, count, parts_length (posts_of y))))

  paid_past : (i : ℕ) → y.count ≤ i → (paid_from y i ≡ 0) × (way_from y i ≡ Way.Exact)
  unfolding paid paid_way
  paid_past i g = rw (past i g) (refl, refl)

  paid_all : (paid_from y 0 ≡ aggregate_pay (posts_of y)) × (way_from y 0 ≡ aggregate_way (posts_of y))
  paid_all =
      let worked = stand_worked (posts_of y) held.stand in
      rw held.minutes (sym (aggregate_closed (posts_of y) worked), sym (way_closed (posts_of y) worked))

  pub upto_start : Upto y no_parts 0 Way.Exact 0
  unfolding either_way
  upto_start = record { within = omega arith; room = refl; written = refl; most = omega arith; earned = omega (arith, paid_all.0); way = paid_all.1 }

  pub upto_turn : (out : List ℕ) (pay : ℕ) (went : Way) (i part earned : ℕ) (own next : Way) → Upto y out pay went i → i < y.count → part ≡ get_or (parts (posts_of y)) i 0
      → earned ≡ rounded (over i part) (under i) → earned ≤ highest_counted → own ≡ way (over i part) (under i) → next ≡ either_way went own
      → Upto y (set out i part) (pay + earned) next (i + 1)
  upto_turn out pay went i part earned own next u g e f few v n =
      record {
        within = omega arith;
        room = simp length-set u.room;
        written =
            ap₂ (λ (l : List ℕ) (x : ℕ). set l i x) u.written e
            ∙ write_turn 0 (parts (posts_of y)) no_parts i (omega (arith, count, parts_length (posts_of y))) (omega (arith, held.few));
        most = omega (arith, u.most);
        earned = omega (arith, u.earned, (paid_front i g).0, f ∙ ap (λ (q : ℕ). rounded (over i q) (under i)) e);
        way =
            ap (λ (t : Way). either_way t (way_from y (i + 1))) n
            ∙ either_assoc went own (way_from y (i + 1))
            ∙ ap (λ (t : Way). either_way went (either_way t (way_from y (i + 1)))) (v ∙ ap (λ (q : ℕ). way (over i q) (under i)) e)
            ∙ ap (either_way went) (sym (paid_front i g).1)
            ∙ u.way;
      }

  pub upto_end : (out : List ℕ) (pay : ℕ) (went : Way) (i : ℕ) → Upto y out pay went i → y.count ≤ i
      → (out ≡ parts (posts_of y) ++ drop (length (posts_of y)) no_parts) × (pay ≡ aggregate_pay (posts_of y)) × (went ≡ aggregate_way (posts_of y))
  upto_end out pay went i u g = (
    u.written
        ∙ ap (λ (k : ℕ). take k (parts (posts_of y)) ++ drop k no_parts) here
        ∙ ap (λ (l : List ℕ). l ++ drop (length (posts_of y)) no_parts) (take_all (length (posts_of y)) (parts (posts_of y)) (omega (arith, parts_length (posts_of y)))),
    omega (arith, u.earned, (paid_past i g).0),
    sym (either_exact went) ∙ ap (either_way went) (sym (paid_past i g).1) ∙ u.way,
  )
    where
      here : i ≡ length (posts_of y)
      here = omega (arith, u.within, count)
