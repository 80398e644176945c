-- The ranking that a year holds: what a post that joins or leaves makes of it, and of the sums beside it.
use mathlib.Core.Path.{◌≡◌, refl, sym, ◌∙◌, ap}
use mathlib.Core.Bool.{Bool, true, false, not, cond}
use mathlib.Core.List.{List, [], ◌∷◌, ◌++◌}
use mathlib.Core.Logic.{⊎_elim}
use Prim.Native.Nat.{ℕ, zero, suc, ◌+◌, ◌*◌, ◌-◌, ◌≤◌, ◌<◌}
use native.Mathlib.Nat.{not-suc-le-zero, le_of_suc-le-suc}
use native.Mathlib.Omega.{arith}
use lib.Dec.{ltb, leb}
use lib.ListN.{length, take, drop, get_or, set, length-append, get_or-append}
use lib.Seq.{get_or_at, get_or-set_same, get_or-set_other}
use borrow.Author.Tests.{lt-ltb, le-ltb, le-leb, lt-leb}
use Rattle.measures.specs.Lists.{All}
use Rattle.measures.proofs.Tests.{le_or_lt}
use Rattle.measures.specs.declared.Minutes.{Minutes}
use Rattle.posts.specs.declared.Post.{Post}
use Rattle.posts.specs.Posts.{h, w, rate_over, rate_under, contracted_minutes, weighted_parts, whole_time, any_whole_time}
use Rattle.posts.specs.Rates.{ranked_before, minutes_ahead}
use Rattle.posts.specs.Changes.{without}
use Rattle.posts.specs.Year.{no_post, no_minutes, whole_times, RankedBy, raised_by, lowered_from, lowered_by}

-- ---- whole-time posts

pub any_whole_time_lem : (xs : List Post) → any_whole_time xs ≡ ltb 0 (whole_times xs)
any_whole_time_lem [] = refl
any_whole_time_lem (x ∷ xs) = by (whole_time x) (any_whole_time_lem xs)
  where
    by : (b : Bool) → any_whole_time xs ≡ ltb 0 (whole_times xs) → cond b true (any_whole_time xs) ≡ ltb 0 (cond b 1 0 + whole_times xs)
    by true e = sym (lt-ltb 0 (1 + whole_times xs) (omega arith))
    by false e = e ∙ ap (ltb 0) (let z : whole_times xs ≡ 0 + whole_times xs = omega arith in z)

-- ---- one of two posts goes before the other

flip : (a b : ℕ) → leb a b ≡ not (ltb b a)
flip a b =
    ⊎_elim
    (λ (g : a ≤ b). rw (le-leb a b g, le-ltb b a g) refl)
    (λ (g : b < a). rw (lt-leb a b g, lt-ltb b a g) refl)
    (le_or_lt a b)

-- an earlier post goes before x where x does not go before it
pub other_way : (x y : Post) → ranked_before x true y ≡ not (ranked_before y false x)
other_way x y = flip (rate_over x * rate_under y) (rate_over y * rate_under x)

-- no post goes before itself
pub not_itself : (x : Post) → ranked_before x false x ≡ false
not_itself x = le-ltb (rate_over x * rate_under x) (rate_over x * rate_under x) (omega arith)

-- ---- a post joins at the end

pub ahead_end : (y : Post) (k : ℕ) (xs : List Post) (x : Post) → k ≤ length xs → minutes_ahead y k (xs ++ x ∷ []) ≡ minutes_ahead y k xs + cond (ranked_before y false x) (h x) 0
unfolding minutes_ahead
ahead_end y zero [] x g = omega arith
ahead_end y (suc k) [] x g = absurd (not-suc-le-zero g)
ahead_end y zero (z ∷ xs) x g = omega (arith, ahead_end y zero xs x (omega arith))
ahead_end y (suc k) (z ∷ xs) x g = omega (arith, ahead_end y k xs x (le_of_suc-le-suc g))

pub raised_length : (x : Post) (rs : List Minutes) (ys : List Post) → length (raised_by x rs ys) ≡ length rs
unfolding raised_by
raised_length x [] ys = refl
raised_length x (r ∷ rs) [] = refl
raised_length x (r ∷ rs) (y ∷ ys) = ap suc (raised_length x rs ys)

pub raised_at : (x : Post) (rs : List Minutes) (ys : List Post) (i : ℕ) → i < length ys → length ys ≤ length rs
    → get_or (raised_by x rs ys) i no_minutes ≡ record { 0 = (get_or rs i no_minutes).0 + cond (ranked_before (get_or ys i no_post) false x) (h x) 0 }
unfolding raised_by
raised_at x rs [] i g l = absurd (not-suc-le-zero g)
raised_at x [] (y ∷ ys) i g l = absurd (not-suc-le-zero l)
raised_at x (r ∷ rs) (y ∷ ys) zero g l = refl
raised_at x (r ∷ rs) (y ∷ ys) (suc i) g l = raised_at x rs ys i (le_of_suc-le-suc g) (le_of_suc-le-suc l)

pub raised_past : (x : Post) (rs : List Minutes) (ys : List Post) → drop (length ys) (raised_by x rs ys) ≡ drop (length ys) rs
unfolding raised_by
raised_past x [] ys = refl
raised_past x (r ∷ rs) [] = refl
raised_past x (r ∷ rs) (y ∷ ys) = raised_past x rs ys

-- the ranking with the post that joins
pub ranked_end : (rs : List Minutes) (xs : List Post) (x : Post) (n : ℕ) → length xs ≡ n → n < length rs → RankedBy rs xs
    → RankedBy (set (raised_by x rs xs) n (record { 0 = minutes_ahead x n xs })) (xs ++ x ∷ [])
ranked_end rs xs x n c room r i g =
    ⊎_elim
    (λ (k : n ≤ i).
    let e : i ≡ n = omega (arith, c, length-append xs (x ∷ [])) in
    rw e
    (ap (λ (m : Minutes). m.0) (get_or-set_same (raised_by x rs xs) n (record { 0 = minutes_ahead x n xs }) no_minutes (omega (arith, raised_length x rs xs)))
    ∙ rw (get_or_at xs x [] no_post n c) (omega (arith, ahead_end x n xs x (omega (arith, c)), ap (λ (b : Bool). cond b (h x) 0) (not_itself x)))))
    (λ (k : i < n).
    ap (λ (m : Minutes). m.0) (get_or-set_other (raised_by x rs xs) n i (record { 0 = minutes_ahead x n xs }) no_minutes (λ e. let z : ⊥ = omega (arith, e) in z) ∙ raised_at x rs xs i (omega (arith, c)) (omega (arith, c)))
    ∙ rw (get_or-append xs (x ∷ []) no_post i (omega (arith, c))) (omega (arith, r i (omega (arith, c)), ahead_end (get_or xs i no_post) i xs x (omega (arith, c)))))
    (le_or_lt n i)

-- ---- a post leaves

pub without_length : {A : Type 0} (i : ℕ) (xs : List A) → i < length xs → length xs ≡ suc (length (without i xs))
unfolding without
without_length i [] g = absurd (not-suc-le-zero g)
without_length zero (x ∷ xs) g = refl
without_length (suc i) (x ∷ xs) g = ap suc (without_length i xs (le_of_suc-le-suc g))

pub without_before : {A : Type 0} (i j : ℕ) (xs : List A) (z : A) → j < i → get_or (without i xs) j z ≡ get_or xs j z
unfolding without
without_before zero j xs z g = absurd (not-suc-le-zero g)
without_before (suc i) j [] z g = refl
without_before (suc i) zero (x ∷ xs) z g = refl
without_before (suc i) (suc j) (x ∷ xs) z g = without_before i j xs z (le_of_suc-le-suc g)

pub without_after : {A : Type 0} (i j : ℕ) (xs : List A) (z : A) → i ≤ j → get_or (without i xs) j z ≡ get_or xs (suc j) z
unfolding without
without_after i j [] z g = refl
without_after zero j (x ∷ xs) z g = refl
without_after (suc i) zero (x ∷ xs) z g = absurd (not-suc-le-zero g)
without_after (suc i) (suc j) (x ∷ xs) z g = without_after i j xs z (le_of_suc-le-suc g)

pub moved_up : {A : Type 0} (at n : ℕ) (d : List A) → at < n → n ≤ length d → without at (take n d) ≡ take at d ++ take (n - suc at) (drop (suc at) d)
unfolding without
moved_up at zero d g l = absurd (not-suc-le-zero g)
moved_up at (suc n) [] g l = absurd (not-suc-le-zero l)
moved_up zero (suc n) (x ∷ d) g l = ap (λ (k : ℕ). take k d) (let e : n ≡ suc n - 1 = omega arith in e)
moved_up (suc at) (suc n) (x ∷ d) g l =
    ap (λ (r : List _). x ∷ r)
    (moved_up at n d (le_of_suc-le-suc g) (le_of_suc-le-suc l) ∙ ap (λ (k : ℕ). take at d ++ take k (drop (suc at) d)) (let e : n - suc at ≡ suc n - suc (suc at) = omega arith in e))

pub minutes_without : (i : ℕ) (xs : List Post) → i < length xs → contracted_minutes xs ≡ contracted_minutes (without i xs) + h (get_or xs i no_post)
unfolding without
minutes_without i [] g = absurd (not-suc-le-zero g)
minutes_without zero (x ∷ xs) g = omega arith
minutes_without (suc i) (x ∷ xs) g = omega (arith, minutes_without i xs (le_of_suc-le-suc g))

pub weighted_without : (i : ℕ) (xs : List Post) → i < length xs → weighted_parts xs ≡ weighted_parts (without i xs) + w (get_or xs i no_post) * h (get_or xs i no_post)
unfolding without
weighted_without i [] g = absurd (not-suc-le-zero g)
weighted_without zero (x ∷ xs) g = omega arith
weighted_without (suc i) (x ∷ xs) g = omega (arith, weighted_without i xs (le_of_suc-le-suc g))

pub wholes_without : (i : ℕ) (xs : List Post) → i < length xs → whole_times xs ≡ whole_times (without i xs) + cond (whole_time (get_or xs i no_post)) 1 0
unfolding without
wholes_without i [] g = absurd (not-suc-le-zero g)
wholes_without zero (x ∷ xs) g = omega arith
wholes_without (suc i) (x ∷ xs) g = omega (arith, wholes_without i xs (le_of_suc-le-suc g))

pub all_without : {A : Type 0} (P : A → Type 0) (at : ℕ) (xs : List A) → All P xs → All P (without at xs)
unfolding without
all_without P at [] a = tt
all_without P zero (x ∷ xs) a = a.1
all_without P (suc at) (x ∷ xs) a = (a.0, all_without P at xs a.1)

-- the minutes before y without those of the post that leaves: of a post later than y, and of an earlier one
pub ahead_later : (y : Post) (k i : ℕ) (xs : List Post) → k ≤ i → i < length xs
    → minutes_ahead y k xs ≡ minutes_ahead y k (without i xs) + cond (ranked_before y false (get_or xs i no_post)) (h (get_or xs i no_post)) 0
unfolding minutes_ahead without
ahead_later y k i [] g l = absurd (not-suc-le-zero l)
ahead_later y zero zero (x ∷ xs) g l = omega arith
ahead_later y (suc k) zero (x ∷ xs) g l = absurd (not-suc-le-zero g)
ahead_later y zero (suc i) (x ∷ xs) g l = omega (arith, ahead_later y zero i xs (omega arith) (le_of_suc-le-suc l))
ahead_later y (suc k) (suc i) (x ∷ xs) g l = omega (arith, ahead_later y k i xs (le_of_suc-le-suc g) (le_of_suc-le-suc l))

pub ahead_earlier : (y : Post) (k i : ℕ) (xs : List Post) → i ≤ k → i < length xs
    → minutes_ahead y (suc k) xs ≡ minutes_ahead y k (without i xs) + cond (ranked_before y true (get_or xs i no_post)) (h (get_or xs i no_post)) 0
unfolding minutes_ahead without
ahead_earlier y k i [] g l = absurd (not-suc-le-zero l)
ahead_earlier y k zero (x ∷ xs) g l = omega arith
ahead_earlier y zero (suc i) (x ∷ xs) g l = absurd (not-suc-le-zero g)
ahead_earlier y (suc k) (suc i) (x ∷ xs) g l = omega (arith, ahead_earlier y k i xs (le_of_suc-le-suc g) (le_of_suc-le-suc l))

pub lowered_length : (k : ℕ) (x : Post) (at : ℕ) (rs : List Minutes) (ys : List Post) → length (lowered_from k x at rs ys) ≡ length rs
unfolding lowered_from
lowered_length k x at [] ys = refl
lowered_length k x at (r ∷ rs) [] = refl
lowered_length k x at (r ∷ rs) (y ∷ ys) = ap suc (lowered_length (suc k) x at rs ys)

lowered_from_lem : (k : ℕ) (x : Post) (at : ℕ) (rs : List Minutes) (ys : List Post) (i : ℕ) → i < length ys → length ys ≤ length rs
    → get_or (lowered_from k x at rs ys) i no_minutes ≡ record { 0 = (get_or rs i no_minutes).0 - cond (ranked_before (get_or ys i no_post) (ltb at (k + i)) x) (h x) 0 }
unfolding lowered_from
lowered_from_lem k x at rs [] i g l = absurd (not-suc-le-zero g)
lowered_from_lem k x at [] (y ∷ ys) i g l = absurd (not-suc-le-zero l)
lowered_from_lem k x at (r ∷ rs) (y ∷ ys) zero g l = ap (λ (n : ℕ). record { 0 = r.0 - cond (ranked_before y (ltb at n) x) (h x) 0 }) (let e : k ≡ k + 0 = omega arith in e)
lowered_from_lem k x at (r ∷ rs) (y ∷ ys) (suc i) g l =
    lowered_from_lem (suc k) x at rs ys i (le_of_suc-le-suc g) (le_of_suc-le-suc l)
    ∙ ap (λ (n : ℕ). record { 0 = (get_or rs i no_minutes).0 - cond (ranked_before (get_or ys i no_post) (ltb at n) x) (h x) 0 }) (let e : suc k + i ≡ k + suc i = omega arith in e)

pub lowered_at : (x : Post) (at : ℕ) (rs : List Minutes) (ys : List Post) (i : ℕ) → i < length ys → length ys ≤ length rs
    → get_or (lowered_by x at rs ys) i no_minutes ≡ record { 0 = (get_or rs i no_minutes).0 - cond (ranked_before (get_or ys i no_post) (ltb at i) x) (h x) 0 }
lowered_at x at rs ys i g l =
    lowered_from_lem 0 x at rs ys i g l
    ∙ ap (λ (n : ℕ). record { 0 = (get_or rs i no_minutes).0 - cond (ranked_before (get_or ys i no_post) (ltb at n) x) (h x) 0 }) (let e : 0 + i ≡ i = omega arith in e)

pub lowered_past : (k : ℕ) (x : Post) (at : ℕ) (rs : List Minutes) (ys : List Post) → drop (length ys) (lowered_from k x at rs ys) ≡ drop (length ys) rs
unfolding lowered_from
lowered_past k x at [] ys = refl
lowered_past k x at (r ∷ rs) [] = refl
lowered_past k x at (r ∷ rs) (y ∷ ys) = lowered_past (suc k) x at rs ys

-- the minutes that the leaving post takes from those before another are among them
pub lowered_fits : (xs : List Post) (at i : ℕ) → at < length xs → i < length xs
    → cond (ranked_before (get_or xs i no_post) (ltb at i) (get_or xs at no_post)) (h (get_or xs at no_post)) 0 ≤ minutes_ahead (get_or xs i no_post) i xs
lowered_fits xs at i g l =
    ⊎_elim
    (λ (k : i ≤ at). rw (le-ltb at i k) (omega (arith, ahead_later (get_or xs i no_post) i at xs k g)))
    (λ (k : at < i). rw (lt-ltb at i k) (after i k))
    (le_or_lt i at)
  where
    after : (i : ℕ) → at < i → cond (ranked_before (get_or xs i no_post) true (get_or xs at no_post)) (h (get_or xs at no_post)) 0 ≤ minutes_ahead (get_or xs i no_post) i xs
    after zero k = absurd (not-suc-le-zero k)
    after (suc i) k = omega (arith, ahead_earlier (get_or xs (suc i) no_post) i at xs (le_of_suc-le-suc k) g)

-- the ranking without the post that leaves is that of the posts that remain
pub ranked_without : (rs : List Minutes) (xs : List Post) (at : ℕ) → at < length xs → length xs ≤ length rs → RankedBy rs xs
    → RankedBy (without at (lowered_by (get_or xs at no_post) at rs xs)) (without at xs)
ranked_without rs xs at g l r j k =
    ⊎_elim
    (λ (a : at ≤ j).
    ap (λ (m : Minutes). m.0) (without_after at j (lowered_by x at rs xs) no_minutes a ∙ lowered_at x at rs xs (suc j) (omega (arith, long)) l)
    ∙ rw (without_after at j xs no_post a, lt-ltb at (suc j) (omega arith)) (omega (arith, r (suc j) (omega (arith, long)), ahead_earlier (get_or xs (suc j) no_post) j at xs a g)))
    (λ (a : j < at).
    ap (λ (m : Minutes). m.0) (without_before at j (lowered_by x at rs xs) no_minutes a ∙ lowered_at x at rs xs j (omega (arith, long)) l)
    ∙ rw (without_before at j xs no_post a, le-ltb at j (omega arith)) (omega (arith, r j (omega (arith, long)), ahead_later (get_or xs j no_post) j at xs (omega arith) g)))
    (le_or_lt at j)
  where
    x : Post
    x = get_or xs at no_post

    long : length xs ≡ suc (length (without at xs))
    long = without_length at xs g
