-- What holds of posts that stand and of a year that holds them.
use mathlib.Core.Path.{◌≡◌, refl, sym, ◌∙◌, ap, subst}
use mathlib.Core.Bool.{Bool, true, false, ◌&&◌, not, cond}
use mathlib.Core.List.{List, [], ◌∷◌, ◌++◌}
use Prim.Native.Nat.{ℕ, ◌+◌, ◌*◌, ◌^◌, ◌≤◌, ◌<◌}
use native.Mathlib.Nat.{not-suc-le-zero, mul-le-mul, mul-le-mul_left, mul_comm, mul-pos}
use native.Mathlib.Numerals.{add-one}
use native.Mathlib.Omega.{arith}
use lib.Dec.{ltb}
use lib.ListN.{length, get_or, set, length-set}
use lib.Seq.{get_or-take, take-suc-set, length-take-le}
use borrow.Author.Tests.{ltb-true, eq-eqb, ne_eqb}
use Rattle.measures.specs.Lists.{All}
use Rattle.measures.specs.Limits.{highest_pay, highest_supplement, highest_counted, highest_aggregate, most_posts}
use Rattle.measures.proofs.Lists.{all_end, all_at, all_map}
use Rattle.measures.specs.declared.Minutes.{Minutes}
use Rattle.measures.specs.declared.Way.{Way}
use Rattle.measures.specs.Rounding.{rounded}
use Rattle.measures.specs.Refusals.{unless, first_refusal}
use Rattle.measures.proofs.Rounding.{rounded_bound}
use Rattle.measures.proofs.Tests.{parts as tested, passed, neither, and_left, and_right}
use Rattle.posts.specs.declared.Post.{Post}
use Rattle.posts.specs.declared.YearPosts.{YearPosts}
use Rattle.posts.specs.declared.YearPosts.TheInside.{Inside}
use Rattle.posts.specs.YearFields.{year_of}
use Rattle.posts.specs.Limits.{longest_week, most_minutes, heaviest_week, most_parts, highest_rate_over}
use Rattle.posts.specs.Posts.{h, w, p, s, HasMinutes, contracted_minutes, weighted_parts, rate_over, rate_under, counted, whole_time, any_whole_time, aggregate_pay}
use Rattle.posts.specs.Refusals.{post_stands, Stands, post_refusal}
use Rattle.posts.specs.Rates.{minutes_ahead}
use Rattle.posts.specs.Year.{no_post, no_posts, posts_of, whole_times, RankedBy, Held, raised_by, joined_by, joining}
use Rattle.posts.proofs.Ranks.{any_whole_time_lem, raised_length, ranked_end}
use Rattle.posts.proofs.Aggregate.{Rounds, rate_under_pos, full_rounds, none_rounds, counted_most, pay_total, aggregate_bound}

-- the limits of refusal 7
pub record Standing (x : Post) : Type 0 where
  pub some : 1 ≤ h x
  pub within : h x ≤ w x
  pub week : w x ≤ longest_week
  pub paid : p x ≤ highest_pay
  pub more : s x ≤ highest_supplement

pub standing : (x : Post) → Stands x → Standing x
unfolding post_stands
standing x e = record { some = search tested; within = search tested; week = search tested; paid = search tested; more = search tested }

-- ---- lists of posts that stand

pub stands_worked : (x : Post) → Stands x → HasMinutes x
stands_worked x e = let t = standing x e in (t.some, t.within)

pub stand_worked : (xs : List Post) → All Stands xs → All HasMinutes xs
stand_worked xs a = all_map Stands HasMinutes stands_worked xs a

pub minutes_most : (xs : List Post) → All Stands xs → contracted_minutes xs ≤ longest_week * length xs
minutes_most [] a = omega arith
minutes_most (x ∷ xs) a = let t = standing x a.0 in omega (arith, minutes_most xs a.1)

pub minutes_pos : (xs : List Post) → All Stands xs → 0 < length xs → 0 < contracted_minutes xs
minutes_pos [] a g = g
minutes_pos (x ∷ xs) a g = omega (arith, (standing x a.0).some)

-- its contracted minutes
pub minutes_within : (x : Post) → Stands x → h x ≤ longest_week
minutes_within x e = let t = standing x e in omega arith

-- what a post adds to K
week_most : (x : Post) → Stands x → w x * h x ≤ heaviest_week
week_most x e = mul-le-mul (standing x e).week (minutes_within x e)

pub weighted_most : (xs : List Post) → All Stands xs → weighted_parts xs ≤ heaviest_week * length xs
weighted_most [] a = omega arith
weighted_most (x ∷ xs) a = omega (arith, weighted_most xs a.1, week_most x a.0)

pub pay_most : (xs : List Post) → All Stands xs → pay_total xs ≤ highest_counted * length xs
unfolding pay_total
pay_most [] a = omega arith
pay_most (x ∷ xs) a = let t = standing x a.0 in omega (arith, pay_most xs a.1)

-- a year's aggregate is at most sixteen posts at the highest pay and supplement
pub aggregate_most : (xs : List Post) → All Stands xs → length xs ≤ most_posts → aggregate_pay xs ≤ highest_aggregate
aggregate_most xs a few = omega (arith, aggregate_bound xs (stand_worked xs a), pay_most xs a)

pub stand_end : (xs : List Post) (x : Post) → All Stands xs → Stands x → All Stands (xs ++ x ∷ [])
stand_end xs x a s = all_end Stands xs x a s

-- ---- a year

pub held_none : Held no_posts
held_none =
    record {
      room = refl;
      places = refl;
      few = omega arith;
      ranked = λ i g. absurd (not-suc-le-zero g);
      minutes = refl;
      weighted = refl;
      wholes = refl;
      stand = tt;
    }

module _ (y : YearPosts) (held : Held y) where
  pub posts_count : length (posts_of y) ≡ y.count
  posts_count = length-take-le y.count y.list (omega (arith, held.few, held.room))

  pub minutes_few : y.minutes.0 ≤ longest_week * y.count
  minutes_few = omega (arith, held.minutes, minutes_most (posts_of y) held.stand, posts_count)

  pub minutes_some : 0 < y.count → 0 < y.minutes.0
  minutes_some g = omega (arith, held.minutes, minutes_pos (posts_of y) held.stand (omega (arith, posts_count)))

  pub weighted_few : y.weighted ≤ heaviest_week * y.count
  weighted_few = omega (arith, held.weighted, weighted_most (posts_of y) held.stand, posts_count)

  pub place_stands : (i : ℕ) → i < y.count → Stands (get_or y.list i no_post)
  place_stands i g =
      subst Stands (get_or-take y.count y.list i no_post g)
      (all_at Stands (posts_of y) i no_post held.stand (omega (arith, posts_count)))

-- a place of a year is one of the places that its fields hold
pub place_in : {a : Inside} {y : YearPosts} (at : ℕ) → year_of a ≡ y → at < y.count → at < a.count
place_in at e g = subst (λ (z : YearPosts). at < z.count) (sym e) g

-- a post that a year does not refuse, its fields do not refuse
pub unrefused_in : {a : Inside} {y : YearPosts} (x : Post) → year_of a ≡ y → post_refusal (posts_of y) x ≡ 0 → post_refusal (posts_of (year_of a)) x ≡ 0
unrefused_in x e z = subst (λ (y : YearPosts). post_refusal (posts_of y) x ≡ 0) (sym e) z

-- ---- a post that joins

pub record Joins (before : List Post) (x : Post) : Type 0 where
  pub stands : Stands x
  pub few : length before < most_posts

pub joins : (before : List Post) (x : Post) → post_refusal before x ≡ 0 → Joins before x
unfolding post_refusal
joins before x e =
    let t = passed (post_stands x && ltb (length before) most_posts) 7 (omega arith) (neither _ (unless (not (whole_time x && any_whole_time before)) 8) e).0 in
    record { stands = and_left _ _ t; few = ltb-true _ _ (and_right (post_stands x) _ t) }

minutes_end : (xs : List Post) (x : Post) → contracted_minutes (xs ++ x ∷ []) ≡ contracted_minutes xs + h x
minutes_end [] x = omega arith
minutes_end (y ∷ xs) x = omega (arith, minutes_end xs x)

weighted_end : (xs : List Post) (x : Post) → weighted_parts (xs ++ x ∷ []) ≡ weighted_parts xs + w x * h x
weighted_end [] x = omega arith
weighted_end (y ∷ xs) x = omega (arith, weighted_end xs x)

wholes_end : (xs : List Post) (x : Post) → whole_times (xs ++ x ∷ []) ≡ whole_times xs + cond (whole_time x) 1 0
wholes_end [] x = omega arith
wholes_end (y ∷ xs) x = omega (arith, wholes_end xs x)

one_at_most : (b : Bool) → cond b 1 0 ≤ 1
one_at_most true = omega arith
one_at_most false = omega arith

pub wholes_most : (xs : List Post) → whole_times xs ≤ length xs
wholes_most [] = omega arith
wholes_most (x ∷ xs) = omega (arith, wholes_most xs, one_at_most (whole_time x))

module _ (y : YearPosts) (x : Post) (held : Held y) (accepted : post_refusal (posts_of y) x ≡ 0) where
  pub joins_stands : Stands x
  joins_stands = (joins (posts_of y) x accepted).stands

  pub joins_few : y.count < most_posts
  joins_few = omega (arith, (joins (posts_of y) x accepted).few, posts_count y held)

  -- the number of whole-time posts with it
  pub joins_wholes : y.wholes + 1 ≤ most_posts
  joins_wholes = omega (arith, joins_few, held.wholes, wholes_most (posts_of y), posts_count y held)

  -- the year as the code makes it
  pub joined_is : (rs : List Minutes) (before : Minutes) (k m : ℕ)
      → rs ≡ raised_by x y.ranking (posts_of y) → before.0 ≡ minutes_ahead x y.count (posts_of y) → k ≡ w x * h x → m ≡ cond (whole_time x) 1 0
      → ◌≡◌ {A = YearPosts} (record { list = set y.list y.count x; ranking = set rs y.count before; count = y.count + 1; minutes = record { 0 = y.minutes.0 + h x }; weighted = y.weighted + k; wholes = y.wholes + m }) (joined_by y x)
  unfolding joined_by
  joined_is rs before k m e f g t =
      rw (e, g, t)
      (ap (λ (n : ℕ). record { list = set y.list y.count x; ranking = set (raised_by x y.ranking (posts_of y)) y.count (record { 0 = n }); count = y.count + 1; minutes = record { 0 = y.minutes.0 + h x }; weighted = y.weighted + w x * h x; wholes = y.wholes + cond (whole_time x) 1 0 }) f)

  -- the post joins at the end of the list
  pub posts_joined : posts_of (joined_by y x) ≡ posts_of y ++ x ∷ []
  unfolding joined_by
  posts_joined = rw add-one (take-suc-set y.list y.count x (omega (arith, joins_few, held.room)))

  pub held_joined : Held (joined_by y x)
  unfolding joined_by
  held_joined =
      record {
        room = simp length-set held.room;
        places = simp (length-set, raised_length) held.places;
        few = omega (arith, joins_few);
        ranked =
            subst (RankedBy (set (raised_by x y.ranking (posts_of y)) y.count (record { 0 = minutes_ahead x y.count (posts_of y) }))) (sym posts_joined)
            (ranked_end y.ranking (posts_of y) x y.count (posts_count y held) (omega (arith, joins_few, held.places)) held.ranked);
        minutes = ap (λ (n : ℕ). n + h x) held.minutes ∙ sym (minutes_end (posts_of y) x) ∙ ap contracted_minutes (sym posts_joined);
        weighted = ap (λ (n : ℕ). n + w x * h x) held.weighted ∙ sym (weighted_end (posts_of y) x) ∙ ap weighted_parts (sym posts_joined);
        wholes = ap (λ (n : ℕ). n + cond (whole_time x) 1 0) held.wholes ∙ sym (wholes_end (posts_of y) x) ∙ ap whole_times (sym posts_joined);
        stand = subst (All Stands) (sym posts_joined) (stand_end (posts_of y) x held.stand (joins (posts_of y) x accepted).stands);
      }

-- ---- a post that is to join

module _ (y : YearPosts) (x : Post) where
  -- refused, the year is as it was
  pub joining_stays : (post_refusal (posts_of y) x ≡ 0 → ⊥) → joining y x ≡ y
  unfolding joining
  joining_stays n = rw (ne_eqb _ _ n) refl

  pub joining_year : post_refusal (posts_of y) x ≡ 0 → joining y x ≡ joined_by y x
  unfolding joining
  joining_year z = rw (eq-eqb _ _ z) refl

-- ---- the tests of a post that would join, as a year has their numbers

pub refusal_is : (y : YearPosts) (x : Post) → Held y
    → post_refusal (posts_of y) x ≡ first_refusal (unless (post_stands x && ltb y.count most_posts) 7) (unless (not (whole_time x && ltb 0 y.wholes)) 8)
unfolding post_refusal
refusal_is y x held = rw (posts_count y held, any_whole_time_lem (posts_of y), ← held.wholes) refl

-- ---- the rate of a post in 64 bits, and what the post counts for its parts

pub over_most : (x : Post) → Stands x → rate_over x ≤ highest_rate_over
over_most x e = let t = standing x e in omega (arith, mul-le-mul t.paid t.week, mul-le-mul t.more (minutes_within x e))

module _ (x : Post) (part H : ℕ) (e : Stands x) (some : 0 < H) where
  pub under_some : 0 < rate_under x * H
  under_some = mul-pos (rate_under_pos x (stands_worked x e)) some

  -- a post in full counts its pay and its supplement, which is exact
  pub pay_full : part ≡ h x * H → Rounds (counted H x part) (rate_under x * H) (p x + s x) Way.Exact
  pay_full g = subst (λ (n : ℕ). Rounds (counted H x n) (rate_under x * H) (p x + s x) Way.Exact) (sym g) (full_rounds H x some (stands_worked x e))

  -- one without parts nothing
  pub pay_none : part ≡ 0 → Rounds (counted H x part) (rate_under x * H) 0 Way.Exact
  pay_none g = subst (λ (n : ℕ). Rounds (counted H x n) (rate_under x * H) 0 Way.Exact) (sym g) (none_rounds H x some (stands_worked x e))

  -- another its minutes times its rate
  pub pay_cut : (part ≡ h x * H → ⊥) → counted H x part ≡ rate_over x * part
  unfolding counted
  pay_cut n = rw (ne_eqb part (h x * H) n) (mul_comm part (rate_over x))

  pub pay_most_for : part ≤ h x * H → rounded (counted H x part) (rate_under x * H) ≤ highest_counted
  pay_most_for g =
      let t = standing x e in
      let all = rounded_bound (counted H x part) (p x + s x) (rate_under x * H) under_some (counted_most H x part (stands_worked x e) g) in
      omega (arith, all)

  -- the parts of a post in 64 bits
  pub part_fits : H ≤ most_minutes → h x * H ≤ most_parts
  part_fits g = mul-le-mul (minutes_within x e) g

  -- and what they are worth
  pub worth_fits : part ≤ h x * H → rate_over x * part ≤ 2 ^ 62 * (rate_under x * H)
  worth_fits g =
      let t = standing x e in
      let week : 1 ≤ w x = omega arith in
      omega (arith, mul-le-mul (over_most x e) g, mul-le-mul_left (h x * H) week)
