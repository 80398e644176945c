-- Years: the laws of the code, and what it holds of the years kept.
use Prim.Native.Nat.{ℕ, suc, ◌+◌, ◌-◌, ◌*◌, ◌≤◌, ◌<◌, ◌^◌}
use mathlib.Core.Path.{◌≡◌, refl, sym, ◌∙◌, ap, subst}
use mathlib.Core.Bool.{Bool, true, false, ◌&&◌, ◌||◌, cond}
use mathlib.Core.List.{List, [], ◌∷◌, ◌++◌}
use mathlib.Core.Option.{Option, none, some}
use native.Mathlib.Nat.{le_trans, le_of_eq}
use native.Mathlib.Omega.{arith}
use lib.Dec.{ltb, eqb}
use lib.ListN.{length}
use borrow.Author.Tests.{ltb-true, eqb-true, eqb-false, ne_eqb}
use Rattle.measures.specs.declared.Counted.{Counted}
use Rattle.measures.specs.Refusals.{unless}
use Rattle.measures.specs.Lists.{All}
use Rattle.measures.specs.Rounding.{upward}
use Rattle.measures.proofs.Rounding.{upward_most}
use Rattle.measures.specs.Tries.{tried}
use Rattle.measures.proofs.Tests.{clash, passed, and_left, and_right}
use Rattle.measures.proofs.Lists.{all_end, all_init, length_end}
use Rattle.posts.specs.declared.Post.{Post}
use Rattle.posts.specs.declared.YearPosts.{YearPosts}
use Rattle.posts.specs.Posts.{aggregate_pay, aggregate_way}
use Rattle.measures.specs.Limits.{most_posts}
use Rattle.posts.specs.Refusals.{Stands, post_refusal}
use Rattle.posts.specs.Year.{no_posts, posts_of, Held, joined_by, joining}
use Rattle.posts.proofs.Standing.{held_none, Joins, joins, held_joined, posts_joined, posts_count, stand_end, aggregate_most}
use Rattle.benefits.specs.Steps.{after_year, after_year_ups}
use Rattle.benefits.specs.Limits.{highest_revaluation}
use Rattle.measures.specs.Limits.{highest_aggregate}
use Rattle.benefits.specs.Bounds.{ceiling}
use Rattle.benefits.proofs.Counts.{after_year_ups_most}
use Rattle.benefits.proofs.Ceiling.{ceiling_step, ceiling_fits}
use Rattle.frames.specs.declared.Year.{Year}
use Rattle.frames.specs.Limits.{year_stands}
use Rattle.frames.proofs.Accepted.{year_good}
use Rattle.rules.specs.Rules.{WorkedYear, non_empty, last_of, most_years, is_next, year_refusal, open_posts, new_year, add_post}
use Rattle.rules.specs.Working.{pension_from, pension_of, own_aggregates, year_ups, ups_from}
use Rattle.rules.proofs.Ends.{Ended, empty, ends, ended, last_end, nonempty_end, all_but_last, butlast_end, joined_year, add_end, open_end, pension_end, ups_end}
use Rattle.years.specs.declared.YearsState.{YearsState}
use Rattle.years.specs.Years.{no_years, year_fields, post_fields, pension_now, ups_now, with_year, with_post, YearsCeiling, Within, YearsBounds}
use Rattle.rules.specs.Amounts.{ups_of_years}
use Rattle.rules.proofs.Counted.{ups_from_most}

-- ---- the code

-- a year's aggregate pay is at most that of the most posts at the highest pay
pub aggregate_limit : (y : YearPosts) → Held y → aggregate_pay (posts_of y) ≤ highest_aggregate
aggregate_limit y held = aggregate_most (posts_of y) held.stand (omega (arith, held.few, posts_count y held))

-- the years with what the last year becomes are the years with the post, or as they were
pub post_handed : (s : YearsState) (x : Post) → ◌≡◌ {A = YearsState} (record { count = s.count; april = s.april; revaluation = s.revaluation; pension = s.pension; ups = s.ups; posts = joining s.posts x }) (tried post_fields with_post s x) × (post_refusal (posts_of s.posts) x ≡ post_fields s x)
unfolding joining post_fields with_post tried
post_handed s x = (by (eqb (post_refusal (posts_of s.posts) x) 0), refl)
  where
    by : (t : Bool) → ◌≡◌ {A = YearsState} (record { count = s.count; april = s.april; revaluation = s.revaluation; pension = s.pension; ups = s.ups; posts = cond t (joined_by s.posts x) s.posts }) (cond t (with_post s x) s)
    by true = refl
    by false = refl

-- ---- how large the numbers are

-- with the year that is open
module _ (s : YearsState) (c : YearsCeiling s) (revaluation : s.revaluation ≤ highest_revaluation) (held : Held s.posts) where
  pension_now_ceiling : pension_now s ≤ ceiling s.count
  unfolding pension_now
  pension_now_ceiling = by (eqb s.count 0) refl
    where
      work : ℕ
      work = aggregate_pay (posts_of s.posts)

      by : (t : Bool) → eqb s.count 0 ≡ t → cond t 0 (after_year s.pension.0 s.revaluation work) ≤ ceiling s.count
      by true e = omega arith
      by false e =
          let one_more : suc (s.count - 1) ≡ s.count = omega (arith, eqb-false _ _ e) in
          le_trans (ceiling_step (s.count - 1) s.pension.0 s.revaluation work c.pension revaluation (aggregate_limit s.posts held)) (le_of_eq (ap ceiling one_more))

  ups_now_ceiling : ups_now s ≤ 3 * s.count
  unfolding ups_now
  ups_now_ceiling = by (eqb s.count 0) refl
    where
      work : ℕ
      work = aggregate_pay (posts_of s.posts)

      of_year : ℕ
      of_year = upward (aggregate_way (posts_of s.posts)) + after_year_ups s.pension.0 s.revaluation work

      by : (t : Bool) → eqb s.count 0 ≡ t → cond t 0 (s.ups + of_year) ≤ 3 * s.count
      by true e = omega arith
      by false e =
          omega (arith, c.ups, eqb-false _ _ e, upward_most (aggregate_way (posts_of s.posts)), after_year_ups_most s.pension.0 s.revaluation work)

  within : s.count ≤ most_years → s.april ≤ 2100 → Within s
  within count april = (
    record {
      count = count;
      april = april;
      revaluation = revaluation;
      pension = le_trans c.pension (ceiling_fits (s.count - 1) (omega arith));
      now = le_trans pension_now_ceiling (ceiling_fits s.count count);
      ups = omega (arith, c.ups);
      ups_now = omega (arith, ups_now_ceiling);
      posts = held;
    },
    c,
  )

pub none_within : Within no_years
none_within = within no_years (record { pension = omega arith; ups = omega arith }) (omega arith) held_none (omega arith) (omega arith)

-- an 02 that is not refused stands, and there is room for it
year_taken : (s : YearsState) (y : Year) → 0 ≡ year_fields s y → (year_stands y ≡ true) × (s.count < most_years)
unfolding year_fields
year_taken s y e =
    let follows = eqb s.count 0 || eqb y.april (s.april + 1) in
    let t = passed (year_stands y && follows && ltb s.count most_years) 6 (omega arith) (sym e) in
    (and_left _ follows (and_left _ (ltb s.count most_years) t), ltb-true _ _ (and_right (year_stands y && follows) _ t))

pub year_within : (s : YearsState) (y : Year) (worked : Counted) (posts : YearPosts) → Within s → 0 ≡ year_fields s y
    → (worked.amount.0 ≡ pension_now s) × (worked.ups ≡ ups_now s) → posts ≡ no_posts
    → Within (record { count = s.count + 1; april = y.april; revaluation = y.revaluation; pension = worked.amount; ups = worked.ups; posts = posts })
year_within s y worked posts b e now fresh =
    let t = year_taken s y e in
    let g = year_good y t.0 in
    let pension = pension_now_ceiling s b.1 b.0.revaluation b.0.posts in
    let ups = ups_now_ceiling s b.1 b.0.revaluation b.0.posts in
    let before : s.count ≡ s.count + 1 - 1 = omega arith in
    within _ (record { pension = rw (now.0, ← before) pension; ups = omega (arith, now.1, ups) }) g.revaluation (rw fresh held_none)
    (omega (arith, t.1)) g.april_to

-- an 03
held_joining : (y : YearPosts) (x : Post) → Held y → Held (joining y x)
unfolding joining
held_joining y x held = by (eqb (post_refusal (posts_of y) x) 0) refl
  where
    by : (t : Bool) → eqb (post_refusal (posts_of y) x) 0 ≡ t → Held (cond t (joined_by y x) y)
    by true e = held_joined y x held (eqb-true _ _ e)
    by false e = held

pub post_within : (s : YearsState) (x : Post) (posts : YearPosts) → Within s → posts ≡ joining s.posts x
    → Within (record { count = s.count; april = s.april; revaluation = s.revaluation; pension = s.pension; ups = s.ups; posts = posts })
post_within s x posts b e =
    within _ (record { pension = b.1.pension; ups = b.1.ups }) b.0.revaluation (rw e (held_joining s.posts x b.0.posts)) b.0.count b.0.april

-- ---- what is held of the years kept

abbrev april_of : Option WorkedYear → ℕ
april_of none = 0
april_of (some y) = y.year.april

abbrev revaluation_of : Option WorkedYear → ℕ
revaluation_of none = 0
revaluation_of (some y) = y.year.revaluation

pub record HoldsYears (s : YearsState) (ys : List WorkedYear) : Type 0 where
  pub count : s.count ≡ length ys
  pub april : s.april ≡ april_of (last_of ys)
  pub revaluation : s.revaluation ≡ revaluation_of (last_of ys)
  pub pension : s.pension.0 ≡ pension_of (all_but_last ys) (own_aggregates (all_but_last ys))
  pub ups : s.ups ≡ ups_from 0 (all_but_last ys)
  pub held : Held s.posts
  pub posts : posts_of s.posts ≡ open_posts ys

pub years_none : HoldsYears no_years []
unfolding last_of all_but_last pension_of pension_from ups_from open_posts
years_none = record { count = refl; april = refl; revaluation = refl; pension = refl; ups = refl; held = held_none; posts = refl }

-- what holds of years none of whose frames was refused
pub record GoodYear (y : WorkedYear) : Type 0 where
  pub stands : year_stands y.year ≡ true
  pub few : length y.posts ≤ most_posts
  pub posts : All Stands y.posts

pub record GoodYears (ys : List WorkedYear) : Type 0 where
  pub few : length ys ≤ most_years
  pub each : All GoodYear ys

pub good_none : GoodYears []
good_none = record { few = omega arith; each = tt }

-- ---- the refusals agree

module _ (s : YearsState) (ys : List WorkedYear) (h : HoldsYears s ys) where
  pub year_agrees : (y : Year) → year_fields s y ≡ year_refusal ys y
  unfolding year_fields year_refusal is_next last_of
  year_agrees y = rw (h.count, h.april) (by (ended ys))
    where
      by : {l : List WorkedYear} → Ended l → unless (year_stands y && (eqb (length l) 0 || eqb y.april (april_of (last_of l) + 1)) && ltb (length l) most_years) 6 ≡ unless (year_stands y && is_next (last_of l) y.april && ltb (length l) most_years) 6
      by empty = refl
      by (ends xs x) = rw (last_end xs x, ne_eqb (length (xs ++ x ∷ [])) 0 (omega (arith, length_end xs x))) refl

  pub post_agrees : (x : Post) → post_fields s x ≡ post_refusal (open_posts ys) x
  unfolding post_fields
  post_agrees x = rw h.posts refl

  -- the pension is that of the years kept
  pub pension_now_lem : pension_now s ≡ pension_of ys (own_aggregates ys)
  unfolding pension_now pension_of pension_from
  pension_now_lem = rw (h.count, h.revaluation, h.pension, h.posts) (by (ended ys))
    where
      by : {l : List WorkedYear} → Ended l → cond (eqb (length l) 0) 0 (after_year (pension_of (all_but_last l) (own_aggregates (all_but_last l))) (revaluation_of (last_of l)) (aggregate_pay (open_posts l))) ≡ pension_of l (own_aggregates l)
      by empty = refl
      by (ends xs x) =
          rw (last_end xs x, butlast_end xs x, open_end xs x, ne_eqb (length (xs ++ x ∷ [])) 0 (omega (arith, length_end xs x))) (sym (pension_end xs x))

  -- and so is the count of its upward roundings
  pub ups_now_lem : ups_now s ≡ ups_from 0 ys
  unfolding ups_now ups_from year_ups
  ups_now_lem = rw (h.count, h.revaluation, h.pension, h.ups, h.posts) (by (ended ys))
    where
      by : {l : List WorkedYear} → Ended l → cond (eqb (length l) 0) 0 (ups_from 0 (all_but_last l) + (upward (aggregate_way (open_posts l)) + after_year_ups (pension_of (all_but_last l) (own_aggregates (all_but_last l))) (revaluation_of (last_of l)) (aggregate_pay (open_posts l)))) ≡ ups_from 0 l
      by empty = refl
      by (ends xs x) =
          rw (last_end xs x, butlast_end xs x, open_end xs x, ne_eqb (length (xs ++ x ∷ [])) 0 (omega (arith, length_end xs x))) (sym (ups_end xs x))

-- ---- an 02 joins the years kept

record YearFits (ys : List WorkedYear) (y : Year) : Type 0 where
  stands : year_stands y ≡ true
  room : length ys < most_years

year_fits : (ys : List WorkedYear) (y : Year) → year_refusal ys y ≡ 0 → YearFits ys y
unfolding year_refusal
year_fits ys y e =
    let t = passed (year_stands y && is_next (last_of ys) y.april && ltb (length ys) most_years) 6 (omega arith) e in
    record { stands = and_left _ (is_next (last_of ys) y.april) (and_left _ (ltb (length ys) most_years) t); room = ltb-true _ _ (and_right (year_stands y && is_next (last_of ys) y.april) _ t) }

pub year_kept : (s : YearsState) (ys : List WorkedYear) (y : Year) → HoldsYears s ys → HoldsYears (with_year s y) (ys ++ new_year y ∷ [])
unfolding with_year
year_kept s ys y h =
    record {
      count = ap (λ (n : ℕ). n + 1) h.count ∙ sym (length_end ys (new_year y));
      april = ap april_of (sym (last_end ys (new_year y)));
      revaluation = ap revaluation_of (sym (last_end ys (new_year y)));
      pension = pension_now_lem s ys h ∙ ap (λ (zs : List WorkedYear). pension_of zs (own_aggregates zs)) (sym (butlast_end ys (new_year y)));
      ups = ups_now_lem s ys h ∙ ap (ups_from 0) (sym (butlast_end ys (new_year y)));
      held = held_none;
      posts = sym (open_end ys (new_year y));
    }

pub year_good_kept : (ys : List WorkedYear) (y : Year) → year_refusal ys y ≡ 0 → GoodYears ys → GoodYears (ys ++ new_year y ∷ [])
year_good_kept ys y r g =
    let f = year_fits ys y r in
    record {
      few = omega (arith, length_end ys (new_year y), f.room);
      each = all_end GoodYear ys (new_year y) g.each (record { stands = f.stands; few = omega arith; posts = tt });
    }

-- ---- an 03 joins the last year kept

module _ (ys : List WorkedYear) (x : Post) where
  -- there is a last year, or none
  by_last : (P : List WorkedYear → Type 0) → P [] → ((zs : List WorkedYear) (z : WorkedYear) → P (zs ++ z ∷ [])) → P ys
  by_last P p q = by (ended ys)
    where
      by : {l : List WorkedYear} → Ended l → P l
      by empty = p
      by (ends zs z) = q zs z

  -- of the last year nothing changes but its posts
  add_last : (f : Option WorkedYear → ℕ) → ((z : WorkedYear) → f (some (joined_year z x)) ≡ f (some z)) → f (last_of (add_post ys x)) ≡ f (last_of ys)
  unfolding add_post
  add_last f same =
      by_last (λ (l : List WorkedYear). f (last_of (add_post l x)) ≡ f (last_of l)) refl
      (λ zs z. rw (add_end zs z x, last_end zs (joined_year z x), last_end zs z) (same z))

  add_butlast : all_but_last (add_post ys x) ≡ all_but_last ys
  unfolding add_post
  add_butlast = by_last (λ (l : List WorkedYear). all_but_last (add_post l x) ≡ all_but_last l) refl (λ zs z. rw (add_end zs z x, butlast_end zs (joined_year z x), butlast_end zs z) refl)

  add_length : length (add_post ys x) ≡ length ys
  unfolding add_post
  add_length = by_last (λ (l : List WorkedYear). length (add_post l x) ≡ length l) refl (λ zs z. rw (add_end zs z x, length_end zs (joined_year z x), length_end zs z) refl)

  pub add_nonempty : non_empty ys ≡ true → non_empty (add_post ys x) ≡ true
  add_nonempty =
      by_last (λ (l : List WorkedYear). non_empty l ≡ true → non_empty (add_post l x) ≡ true) (λ e. clash (cc))
      (λ zs z e. rw (add_end zs z x) (nonempty_end zs (joined_year z x)))

  add_posts : non_empty ys ≡ true → open_posts (add_post ys x) ≡ open_posts ys ++ x ∷ []
  add_posts =
      by_last (λ (l : List WorkedYear). non_empty l ≡ true → open_posts (add_post l x) ≡ open_posts l ++ x ∷ []) (λ e. clash (cc))
      (λ zs z e. rw (add_end zs z x, open_end zs (joined_year z x), open_end zs z) refl)

  add_good : All GoodYear ys → Joins (open_posts ys) x → All GoodYear (add_post ys x)
  unfolding add_post
  add_good =
      by_last (λ (l : List WorkedYear). All GoodYear l → Joins (open_posts l) x → All GoodYear (add_post l x)) (λ a j. tt)
      (λ zs z a j.
      let r = all_init GoodYear zs z a in
      let k : Joins z.posts x = subst (λ (l : List Post). Joins l x) (open_end zs z) j in
      rw (add_end zs z x)
      (all_end GoodYear zs (joined_year z x) r.0
      (record { stands = r.1.stands; few = omega (arith, length_end z.posts x, k.few); posts = stand_end z.posts x r.1.posts k.stands })))

  module _ (r : post_refusal (open_posts ys) x ≡ 0) where
    pub post_kept : (s : YearsState) → non_empty ys ≡ true → HoldsYears s ys → HoldsYears (with_post s x) (add_post ys x)
    unfolding with_post
    post_kept s some_year h =
        record {
          count = h.count ∙ sym add_length;
          april = h.april ∙ sym (add_last april_of (λ z. refl));
          revaluation = h.revaluation ∙ sym (add_last revaluation_of (λ z. refl));
          pension = h.pension ∙ ap (λ (zs : List WorkedYear). pension_of zs (own_aggregates zs)) (sym add_butlast);
          ups = h.ups ∙ ap (ups_from 0) (sym add_butlast);
          held = held_joined s.posts x h.held accepted;
          posts = posts_joined s.posts x h.held accepted ∙ ap (λ (l : List Post). l ++ x ∷ []) h.posts ∙ sym (add_posts some_year);
        }
      where
        accepted : post_refusal (posts_of s.posts) x ≡ 0
        accepted = ap (λ (l : List Post). post_refusal l x) h.posts ∙ r

    pub post_good_kept : GoodYears ys → GoodYears (add_post ys x)
    post_good_kept g = record { few = rw add_length g.few; each = add_good g.each (joins (open_posts ys) x r) }

-- ---- how large the numbers of the years kept are

pension_ceiling : (before k : ℕ) (ys : List WorkedYear) → All GoodYear ys → before ≤ ceiling k → pension_from before ys (own_aggregates ys) ≤ ceiling (k + length ys)
unfolding pension_from
pension_ceiling before k [] g h = le_trans h (le_of_eq (ap ceiling (let e : k ≡ k + 0 = omega arith in e)))
pension_ceiling before k (y ∷ ys) g h =
    le_trans
    (pension_ceiling (after_year before y.year.revaluation (aggregate_pay y.posts)) (suc k) ys g.1
    (ceiling_step k before y.year.revaluation (aggregate_pay y.posts) h (year_good y.year g.0.stands).revaluation (aggregate_most y.posts g.0.posts g.0.few)))
    (le_of_eq (ap ceiling (let e : suc k + length ys ≡ k + length (y ∷ ys) = omega arith in e)))

pension_limit : (ys : List WorkedYear) → All GoodYear ys → length ys ≤ most_years → pension_of ys (own_aggregates ys) ≤ 2 ^ 50
unfolding pension_of ceiling
pension_limit ys g few = le_trans (pension_ceiling 0 0 ys g (omega arith)) (ceiling_fits (0 + length ys) (omega arith))

-- those of the last year, of the pension before it, and of its upward roundings
record LastBounds (ys : List WorkedYear) : Type 0 where
  april : april_of (last_of ys) ≤ 2100
  revaluation : revaluation_of (last_of ys) ≤ highest_revaluation
  pension : pension_of (all_but_last ys) (own_aggregates (all_but_last ys)) ≤ 2 ^ 50
  ups : ups_from 0 (all_but_last ys) ≤ ups_of_years

last_bounds : (ys : List WorkedYear) → All GoodYear ys → length ys ≤ most_years → LastBounds ys
unfolding all_but_last pension_of pension_from ups_from last_of
last_bounds ys g few = by (ended ys) g few
  where
    by : {l : List WorkedYear} → Ended l → All GoodYear l → length l ≤ most_years → LastBounds l
    by empty g few = record { april = omega arith; revaluation = omega arith; pension = omega arith; ups = omega arith }
    by (ends zs z) g few =
        let r = all_init GoodYear zs z g in
        let y = year_good z.year r.1.stands in
        record {
          april = rw (last_end zs z) y.april_to;
          revaluation = rw (last_end zs z) y.revaluation;
          pension = rw (butlast_end zs z) (pension_limit zs r.0 (omega (arith, length_end zs z)));
          ups = rw (butlast_end zs z) (omega (arith, length_end zs z, ups_from_most 0 zs));
        }

pub years_bounds : (s : YearsState) (ys : List WorkedYear) → HoldsYears s ys → GoodYears ys → YearsBounds s
years_bounds s ys h g =
    let l = last_bounds ys g.each g.few in
    record {
      count = rw h.count g.few;
      april = rw h.april l.april;
      revaluation = rw h.revaluation l.revaluation;
      pension = rw h.pension l.pension;
      now = le_trans (le_of_eq (pension_now_lem s ys h)) (pension_limit ys g.each g.few);
      ups = rw h.ups l.ups;
      ups_now = omega (arith, ups_now_lem s ys h, ups_from_most 0 ys, g.few);
      posts = h.held;
    }
