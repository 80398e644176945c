-- Years and the posts of a year, as a case holds them: the refusal of an 02 and an 03, what each makes of them, and the pension.
use Rattle.std.specs.Prelude.{ℕ, ◌+◌, ◌-◌, ◌*◌, ◌^◌, ◌≤◌, ◌&&◌, ◌||◌, cond, ltb, eqb}
use Rattle.measures.specs.Refusals.{unless}
use Rattle.measures.specs.Rounding.{upward}
use Rattle.posts.specs.declared.Post.{Post}
use Rattle.posts.specs.Posts.{aggregate_pay, aggregate_way}
use Rattle.posts.specs.Refusals.{post_refusal}
use Rattle.posts.specs.Year.{no_posts, posts_of, Held, joined_by}
use Rattle.benefits.specs.Limits.{highest_revaluation}
use Rattle.benefits.specs.Bounds.{ceiling}
use Rattle.benefits.specs.Steps.{after_year, after_year_ups}
use Rattle.frames.specs.declared.Year.{Year}
use Rattle.frames.specs.Limits.{year_stands}
use Rattle.rules.specs.Rules.{most_years}
use Rattle.rules.specs.Amounts.{ups_of_years}
use Rattle.years.specs.declared.YearsState.{YearsState}

-- no year yet
abbrev pub no_years : YearsState
no_years = record { count = 0; april = 0; revaluation = 0; pension = record { 0 = 0 }; ups = 0; posts = no_posts }

-- a year after those held: 6
unfoldable pub year_fields : YearsState → Year → ℕ
year_fields s y = unless (year_stands y && (eqb s.count 0 || eqb y.april (s.april + 1)) && ltb s.count most_years) 6

-- a post after those of the year that is open: 7 and 8
unfoldable pub post_fields : YearsState → Post → ℕ
post_fields s x = post_refusal (posts_of s.posts) x

-- the pension with the year that is open
unfoldable pub pension_now : YearsState → ℕ
pension_now s = cond (eqb s.count 0) 0 (after_year s.pension.0 s.revaluation (aggregate_pay (posts_of s.posts)))

-- the upward roundings with those of the year that is open
unfoldable pub ups_now : YearsState → ℕ
ups_now s =
    cond (eqb s.count 0) 0
    (s.ups + (upward (aggregate_way (posts_of s.posts)) + after_year_ups s.pension.0 s.revaluation (aggregate_pay (posts_of s.posts))))

-- by an 02: the year that was open is counted, and a year without posts is open
unfoldable pub with_year : YearsState → Year → YearsState
with_year s y =
    record {
      count = s.count + 1;
      april = y.april;
      revaluation = y.revaluation;
      pension = record { 0 = pension_now s };
      ups = ups_now s;
      posts = no_posts;
    }

-- by an 03: the post joins the year that is open
unfoldable pub with_post : YearsState → Post → YearsState
with_post s x =
    record {
      count = s.count;
      april = s.april;
      revaluation = s.revaluation;
      pension = s.pension;
      ups = s.ups;
      posts = joined_by s.posts x;
    }

-- how large the numbers are, each year and post accepted
pub record YearsBounds (s : YearsState) : Type 0 where
  pub count : s.count ≤ most_years
  pub april : s.april ≤ 2100
  pub revaluation : s.revaluation ≤ highest_revaluation
  pub pension : s.pension.0 ≤ 2 ^ 50
  pub now : pension_now s ≤ 2 ^ 50
  pub ups : s.ups ≤ ups_of_years
  pub ups_now : ups_now s ≤ ups_of_years
  pub posts : Held s.posts

-- what keeps them so from year to year: the years before the last, each at most at the highest revaluation and aggregate and with three upward roundings
pub record YearsCeiling (s : YearsState) : Type 0 where
  pub pension : s.pension.0 ≤ ceiling (s.count - 1)
  pub ups : s.ups ≤ 3 * (s.count - 1)

-- both
abbrev pub Within : YearsState → Type 0
Within s = YearsBounds s × YearsCeiling s
