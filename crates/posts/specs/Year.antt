-- The posts of a year as the code holds them: an array with a count, and beside it the ranking, H, K and how many posts are whole-time.
use Rattle.std.specs.Prelude.{ℕ, suc, ◌+◌, ◌*◌, ◌-◌, ◌≤◌, ◌<◌, ◌≡◌, false, cond, List, [], ◌∷◌, ◌++◌, eqb, ltb, length, take, drop, set, replicate, get_or}
use Rattle.measures.specs.Lists.{All}
use Rattle.measures.specs.declared.Minutes.{Minutes}
use Rattle.posts.specs.declared.Post.{Post}
use Rattle.posts.specs.declared.YearPosts.{YearPosts}
use Rattle.posts.specs.declared.Allocation.{Allocation}
use Rattle.measures.specs.Limits.{most_posts}
use Rattle.posts.specs.Division.{higher_ranked}
use Rattle.posts.specs.Posts.{post_of, h, w, contracted_minutes, weighted_parts, claims, whole_time, parts, aggregate_pay, aggregate_way}
use Rattle.posts.specs.Refusals.{Stands, post_refusal}
use Rattle.posts.specs.Rates.{ranked_before, minutes_ahead}
use Rattle.posts.specs.Changes.{without}

-- a place that holds no post
abbrev pub no_post : Post
no_post = post_of 0 0 0 0

-- no minutes
abbrev pub no_minutes : Minutes
no_minutes = record { 0 = 0 }

-- the posts that it holds, in list order
abbrev pub posts_of : YearPosts → List Post
posts_of y = take y.count y.list

-- how many posts are whole-time
abbrev pub whole_times : List Post → ℕ
whole_times [] = 0
whole_times (x ∷ xs) = cond (whole_time x) 1 0 + whole_times xs

-- the ranking of posts, by the minutes of those that go before each
abbrev pub RankedBy : List Minutes → List Post → Type 0
RankedBy rs xs = (i : ℕ) → i < length xs → (get_or rs i no_minutes).0 ≡ minutes_ahead (get_or xs i no_post) i xs

-- what holds of a year that posts joined and left, refused changes altering nothing: it "holds its ranking beside the posts, and H and K
-- with it" (2.8)
pub record Held (y : YearPosts) : Type 0 where
  pub room : length y.list ≡ most_posts
  pub places : length y.ranking ≡ most_posts
  pub few : y.count ≤ most_posts
  pub ranked : RankedBy y.ranking (posts_of y)
  pub minutes : y.minutes.0 ≡ contracted_minutes (posts_of y)
  pub weighted : y.weighted ≡ weighted_parts (posts_of y)
  pub wholes : y.wholes ≡ whole_times (posts_of y)
  pub stand : All Stands (posts_of y)

-- the minutes that a year holds for the post at a place
abbrev pub minutes_before : YearPosts → ℕ → ℕ
minutes_before y i = (get_or y.ranking i no_minutes).0

-- Of any two of its posts one goes before the other, by rate and list order, exactly where the year holds fewer minutes for it
abbrev pub HoldsRanking : YearPosts → Type 0
HoldsRanking y =
    (i j : ℕ) → i < y.count → j < y.count
    → higher_ranked (claims (contracted_minutes (posts_of y)) (posts_of y)) i j ≡ ltb (minutes_before y i) (minutes_before y j)

-- a year without posts
abbrev pub no_posts : YearPosts
no_posts =
    record {
      list = replicate most_posts no_post;
      ranking = replicate most_posts no_minutes;
      count = 0;
      minutes = no_minutes;
      weighted = 0;
      wholes = 0;
    }

-- the ranking when x joins at the end: its minutes go before each post at a lower rate
unfoldable pub raised_by : Post → List Minutes → List Post → List Minutes
raised_by x [] ys = []
raised_by x (r ∷ rs) [] = r ∷ rs
raised_by x (r ∷ rs) (y ∷ ys) = record { 0 = r.0 + cond (ranked_before y false x) (h x) 0 } ∷ raised_by x rs ys

-- the ranking when x, which stands at a place, is about to leave; the first of the posts has the number i
unfoldable pub lowered_from : ℕ → Post → ℕ → List Minutes → List Post → List Minutes
lowered_from i x at [] ys = []
lowered_from i x at (r ∷ rs) [] = r ∷ rs
lowered_from i x at (r ∷ rs) (y ∷ ys) = record { 0 = r.0 - cond (ranked_before y (ltb at i) x) (h x) 0 } ∷ lowered_from (suc i) x at rs ys

-- of all posts
abbrev pub lowered_by : Post → ℕ → List Minutes → List Post → List Minutes
lowered_by x at rs ys = lowered_from 0 x at rs ys

-- the first n places without one of them, "later ones moving up"; there are as many places as before
abbrev pub WithoutPlace : {A : Type 0} → List A → ℕ → ℕ → List A → Type 0
WithoutPlace list at n moved = (length moved ≡ most_posts) × (take (n - 1) moved ≡ without at (take n list))

-- the year that a post has joined at the end
unfoldable pub joined_by : YearPosts → Post → YearPosts
joined_by y x =
    record {
      list = set y.list y.count x;
      ranking = set (raised_by x y.ranking (posts_of y)) y.count (record { 0 = minutes_ahead x y.count (posts_of y) });
      count = y.count + 1;
      minutes = record { 0 = y.minutes.0 + h x };
      weighted = y.weighted + w x * h x;
      wholes = y.wholes + cond (whole_time x) 1 0;
    }

-- a post is to join a year: the year then. Refused, it is as it was
unfoldable pub joining : YearPosts → Post → YearPosts
joining y x = cond (eqb (post_refusal (posts_of y) x) 0) (joined_by y x) y

-- no parts in any place
abbrev pub no_parts : List ℕ
no_parts = replicate most_posts 0

-- the parts of each post, noughts in the places past the last, the aggregate pay, and which way that was rounded
pub record Allocated (xs : List Post) (a : Allocation) : Type 0 where
  pub parts : a.parts ≡ parts xs ++ drop (length xs) no_parts
  pub aggregate : a.aggregate.0 ≡ aggregate_pay xs
  pub way : a.way ≡ aggregate_way xs
