-- The posts of a year that posts in bytes join, and of one with a post replaced; the sum of the aggregates.
use Rattle.std.proofs.Common.{◌≡◌, ℕ, suc, ◌+◌, ◌-◌, ◌*◌, ◌%◌, ◌^◌, ◌<◌, ◌≤◌, List, [], ◌∷◌, ◌++◌, sym, refl, ap, ◌∙◌, add_assoc, mod-lt, mod-eq_of_lt, add-one, arith}
use native.Mathlib.Nat.{mod-add-mod}
use Rattle.measures.specs.Tries.{tried, after}
use Rattle.measures.proofs.Trying.{after_end}
use Rattle.fields.specs.Fields.{one_at}
use Rattle.posts.specs.declared.Post.{Post}
use Rattle.posts.specs.declared.YearPosts.{YearPosts}
use Rattle.posts.specs.declared.Changed.{Changed}
use Rattle.posts.specs.Limits.{bytes_of_post}
use Rattle.posts.specs.Posts.{aggregate_pay}
use Rattle.posts.specs.Call.{post_at, posts_from}
use Rattle.posts.specs.Changes.{Change, joins, leaves, change_refusal, changed_posts, remaining}
use Rattle.posts.specs.Year.{posts_of, no_posts}
use Rattle.posts.specs.Reached.{ChangedBy}
use Rattle.posts.proofs.Calling.{from_more}
use Rattle.timing.specs.Timing.{joinings, bytes_of_replacement, replaced, aggregates_from}

-- ---- posts that join

joinings_end : (xs : List Post) (x : Post) → joinings (xs ++ x ∷ []) ≡ joinings xs ++ joins x ∷ []
unfolding joinings
joinings_end [] x = refl
joinings_end (y ∷ ys) x = ap (λ (cs : List Change). joins y ∷ cs) (joinings_end ys x)

-- a year that the first i posts in bytes have joined
abbrev pub Joined : List ℕ → ℕ → YearPosts → Type 0
Joined bytes i y = posts_of y ≡ remaining (joinings (posts_from bytes 0 i))

module _ (bytes : List ℕ) where
  pub joined_none : Joined bytes 0 no_posts
  unfolding remaining after joinings posts_from
  joined_none = refl

  -- one post more
  module _ (i : ℕ) (y : YearPosts) (so : Joined bytes i y) (x : Post) (e : x ≡ post_at bytes (bytes_of_post * i)) (r : Changed) (change : ChangedBy y (joins x) r) where
    posts_more : posts_of r.year ≡ remaining (joinings (posts_from bytes 0 i) ++ joins x ∷ [])
    unfolding remaining
    posts_more =
        change.posts ∙ ap (λ (xs : List Post). tried change_refusal changed_posts xs (joins x)) so
        ∙ sym (after_end change_refusal changed_posts [] (joinings (posts_from bytes 0 i)) (joins x))

    pub joined_more : Joined bytes (i + 1) r.year
    joined_more = rw (from_more bytes i, joinings_end, ← e) posts_more

-- ---- one post for another

pub replaced_by : (bytes : List ℕ) (number position : ℕ) (x : Post) (y : YearPosts) (left joined : Changed)
    → position ≡ one_at bytes (bytes_of_replacement * number) → x ≡ post_at bytes (bytes_of_replacement * number + 1)
    → ChangedBy y (leaves position) left → ChangedBy left.year (joins x) joined
    → posts_of joined.year ≡ replaced bytes number (posts_of y)
unfolding replaced after
replaced_by bytes number position x y left joined e f one other =
    other.posts ∙ ap (λ (xs : List Post). tried change_refusal changed_posts xs (joins x)) one.posts
    ∙ rw (e, f) refl

-- ---- the sum of the aggregates

-- a sum so far, and with it the aggregates that are still to come after the first i of n replacements
pub record Summing (bytes : List ℕ) (n all i : ℕ) (xs : List Post) (sum : ℕ) : Type 0 where
  pub small : sum < 2 ^ 64
  pub together : (sum + aggregates_from bytes i (n - i) xs) % 2 ^ 64 ≡ all % 2 ^ 64

module _ (bytes : List ℕ) (n : ℕ) where
  -- of the replacements from one on, that one comes first
  aggregates_more : (i : ℕ) (xs : List Post) → i < n
      → aggregates_from bytes i (n - i) xs ≡ aggregate_pay (replaced bytes i xs) + aggregates_from bytes (i + 1) (n - (i + 1)) (replaced bytes i xs)
  unfolding aggregates_from
  aggregates_more i xs g = let e : n - i ≡ suc (n - (i + 1)) = omega arith in rw (e, add-one) refl

  aggregates_none : (i : ℕ) (xs : List Post) → n ≤ i → aggregates_from bytes i (n - i) xs ≡ 0
  unfolding aggregates_from
  aggregates_none i xs g = let e : n - i ≡ 0 = omega arith in rw e refl

  pub sum_begun : (xs : List Post) → Summing bytes n (aggregates_from bytes 0 n xs) 0 xs 0
  sum_begun xs =
      let whole : n - 0 ≡ n = omega arith in
      let none : 0 + aggregates_from bytes 0 n xs ≡ aggregates_from bytes 0 n xs = omega arith in
      record { small = omega arith; together = rw (whole, none) refl }

  module _ (all i : ℕ) (xs : List Post) (sum : ℕ) (so : Summing bytes n all i xs sum) where
    pub sum_more : i < n → (ys : List Post) (more next : ℕ) → ys ≡ replaced bytes i xs → more ≡ aggregate_pay ys → next ≡ (sum + more) % 2 ^ 64
        → Summing bytes n all (i + 1) ys next
    sum_more g ys more next e f h =
        record {
          small = rw h (mod-lt (sum + more) (omega arith));
          together = rw (h, mod-add-mod, f, e, add_assoc, ← aggregates_more i xs g) so.together;
        }

    pub sum_ended : n ≤ i → sum ≡ all % 2 ^ 64
    sum_ended g =
        let e : sum + aggregates_from bytes i (n - i) xs ≡ sum = omega (arith, aggregates_none i xs g) in
        sym (mod-eq_of_lt so.small) ∙ ap (λ (k : ℕ). k % 2 ^ 64) (sym e) ∙ so.together
