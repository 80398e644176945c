-- The minutes that a year holds for its posts are their ranking: a post goes before another exactly where it has fewer of them.
use mathlib.Core.Path.{◌≡◌, refl, sym, ◌∙◌, ap}
use mathlib.Core.Bool.{Bool, true, false}
use mathlib.Core.List.{List}
use mathlib.Core.Logic.{⊎_elim}
use Prim.Native.Nat.{ℕ, suc, ◌+◌, ◌*◌, ◌≤◌, ◌<◌}
use native.Mathlib.Nat.{le_of_mul-le-mul_right}
use native.Mathlib.Omega.{arith}
use lib.Dec.{ltb}
use lib.ListN.{length, take, drop, get_or}
use borrow.Author.Tests.{lt-ltb, le-ltb}
use Rattle.measures.specs.Lists.{All}
use Rattle.measures.proofs.Lists.{all_at}
use Rattle.measures.proofs.Tests.{le_or_lt}
use Rattle.posts.specs.declared.Post.{Post}
use Rattle.posts.specs.declared.YearPosts.{YearPosts}
use Rattle.posts.specs.Division.{Claim, higher_ranked, ahead}
use Rattle.posts.specs.Posts.{h, contracted_minutes, claims}
use Rattle.posts.specs.Refusals.{Stands}
use Rattle.posts.specs.Rates.{minutes_ahead}
use Rattle.posts.specs.Year.{no_post, posts_of, Held, HoldsRanking}
use Rattle.posts.proofs.Aggregate.{rated}
use Rattle.posts.proofs.Ranking.{before, goes_before, one_before}
use Rattle.posts.proofs.Standing.{standing, stand_worked, minutes_pos, posts_count}
use Rattle.posts.proofs.Turns.{claims_length, claims_at, ahead_at}

module _ (xs : List Post) (a : All Stands xs) where
  abbrev H : ℕ
  H = contracted_minutes xs

  abbrev cs : List Claim
  cs = claims H xs

  abbrev minutes : ℕ → ℕ
  minutes i = minutes_ahead (get_or xs i no_post) i xs

  -- the minutes before a post are the parts before its claim, H to a minute
  in_parts : (i : ℕ) → i < length xs → before cs (rated H xs (stand_worked xs a)) i ≡ minutes i * H
  in_parts i g = ap (λ (c : Claim). ahead (take i cs) c (drop (suc i) cs)) (claims_at H xs i g) ∙ sym (ahead_at H xs i g)

  some : (i : ℕ) → i < length xs → 0 < h (get_or xs i no_post)
  some i g = (standing (get_or xs i no_post) (all_at Stands xs i no_post a g)).some

  goes_first : (i j : ℕ) → i < length xs → j < length xs → higher_ranked cs i j ≡ true → minutes i < minutes j
  goes_first i j g k e =
      let parts = goes_before cs (rated H xs (stand_worked xs a)) i j (omega (arith, claims_length H xs)) (omega (arith, claims_length H xs)) e in
      let most = ap (λ (c : Claim). c.most) (claims_at H xs i g) in
      let times : (minutes i + h (get_or xs i no_post)) * H ≤ minutes j * H = omega (arith, parts, most, in_parts i g, in_parts j k) in
      let fewer = le_of_mul-le-mul_right {k = H} times (minutes_pos xs a (omega arith)) in
      omega (arith, fewer, some i g)

  has_fewer : (i j : ℕ) → i < length xs → j < length xs → minutes i < minutes j → higher_ranked cs i j ≡ true
  has_fewer i j g k l =
      ⊎_elim
      (λ (e : higher_ranked cs i j ≡ true). e)
      (λ (e : higher_ranked cs j i ≡ true). absurd (let z : ⊥ = omega (arith, l, goes_first j i k g e) in z))
      (one_before cs (rated H xs (stand_worked xs a)) i j (λ e. let z : ⊥ = omega (arith, l, ap minutes e) in z))

  pub ranked_by_minutes : (i j : ℕ) → i < length xs → j < length xs → higher_ranked cs i j ≡ ltb (minutes i) (minutes j)
  ranked_by_minutes i j g k =
      ⊎_elim
      (λ (l : minutes j ≤ minutes i). not_first (higher_ranked cs i j) refl l ∙ sym (le-ltb (minutes i) (minutes j) l))
      (λ (l : minutes i < minutes j). has_fewer i j g k l ∙ sym (lt-ltb (minutes i) (minutes j) l))
      (le_or_lt (minutes j) (minutes i))
    where
      not_first : (b : Bool) → higher_ranked cs i j ≡ b → minutes j ≤ minutes i → b ≡ false
      not_first true e l = absurd (let z : ⊥ = omega (arith, l, goes_first i j g k e) in z)
      not_first false e l = refl

-- of the year that the code holds
pub ranking_held : (y : YearPosts) → Held y → HoldsRanking y
ranking_held y held i j g k =
    let many = posts_count y held in
    let gi : i < length (posts_of y) = omega (arith, many) in
    let gj : j < length (posts_of y) = omega (arith, many) in
    rw (held.ranked i gi, held.ranked j gj) (ranked_by_minutes (posts_of y) held.stand i j gi gj)
