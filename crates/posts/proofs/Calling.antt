-- The posts call: the posts in bytes, and what the call gives.
use mathlib.Core.Path.{◌≡◌, refl, ◌∙◌, ap, ap₂}
use mathlib.Core.List.{List, [], ◌∷◌, ◌++◌}
use Prim.Native.Nat.{ℕ, zero, suc, ◌+◌, ◌-◌, ◌*◌, ◌/◌, ◌%◌, ◌<◌}
use native.Mathlib.Omega.{arith}
use lib.ListN.{length}
use borrow.Author.Tests.{eq-eqb, ne_eqb}
use Rattle.std.proofs.Common.{Err}
use Rattle.measures.specs.Answers.{Answer, answer_amount, answer_refusal, answer_with, number_unless}
use Rattle.measures.proofs.Answering.{answered}
use Rattle.posts.specs.declared.Post.{Post}
use Rattle.posts.specs.Limits.{bytes_of_post}
use Rattle.posts.specs.Posts.{aggregate_pay}
use Rattle.posts.specs.Lent.{lengths_refusal, lent_refusal, places_unless}
use Rattle.posts.specs.Call.{post_at, posts_from, posts_in, call_refusal, call_answer, places_after}
use Rattle.posts.proofs.ReadingLaws.{Lent}
pub use Rattle.posts.proofs.Standing.{held_none}

-- ---- the posts in bytes

-- those before a number, that of the number, and those after it
parts_from : (bytes : List ℕ) (k n i : ℕ) → i < n → posts_from bytes k n ≡ posts_from bytes k i ++ post_at bytes (bytes_of_post * (k + i)) ∷ posts_from bytes (suc (k + i)) (n - (i + 1))
unfolding posts_from
parts_from bytes k zero i g = absurd (omega arith)
parts_from bytes k (suc n) zero g =
    let e : k ≡ k + 0 = omega arith in
    let f : n ≡ suc n - (0 + 1) = omega arith in
    ap₂ (λ (j m : ℕ). post_at bytes (bytes_of_post * j) ∷ posts_from bytes (suc j) m) e f
parts_from bytes k (suc n) (suc i) g =
    let e : suc k + i ≡ k + suc i = omega arith in
    let f : n - (i + 1) ≡ suc n - (suc i + 1) = omega arith in
    ap (λ (xs : List Post). post_at bytes (bytes_of_post * k) ∷ xs)
    (parts_from bytes (suc k) n i (omega arith) ∙ ap₂ (λ (j m : ℕ). posts_from bytes (suc k) i ++ post_at bytes (bytes_of_post * j) ∷ posts_from bytes (suc j) m) e f)

pub from_parts : (bytes : List ℕ) (n i : ℕ) → i < n → posts_from bytes 0 n ≡ posts_from bytes 0 i ++ post_at bytes (bytes_of_post * i) ∷ posts_from bytes (suc i) (n - (i + 1))
from_parts bytes n i g = let e : 0 + i ≡ i = omega arith in rw e at (parts_from bytes 0 n i g)

-- one post more
pub from_more : (bytes : List ℕ) (i : ℕ) → posts_from bytes 0 (i + 1) ≡ posts_from bytes 0 i ++ post_at bytes (bytes_of_post * i) ∷ []
unfolding posts_from
from_more bytes i = let e : i + 1 - (i + 1) ≡ 0 = omega arith in rw e at (from_parts bytes (i + 1) i (omega arith))

from_length : (bytes : List ℕ) (i n : ℕ) → length (posts_from bytes i n) ≡ n
unfolding posts_from
from_length bytes i zero = refl
from_length bytes i (suc n) = ap suc (from_length bytes (suc i) n)

pub posts_length : (bytes : List ℕ) → length (posts_in bytes) ≡ length bytes / bytes_of_post
unfolding posts_in
posts_length bytes = from_length bytes 0 (length bytes / bytes_of_post)

-- ---- what the call gives and leaves

-- with whole posts the refusal is that of the posts themselves
pub call_even : (bytes : List ℕ) (places : ℕ) → length bytes % bytes_of_post ≡ 0 → call_refusal bytes places ≡ lent_refusal (posts_in bytes) places
unfolding call_refusal
call_even bytes places even = rw (eq-eqb _ _ even) refl

module _ (bytes places : List ℕ) where
  -- what the contract says of an answer and of the places after the call
  abbrev Given : Answer → List ℕ → Type 0
  Given a after =
      record {
        answer : a ≡ call_answer bytes (length places);
        refusal : answer_refusal a ≡ call_refusal bytes (length places);
        number : answer_amount a ≡ number_unless (call_refusal bytes (length places)) (aggregate_pay (posts_in bytes));
        places : after ≡ places_after bytes places;
      }

  given : (a : Answer) (after : List ℕ) → a ≡ answer_with (call_refusal bytes (length places)) (aggregate_pay (posts_in bytes)) → after ≡ places_after bytes places → Given a after
  unfolding call_answer
  given a after e f = let t = answered _ (aggregate_pay (posts_in bytes)) a e in record { answer = t.0; refusal = t.1.0; number = t.1.1; places = f }

  pub call_uneven : (length bytes % bytes_of_post ≡ 0 → ⊥) → Given (Err 23) places
  unfolding call_refusal places_after places_unless answer_with
  call_uneven n = given _ _ (rw (ne_eqb _ _ n) refl) (rw (ne_eqb _ _ n) refl)

  module _ (even : length bytes % bytes_of_post ≡ 0) where
    -- with whole posts it is what the posts themselves give
    pub call_given : (a : Answer) (after : List ℕ) → Lent (posts_in bytes) places a after → Given a after
    unfolding places_after
    call_given a after e = given a after (rw (call_even bytes (length places) even) e.0) (rw (call_even bytes (length places) even) e.1)

    pub call_room : (n : ℕ) → n ≡ lengths_refusal (length bytes / bytes_of_post) (length places) → n ≡ lengths_refusal (length (posts_in bytes)) (length places)
    call_room n e = rw posts_length e
