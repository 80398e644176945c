-- The posts of a year read one by one, and the end of the reading, for posts in bytes and for records.
use Prim.Native.Nat.{ℕ, ◌≤◌}
use mathlib.Core.Bool.{Bool, true, false, cond}
use mathlib.Core.List.{List, [], ◌∷◌, ◌++◌, append_assoc, append-nil}
use mathlib.Core.Path.{◌≡◌, refl, sym, ap, ◌∙◌, subst}
use native.Mathlib.Omega.{arith}
use lib.Dec.{eqb, leb}
use lib.ListN.{length, drop}
use borrow.Author.Tests.{eqb-true, leb-true, ne_eqb}
use Rattle.measures.specs.declared.Pence.{Pence}
use Rattle.std.proofs.Common.{Ok, Err}
use Rattle.measures.specs.declared.Refusal.{Refusal}
use Rattle.measures.specs.Answers.{Answer, answer_with}
use Rattle.measures.specs.Refusals.{unless, first_refusal, number_of}
use Rattle.measures.proofs.Refused.{never_nought}
use Rattle.measures.proofs.Tests.{passed, neither}
use Rattle.posts.specs.declared.Post.{Post}
use Rattle.posts.specs.declared.YearPosts.{YearPosts}
use Rattle.measures.specs.Limits.{most_posts}
use Rattle.posts.specs.Posts.{parts, aggregate_pay}
use Rattle.posts.specs.Refusals.{post_refusal, posts_refusal}
use Rattle.posts.specs.Lent.{lengths_refusal, lent_refusal, places_unless}
use Rattle.posts.specs.Year.{posts_of, no_posts, Held, joining}
use Rattle.posts.specs.Reading.{YearOf}
use Rattle.posts.proofs.Standing.{held_none, held_joined, posts_joined, joining_year}

-- ---- refusals tried in order

first_first : (a b c : ℕ) → first_refusal (first_refusal a b) c ≡ first_refusal a (first_refusal b c)
first_first a b c = by (eqb a 0) refl
  where
    by : (t : Bool) → eqb a 0 ≡ t → first_refusal (cond t b a) c ≡ cond t (first_refusal b c) a
    by true e = refl
    by false e = rw e refl

first_none : (a : ℕ) → first_refusal a 0 ≡ a
first_none a = by (eqb a 0) refl
  where
    by : (t : Bool) → eqb a 0 ≡ t → cond t 0 a ≡ a
    by true e = sym (eqb-true a 0 e)
    by false e = refl

-- those of a list and of another behind it
refusal_end : (before xs ys : List Post) → posts_refusal before (xs ++ ys) ≡ first_refusal (posts_refusal before xs) (posts_refusal (before ++ xs) ys)
unfolding posts_refusal
refusal_end before [] ys = ap (λ (l : List Post). posts_refusal l ys) (sym (append-nil before))
refusal_end before (x ∷ xs) ys =
    ap (first_refusal (post_refusal before x)) (refusal_end (before ++ x ∷ []) xs ys ∙ ap (λ (l : List Post). first_refusal (posts_refusal (before ++ x ∷ []) xs) (posts_refusal l ys)) (append_assoc before (x ∷ []) xs))
    ∙ sym (first_first (post_refusal before x) (posts_refusal (before ++ x ∷ []) xs) (posts_refusal (before ++ x ∷ xs) ys))

-- ---- the tests of the lengths, in their order

module _ (posts places : ℕ) where
  module _ (none : lengths_refusal posts places ≡ 0) where
    pub lengths_few : posts ≤ most_posts
    unfolding lengths_refusal
    lengths_few = leb-true _ _ (passed _ 21 (omega arith) (neither _ (unless (leb posts places) 22) none).0)

    pub lengths_room : posts ≤ places
    unfolding lengths_refusal
    lengths_room = leb-true _ _ (passed _ 22 (omega arith) (neither (unless (leb posts most_posts) 21) _ none).1)

-- ---- reading

pub year_of_none : YearOf [] no_posts
unfolding posts_refusal
year_of_none = record { held = held_none; posts = refl; unrefused = refl }

-- one post more, by what it makes of the year
module _ (xs : List Post) (y : YearPosts) (so : YearOf xs y) (x : Post) where
  refusal_more : (rest : List Post) → posts_refusal [] (xs ++ x ∷ rest) ≡ first_refusal (post_refusal (posts_of y) x) (posts_refusal (xs ++ x ∷ []) rest)
  unfolding posts_refusal
  refusal_more rest =
      refusal_end [] xs (x ∷ rest) ∙ ap (λ (n : ℕ). first_refusal n (posts_refusal xs (x ∷ rest))) so.unrefused
      ∙ ap (λ (l : List Post). first_refusal (post_refusal l x) (posts_refusal (xs ++ x ∷ []) rest)) (sym so.posts)

  pub year_of_more : 0 ≡ post_refusal (posts_of y) x → (z : YearPosts) → z ≡ joining y x → YearOf (xs ++ x ∷ []) z
  unfolding posts_refusal
  year_of_more e z f =
      let joined = f ∙ joining_year y x (sym e) in
      record {
        held = subst Held (sym joined) (held_joined y x so.held (sym e));
        posts = ap posts_of joined ∙ posts_joined y x so.held (sym e) ∙ ap (λ (l : List Post). l ++ x ∷ []) so.posts;
        unrefused = refusal_more [] ∙ rw (← e) refl;
      }

  -- a refused one refuses every list that begins so
  pub refused_among : (rest : List Post) (r : Refusal) → number_of r ≡ post_refusal (posts_of y) x → number_of r ≡ posts_refusal [] (xs ++ x ∷ rest)
  refused_among rest r e = sym (refusal_more rest ∙ rw (← e, ne_eqb _ _ (never_nought r)) refl)

-- ---- what a call gives and leaves, of the posts xs with the places zs

module _ (xs : List Post) (zs : List ℕ) where
  abbrev pub Lent : Answer → List ℕ → Type 0
  Lent a after =
      (a ≡ answer_with (lent_refusal xs (length zs)) (aggregate_pay xs))
      × (after ≡ places_unless (lent_refusal xs (length zs)) xs zs)

  lent_refused : (r : Refusal) → number_of r ≡ lent_refusal xs (length zs) → Lent (Err (number_of r)) zs
  unfolding answer_with places_unless
  lent_refused r e = (rw (← e, ne_eqb _ _ (never_nought r)) refl, rw (← e, ne_eqb _ _ (never_nought r)) refl)

  pub lengths_refused : (r : Refusal) → number_of r ≡ lengths_refusal (length xs) (length zs) → Lent (Err (number_of r)) zs
  unfolding lent_refusal
  lengths_refused r e = lent_refused r (rw (← e, ne_eqb _ _ (never_nought r)) refl)

  module _ (room : 0 ≡ lengths_refusal (length xs) (length zs)) where
    pub posts_refused : (r : Refusal) → number_of r ≡ posts_refusal [] xs → Lent (Err (number_of r)) zs
    unfolding lent_refusal
    posts_refused r e = lent_refused r (rw (← room) e)

    module _ (y : YearPosts) (so : YearOf xs y) where
      pub lent_room : length (posts_of y) ≤ length zs
      lent_room = rw so.posts (lengths_room (length xs) (length zs) (sym room))

      pub lent_accepted : (a : Pence) (after : List ℕ) → a.0 ≡ aggregate_pay (posts_of y) → after ≡ parts (posts_of y) ++ drop (length (posts_of y)) zs → Lent (Ok a) after
      unfolding lent_refusal answer_with places_unless
      lent_accepted a after f g =
          rw (← room, so.unrefused) (ap (λ (n : ℕ). Ok (record { 0 = n })) (f ∙ ap aggregate_pay so.posts), g ∙ ap (λ (l : List Post). parts l ++ drop (length l) zs) so.posts)
