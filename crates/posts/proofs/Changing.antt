-- A change of a year: what it promises, by its refusal; and every list of changes from an empty year.
use mathlib.Core.Path.{◌≡◌, refl, sym, ◌∙◌, ap, subst}
use mathlib.Core.Bool.{Bool, true, false, cond}
use mathlib.Core.List.{List, []}
use Prim.Native.Nat.{ℕ, ◌-◌, ◌≤◌}
use native.Mathlib.Omega.{arith}
use lib.Dec.{eqb, leb}
use borrow.Author.Tests.{eq-eqb, eqb-true, eqb-false, leb-true}
use Rattle.std.proofs.Common.{Some, None}
use Rattle.measures.specs.declared.Refusal.{Refusal}
use Rattle.measures.specs.Refusals.{number_of, number_beside}
use Rattle.measures.specs.Tries.{tried, after}
use Rattle.measures.proofs.Refused.{never_nought}
use Rattle.measures.proofs.Tests.{passed, and_left, and_right}
use Rattle.measures.proofs.Trying.{after_end, tried_refused}
use Rattle.posts.specs.declared.Post.{Post}
use Rattle.posts.specs.declared.YearPosts.{YearPosts}
use Rattle.posts.specs.declared.Changed.{Changed}
use Rattle.posts.specs.Refusals.{post_refusal}
use Rattle.posts.specs.Changes.{Change, joins, leaves, without, position_refusal, change_refusal, changed_posts, remaining}
use Rattle.posts.specs.Year.{posts_of, Held, joined_by, joining, Allocated}
use Rattle.posts.specs.Reached.{ChangedBy, Reached, start, next, Afresh}
use Rattle.posts.proofs.Standing.{posts_count, posts_joined, held_joined, held_none}
use Rattle.posts.proofs.RankingHeld.{ranking_held}

-- ---- one change, as the code hands it back

module _ (y : YearPosts) (c : Change) (r : Changed) (e : number_beside r.refusal ≡ change_refusal (posts_of y) c) where
  -- refused, the year as it was
  pub change_refused : Held y → (number_beside r.refusal ≡ 0 → ⊥) → r.year ≡ y → ChangedBy y c r
  change_refused held f same =
      record {
        refusal = e;
        posts = ap posts_of same ∙ sym (tried_refused change_refusal changed_posts (posts_of y) c (λ z. f (e ∙ z)));
        held = subst Held (sym same) held;
        unchanged = λ g. same;
      }

  -- else the posts changed
  pub change_made : number_beside r.refusal ≡ 0 → Held r.year → posts_of r.year ≡ changed_posts (posts_of y) c → ChangedBy y c r
  unfolding tried
  change_made z held f =
      record {
        refusal = e;
        posts = rw (eq-eqb (change_refusal (posts_of y) c) 0 (sym e ∙ z)) f;
        held = held;
        unchanged = λ g. absurd (g z);
      }

-- ---- a post joins

-- what a joining hands back is what a change promises
pub join_changed : (y : YearPosts) (x : Post) → Held y → (r : Changed) → number_beside r.refusal ≡ post_refusal (posts_of y) x → r.year ≡ joining y x → ChangedBy y (joins x) r
unfolding joining change_refusal changed_posts
join_changed y x held r e f = by (eqb (post_refusal (posts_of y) x) 0) refl f
  where
    by : (t : Bool) → eqb (post_refusal (posts_of y) x) 0 ≡ t → r.year ≡ cond t (joined_by y x) y → ChangedBy y (joins x) r
    by true t f =
        let z = eqb-true _ 0 t in
        change_made y (joins x) r e (e ∙ z) (subst Held (sym f) (held_joined y x held z)) (ap posts_of f ∙ posts_joined y x held z)
    by false t f = change_refused y (joins x) r e held (λ z. eqb-false _ 0 t (sym e ∙ z)) f

-- ---- a post leaves

module _ (count position : ℕ) where
  -- a position that is not refused is the place before it, counted from 0
  pub position_place : position_refusal count position ≡ 0 → (1 ≤ position) × (position ≤ count)
  unfolding position_refusal
  position_place z = let t = passed _ 29 (omega arith) z in (leb-true 1 position (and_left _ _ t), leb-true position count (and_right (leb 1 position) _ t))

module _ (y : YearPosts) (held : Held y) (position : ℕ) where
  among : position_refusal y.count position ≡ change_refusal (posts_of y) (leaves position)
  unfolding change_refusal
  among = ap (λ (k : ℕ). position_refusal k position) (sym (posts_count y held))

  pub leave_refused : (r : Refusal) → number_of r ≡ position_refusal y.count position → ChangedBy y (leaves position) (record { year = y; refusal = Some r })
  leave_refused r e = change_refused y (leaves position) _ (e ∙ among) held (never_nought r) refl

  pub leave_made : 0 ≡ position_refusal y.count position → (r : YearPosts) → Held r → posts_of r ≡ without (position - 1) (posts_of y) → ChangedBy y (leaves position) (record { year = r; refusal = None })
  unfolding changed_posts
  leave_made z r h f = change_made y (leaves position) _ (z ∙ among) refl h f

-- ---- every list of changes

reached_posts : {changes : List Change} {y : YearPosts} → Reached changes y → Held y × (posts_of y ≡ remaining changes)
unfolding remaining after
reached_posts start = (held_none, refl)
reached_posts (next {cs = cs} {y = y} {c = c} t e) =
    let i = reached_posts t in
    (e.held, e.posts ∙ ap (λ (xs : List Post). tried change_refusal changed_posts xs c) i.1 ∙ sym (after_end change_refusal changed_posts [] cs c))

-- "For every list of joinings and leavings from an empty year, the parts and the aggregate are those of the remaining posts worked afresh"
pub afresh : {changes : List Change} {y : YearPosts} → Reached changes y → Afresh changes y
afresh {y = y} t =
    let i = reached_posts t in
    record { held = i.0; posts = i.1; ranking = ranking_held y i.0; allocated = λ a w. subst (λ (xs : List Post). Allocated xs a) i.1 w }
