-- Lists by their end, as frames join them.
use Prim.Native.Nat.{ℕ, ◌+◌}
use mathlib.Core.Path.{◌≡◌, refl, ap}
use mathlib.Core.Bool.{Bool, true, false, cond}
use mathlib.Core.List.{List, [], ◌∷◌, ◌++◌}
use mathlib.Core.Option.{Option, none, some}
use native.Mathlib.Omega.{arith}
use lib.Dec.{eqb}
use Rattle.posts.specs.declared.Post.{Post}
use Rattle.posts.specs.Posts.{aggregate_pay}
use Rattle.benefits.specs.Steps.{after_year}
use Rattle.frames.specs.declared.Factor.{Factor}
use Rattle.frames.specs.declared.Debit.{Debit}
use Rattle.rules.specs.Rules.{WorkedYear, non_empty, last_of, kept_posts, open_posts, add_post}
use Rattle.rules.specs.Working.{pension_from, pension_of, own_aggregates, year_ups, ups_from, or_else, is_for, factor_for, debit_for}

-- a list is empty, or it has a last element
pub data Ended {A : Type 0} : List A → Type 0 where
  empty : Ended []
  ends : (xs : List A) (x : A) → Ended (xs ++ x ∷ [])

pub ended : {A : Type 0} (l : List A) → Ended l
ended [] = empty
ended (x ∷ xs) = by (ended xs)
  where
    by : {l : List _} → Ended l → Ended (x ∷ l)
    by empty = ends [] x
    by (ends ys y) = ends (x ∷ ys) y

pub last_end : {A : Type 0} (xs : List A) (x : A) → last_of (xs ++ x ∷ []) ≡ some x
unfolding last_of
last_end [] x = refl
last_end (y ∷ []) x = refl
last_end (y ∷ z ∷ ys) x = last_end (z ∷ ys) x

pub nonempty_end : {A : Type 0} (xs : List A) (x : A) → non_empty (xs ++ x ∷ []) ≡ true
nonempty_end [] x = refl
nonempty_end (y ∷ ys) x = refl

-- all but the last
unfoldable pub all_but_last : {A : Type 0} → List A → List A
all_but_last [] = []
all_but_last (x ∷ []) = []
all_but_last (x ∷ y ∷ xs) = x ∷ all_but_last (y ∷ xs)

pub butlast_end : {A : Type 0} (xs : List A) (x : A) → all_but_last (xs ++ x ∷ []) ≡ xs
unfolding all_but_last
butlast_end [] x = refl
butlast_end (y ∷ []) x = refl
butlast_end (y ∷ z ∷ ys) x = ap (λ (l : List _). y ∷ l) (butlast_end (z ∷ ys) x)

-- ---- years

-- a post joins the last year
abbrev pub joined_year : WorkedYear → Post → WorkedYear
joined_year y x = record { year = y.year; posts = y.posts ++ x ∷ [] }

pub add_end : (ys : List WorkedYear) (y : WorkedYear) (x : Post) → add_post (ys ++ y ∷ []) x ≡ ys ++ joined_year y x ∷ []
unfolding add_post
add_end [] y x = refl
add_end (z ∷ []) y x = refl
add_end (z ∷ u ∷ ys) y x = ap (λ (l : List WorkedYear). z ∷ l) (add_end (u ∷ ys) y x)

pub open_end : (ys : List WorkedYear) (y : WorkedYear) → open_posts (ys ++ y ∷ []) ≡ y.posts
unfolding open_posts
open_end ys y = ap kept_posts (last_end ys y)

pension_from_end : (before : ℕ) (ys : List WorkedYear) (y : WorkedYear) → pension_from before (ys ++ y ∷ []) (own_aggregates (ys ++ y ∷ [])) ≡ after_year (pension_from before ys (own_aggregates ys)) y.year.revaluation (aggregate_pay y.posts)
unfolding pension_from
pension_from_end before [] y = refl
pension_from_end before (z ∷ ys) y = pension_from_end (after_year before z.year.revaluation (aggregate_pay z.posts)) ys y

pub pension_end : (ys : List WorkedYear) (y : WorkedYear) → pension_of (ys ++ y ∷ []) (own_aggregates (ys ++ y ∷ [])) ≡ after_year (pension_of ys (own_aggregates ys)) y.year.revaluation (aggregate_pay y.posts)
unfolding pension_of
pension_end ys y = pension_from_end 0 ys y

ups_from_end : (before : ℕ) (ys : List WorkedYear) (y : WorkedYear) → ups_from before (ys ++ y ∷ []) ≡ ups_from before ys + year_ups (pension_from before ys (own_aggregates ys)) y
unfolding ups_from pension_from
ups_from_end before [] y = omega arith
ups_from_end before (z ∷ ys) y = omega (arith, ups_from_end (after_year before z.year.revaluation (aggregate_pay z.posts)) ys y)

pub ups_end : (ys : List WorkedYear) (y : WorkedYear) → ups_from 0 (ys ++ y ∷ []) ≡ ups_from 0 ys + year_ups (pension_of ys (own_aggregates ys)) y
unfolding pension_of
ups_end ys y = ups_from_end 0 ys y

-- ---- factors and debits: the one that joins is found first

or_found : {A : Type 0} (t : Bool) (a : A) (o p : Option A) → or_else (cond t (some a) o) p ≡ cond t (some a) (or_else o p)
or_found true a o p = refl
or_found false a o p = refl

or_none : {A : Type 0} (t : Bool) (a : A) → or_else none (cond t (some a) none) ≡ cond t (some a) none
or_none true a = refl
or_none false a = refl

pub factor_end : (scheme months : ℕ) (fs : List Factor) (f : Factor) → factor_for scheme months (fs ++ f ∷ []) ≡ cond (is_for scheme months f) (some f) (factor_for scheme months fs)
unfolding factor_for
factor_end scheme months [] f = or_none (is_for scheme months f) f
factor_end scheme months (g ∷ fs) f =
    rw (factor_end scheme months fs f) (or_found (is_for scheme months f) f (factor_for scheme months fs) (cond (is_for scheme months g) (some g) none))

pub debit_end : (scheme : ℕ) (ds : List Debit) (d : Debit) → debit_for scheme (ds ++ d ∷ []) ≡ cond (eqb d.scheme scheme) (some d) (debit_for scheme ds)
unfolding debit_for
debit_end scheme [] d = or_none (eqb d.scheme scheme) d
debit_end scheme (e ∷ ds) d =
    rw (debit_end scheme ds d) (or_found (eqb d.scheme scheme) d (debit_for scheme ds) (cond (eqb e.scheme scheme) (some e) none))

-- what is found was kept
module _ {A : Type 0} (P : Option A → Type 0) (o : Option A) (a : A) (found : P o) (kept : P (some a)) (nothing : P none) where
  pub or_else_lem : (t : Bool) → P (or_else o (cond t (some a) none))
  or_else_lem t = by o t found
    where
      by : (o : Option A) (t : Bool) → P o → P (or_else o (cond t (some a) none))
      by none true p = kept
      by none false p = nothing
      by (some b) t p = p
