-- A year that posts join and leave (2.8): what each change promises, and what holds of a year after any list of them.
use Rattle.std.specs.Prelude.{◌≡◌, List, [], ◌∷◌, ◌++◌}
use Rattle.measures.specs.Refusals.{number_beside}
use Rattle.measures.specs.Tries.{tried}
use Rattle.posts.specs.declared.YearPosts.{YearPosts}
use Rattle.posts.specs.declared.Changed.{Changed}
use Rattle.posts.specs.declared.Allocation.{Allocation}
use Rattle.posts.specs.Changes.{Change, change_refusal, changed_posts, remaining}
use Rattle.posts.specs.Year.{posts_of, no_posts, Held, HoldsRanking, Allocated}

-- What is handed back for a change of a year: its refusal; the posts then; a year again; "a refused change alters nothing", no
-- place of the year
pub record ChangedBy (y : YearPosts) (c : Change) (r : Changed) : Type 0 where
  pub refusal : number_beside r.refusal ≡ change_refusal (posts_of y) c
  pub posts : posts_of r.year ≡ tried change_refusal changed_posts (posts_of y) c
  pub held : Held r.year
  pub unchanged : (number_beside r.refusal ≡ 0 → ⊥) → r.year ≡ y

-- a year reached "from an empty year" by a list of changes, refused ones included, each of the year that the one before handed back
pub data Reached : List Change → YearPosts → Type 0 where
  start : Reached [] no_posts
  next : {cs : List Change} {y : YearPosts} {c : Change} {r : Changed} → Reached cs y → ChangedBy y c r → Reached (cs ++ c ∷ []) r.year

-- "For every list of joinings and leavings from an empty year, the parts and the aggregate are those of the remaining posts worked afresh":
-- it is a year, of the posts that remain and with their ranking; what the year's allocation gives is what these posts give
pub record Afresh (changes : List Change) (y : YearPosts) : Type 0 where
  pub held : Held y
  pub posts : posts_of y ≡ remaining changes
  pub ranking : HoldsRanking y
  pub allocated : (a : Allocation) → Allocated (posts_of y) a → Allocated (remaining changes) a
