-- Document 01's aggregates of the years, before there was a supplement: "without one, document 01's comparison holds" (2.7).
use Rattle.std.specs.Prelude.{ℕ, List, [], ◌∷◌}
use Rattle.measures.specs.Lists.{All}
use Rattle.posts.specs.Posts.{NoSupplement}
use Rattle.posts.specs.Plain.{parts01, aggregate01}
use Rattle.rules.specs.Rules.{WorkedYear}

-- no post of the year has a supplement
abbrev pub PlainYear : WorkedYear → Type 0
PlainYear y = All NoSupplement y.posts

-- ours
abbrev pub own_aggregates01 : List WorkedYear → List ℕ
own_aggregates01 [] = []
own_aggregates01 (y ∷ ys) = aggregate01 y.posts (parts01 y.posts) ∷ own_aggregates01 ys

-- a rival's
abbrev pub rival_aggregates01 : List WorkedYear → List (List ℕ) → List ℕ
rival_aggregates01 [] qs = []
rival_aggregates01 (y ∷ ys) [] = []
rival_aggregates01 (y ∷ ys) (q ∷ qs) = aggregate01 y.posts q ∷ rival_aggregates01 ys qs
