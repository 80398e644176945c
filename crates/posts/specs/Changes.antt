-- "Posts that start and stop" (2.8): the posts of a year after a list of joinings and leavings.
use Rattle.std.specs.Prelude.{ℕ, zero, suc, ◌-◌, List, [], ◌∷◌, ◌++◌, length}
use Rattle.measures.specs.Refusals.{within, unless}
use Rattle.measures.specs.Tries.{after}
use Rattle.posts.specs.declared.Post.{Post}
use Rattle.posts.specs.Refusals.{post_refusal}

-- "a post joins at the end or leaves by its position from 1"
pub data Change : Type 0 where
  joins : Post → Change
  leaves : ℕ → Change

-- a list without what stands at a place, counted from 0, "later ones moving up"
unfoldable pub without : {A : Type 0} → ℕ → List A → List A
without at [] = []
without zero (x ∷ xs) = xs
without (suc at) (x ∷ xs) = x ∷ without at xs

-- "It refuses with 29 the leaving of a position that holds no post.": of so many posts, those at the positions from 1 on
unfoldable pub position_refusal : ℕ → ℕ → ℕ
position_refusal count position = unless (within 1 count position) 29

-- "Joining is refused by 7 and 8 as in a case.", after the posts that are there
unfoldable pub change_refusal : List Post → Change → ℕ
change_refusal xs (joins x) = post_refusal xs x
change_refusal xs (leaves position) = position_refusal (length xs) position

-- the posts after a change that is not refused
unfoldable pub changed_posts : List Post → Change → List Post
changed_posts xs (joins x) = xs ++ x ∷ []
changed_posts xs (leaves position) = without (position - 1) xs

-- "the remaining posts" after a "list of joinings and leavings from an empty year"; "a refused change alters nothing"
unfoldable pub remaining : List Change → List Post
remaining changes = after change_refusal changed_posts [] changes
