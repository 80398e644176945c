-- The posts that numbers spell.
use Rattle.std.specs.Prelude.{ℕ, ◌+◌, List, [], ◌∷◌, get_or}
use Rattle.posts.specs.declared.Post.{Post}
use Rattle.posts.specs.Posts.{post_of}

-- the post whose h, w, p and s are the numbers from a place on
abbrev pub post_from : List ℕ → ℕ → Post
post_from numbers at = post_of (get_or numbers at 0) (get_or numbers (at + 1) 0) (get_or numbers (at + 2) 0) (get_or numbers (at + 3) 0)

-- the posts of four numbers h, w, p, s each
unfoldable pub posts_of_numbers : List ℕ → List Post
posts_of_numbers [] = []
posts_of_numbers (h ∷ []) = []
posts_of_numbers (h ∷ w ∷ []) = []
posts_of_numbers (h ∷ w ∷ p ∷ []) = []
posts_of_numbers (h ∷ w ∷ p ∷ s ∷ more) = post_of h w p s ∷ posts_of_numbers more
