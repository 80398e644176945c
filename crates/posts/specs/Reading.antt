-- The posts of a year as the code reads them, each joining the year after those before it.
use Rattle.std.specs.Prelude.{◌≡◌, List, [], Result, Ok, Err}
use Rattle.measures.specs.declared.Refusal.{Refusal}
use Rattle.measures.specs.Refusals.{number_of}
use Rattle.posts.specs.declared.Post.{Post}
use Rattle.posts.specs.declared.YearPosts.{YearPosts}
use Rattle.posts.specs.Refusals.{posts_refusal}
use Rattle.posts.specs.Year.{posts_of, Held}

-- a year of the posts xs, none of them refused
pub record YearOf (xs : List Post) (y : YearPosts) : Type 0 where
  pub held : Held y
  pub posts : posts_of y ≡ xs
  pub unrefused : posts_refusal [] xs ≡ 0

-- "then by post 7, 8": what comes of reading the posts xs, a year of them or the refusal of the first that is refused
abbrev pub Read : List Post → Result YearPosts Refusal → Type 0
Read xs (Ok y) = YearOf xs y
Read xs (Err refusal) = number_of refusal ≡ posts_refusal [] xs
