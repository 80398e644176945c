-- The fields of a year's posts, by which contracts and proofs see it.
use Rattle.std.specs.Prelude.{ℕ, List}
use Rattle.measures.specs.declared.Minutes.{Minutes}
use Rattle.posts.specs.declared.Post.{Post}

-- The posts of a year, and beside them their ranking, H, K and how many of them are whole-time
pub record YearHeld : Type 0 where
  pub list : List Post
  pub ranking : List Minutes
  pub count : ℕ
  pub minutes : Minutes
  pub weighted : ℕ
  pub wholes : ℕ
