-- What clauses see of a YearsState: the same fields.
use Rattle.std.specs.Prelude.{ℕ}
use Rattle.measures.specs.declared.Pence.{Pence}
use Rattle.posts.specs.declared.YearPosts.{YearPosts}

pub record YearsValue : Type 0 where
  pub count : ℕ
  pub april : ℕ
  pub revaluation : ℕ
  pub pension : Pence
  pub ups : ℕ
  pub posts : YearPosts
