-- What clauses see of a DebitsState: the same fields.
use Rattle.std.specs.Prelude.{ℕ, Option}
use Rattle.measures.specs.declared.Counted.{Counted}

pub record DebitsValue : Type 0 where
  pub previous : Option ℕ
  pub pension2015 : Counted
  pub pension1995 : Counted
