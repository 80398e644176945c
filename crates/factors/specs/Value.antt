-- What clauses see of a FactorsState: the same fields.
use Rattle.std.specs.Prelude.{Option}
use Rattle.factors.specs.declared.PreviousFactor.{PreviousFactor}
use Rattle.factors.specs.declared.Dated.{Dated}

pub record FactorsValue : Type 0 where
  pub previous : Option PreviousFactor
  pub dated : Dated
