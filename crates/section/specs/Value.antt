-- What clauses see of a SectionState: the same field.
use Rattle.std.specs.Prelude.{Option}
use Rattle.section.specs.declared.HeldPay.{HeldPay}

pub record SectionValue : Type 0 where
  pub pay : Option HeldPay
