-- `measures::upward` meets its contract: one case a way.
use borrow.Author.Rules.{rules}
use Rattle.measures.specs.Rounding.{upward}
use Rattle.measures.proofs.upward.Goals as goal

pub returns-in-Exact : goal.returns-in-Exact
unfolding upward
returns-in-Exact c = search rules

pub returns-in-Down : goal.returns-in-Down
unfolding upward
returns-in-Down c = search rules

pub returns-in-Up : goal.returns-in-Up
unfolding upward
returns-in-Up c = search rules
