-- `running::main` ends, and each line begins with a case.
use Rattle.cases.specs.Running.{IsCase}
use Rattle.running.proofs.main.Given as goal

abbrev pub invariant-loop-ended : goal.invariant-loop-ended
invariant-loop-ended l = IsCase l.case
