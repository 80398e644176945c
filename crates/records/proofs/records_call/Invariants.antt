-- `records::records_call`: at each turn the year is of the records before this one.
use Rattle.std.proofs.Common.{take}
use Rattle.posts.specs.Reading.{YearOf}
use Rattle.records.proofs.records_call.Given as goal

abbrev pub invariant-loop-x : goal.invariant-loop-x
invariant-loop-x l = YearOf (take l.x-index l.list) l.year
