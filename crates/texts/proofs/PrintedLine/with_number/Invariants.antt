-- `texts::PrintedLine::with_number` meets its contract: the invariant is `Behind`, the digits written so far.
use Rattle.std.proofs.Common.{◌≡◌}
use Rattle.texts.proofs.Writing.{Behind}
use Rattle.texts.proofs.PrintedLine.with_number.Given as goal

abbrev pub invariant-loop-place : goal.invariant-loop-place
invariant-loop-place l = record {
  same_count : l.self.count ≡ l.initial.self.count;
  behind : Behind l.initial.self.bytes l.initial.self.count l.digits l.number l.self.bytes l.place l.rest;
}
