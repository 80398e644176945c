-- `input::script::numbers_in` meets its contract: what was put is the start of the numbers.
use native.Mathlib.Omega.{arith}
use Rattle.std.proofs.lemmas.List.{set-get_or}
use Rattle.input.proofs.Putting.{put_more, put_all}
use Rattle.input.proofs.Words.{next_number, no_number}
use Rattle.input.proofs.script.numbers_in.Goals as goal

pub loop-n-preserved : goal.loop-n-preserved
loop-n-preserved c = record {
  within = c.end_at-end.ensures.within;
  put =
      put_more c.loop-n.invariant.put
      (next_number c.args.text.now c.loop-n.at c.end_at-end.result (omega arith) c.end_at-end.ensures)
      c.number_in.ensures
      (omega arith);
}

pub returns-then-at-text : goal.returns-then-at-text
returns-then-at-text c =
    rw set-get_or (put_all c.loop-n.invariant.put (no_number c.args.text.now c.loop-n.at (omega arith)))
