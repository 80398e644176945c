-- `input::script::bytes_in` meets its contract: what was put is the start of what is spelled.
use Prim.Native.Nat.{◌≤◌, ◌<◌}
use mathlib.Core.Logic.{⊎_elim}
use mathlib.Core.Path.{◌≡◌}
use lib.ListN.{length}
use native.Mathlib.Omega.{arith}
use Rattle.measures.proofs.Tests.{le_or_lt}
use Rattle.input.proofs.Pairs.{read_byte, no_byte, pair_more, pair_other, pair_none}
use Rattle.input.proofs.Putting.{put_more, put_all, put_full}
use Rattle.input.proofs.script.bytes_in.Goals as goal

pub loop-n-preserved : goal.loop-n-preserved
loop-n-preserved c =
    let e = read_byte _ c.in-Some.ensures in
    put_more c.loop-n.invariant (pair_more c.args.text.now c.loop-n.n (omega arith) e.0) e.1 (omega arith)

pub returns-in_default : goal.returns-in_default
returns-in_default c =
    put_all c.loop-n.invariant (pair_other c.args.text.now c.loop-n.n (omega arith) (no_byte _ _ c.in_default.ensures))

pub returns : goal.returns
returns c =
    let n : c.loop-n.n ≡ c.min-most.result = omega arith in
    rw (← n)
    (⊎_elim
    (λ (full : length c.args.bytes.now ≤ c.loop-n.n). put_full c.loop-n.invariant full)
    (λ (room : c.loop-n.n < length c.args.bytes.now). put_all c.loop-n.invariant (pair_none c.args.text.now c.loop-n.n (omega arith)))
    (le_or_lt _ _))
