-- `figures::line` hands back the year after the line.
use lib.ListN.{length-drop}
use lib.Seq.{take_all}
use native.Mathlib.Omega.{arith}
use Rattle.figures.proofs.Handed.{line_short, line_done}
use Rattle.figures.proofs.line.Goals as goal

pub returns-in_default : goal.returns-in_default
returns-in_default g c = line_short _ (omega arith)

pub returns : goal.returns
returns g c =
    line_done c.args.text.now (omega arith) (take_all _ _ (simp length-drop (omega arith))) _ c.end_at-bar.ensures c.done.ensures
