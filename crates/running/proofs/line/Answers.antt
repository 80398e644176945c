-- `running::line` hands back the case after the line, by the text's first byte.
use lib.ListN.{length-drop}
use lib.Seq.{take_all}
use native.Mathlib.Omega.{arith}
use Rattle.running.proofs.Offered.{new_case, frames_offered, other_command}
use borrow.Author.Rules.{rules}
use Rattle.running.proofs.line.Goals as goal

pub returns-in_default : goal.returns-in_default
returns-in_default c = new_case _ (omega arith) c.start.ensures.0 c.start.ensures.1

pub returns-in-70 : goal.returns-in-70
returns-in-70 c =
    frames_offered c.args.text.now (omega arith) (take_all _ _ (simp length-drop (omega arith))) _ c.in-70.is c.end_at-bar.ensures c.offer.ensures

pub returns-in-67 : goal.returns-in-67
returns-in-67 c =
    other_command _ (omega arith) (λ e. omega (arith, e, c.in-67.is)) c.requires

pub returns-in_default-command : goal.returns-in_default-command
returns-in_default-command c = other_command _ (omega arith) (search rules) c.requires
