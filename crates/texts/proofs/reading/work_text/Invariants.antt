-- `texts::reading::work_text` meets its contract: the invariants say what the line has spelled so far, and that what is left of the text, from the
-- frames kept so far, gives the answer of the whole.
use Prim.Native.Nat.{◌+◌}
use lib.ListN.{length}
use Rattle.frames.specs.Frames.{longest_frame}
use Rattle.texts.proofs.Spelling.{InLine}
use Rattle.texts.proofs.LineByLine.{LineStart}
use Rattle.texts.proofs.reading.work_text.Given as goal

abbrev pub invariant-loop-character : goal.invariant-loop-character
invariant-loop-character l = InLine (longest_frame + 1) l.initial.rest l.rest l.bytes l.n l.high

abbrev pub decreases-loop-character : goal.decreases-loop-character
decreases-loop-character l = length l.rest

abbrev pub invariant-lines : goal.invariant-lines
invariant-lines l = LineStart l.text l.case l.line l.rest

abbrev pub decreases-lines : goal.decreases-lines
decreases-lines l = length l.rest
