-- `texts::reading::work_text` meets its contract: the invariants say what the line has spelled so far, and that what is left of the text, from the
-- frames kept so far, gives the answer of the whole.
use mathlib.Core.Path.{refl, sym}
use Prim.Native.Nat.{◌+◌, ◌<◌}
use mathlib.Core.List.{◌∷◌}
use lib.ListN.{length}
use borrow.Author.Rules.{rules}
use native.Mathlib.Omega.{arith}
use Rattle.frames.specs.Frames.{longest_frame}
use Rattle.texts.proofs.Worked.{text_worked}
use Rattle.texts.proofs.Spelling as spelling
use Rattle.texts.proofs.Spelling.{NoBytes, InLine, WholeLine}
use Rattle.texts.proofs.LineByLine as lines
use Rattle.texts.proofs.LineByLine.{LineStart}
use Rattle.texts.proofs.reading.work_text.Goals as goal
use Rattle.texts.proofs.reading.work_text.Goals.{In-Some, Else-is_empty, After-decode-read, then-is_some-via-then-is_some, then-is_some-via-else-is_some+then-n-eq0}

-- ---- the text as a whole

pub returns-then-text-gt-LONGEST_TEXT : goal.returns-then-text-gt-LONGEST_TEXT
returns-then-text-gt-LONGEST_TEXT c = text_worked _ _ (lines.too_long _ c.if-text-gt-LONGEST_TEXT.true)

pub lines-init : goal.lines-init
lines-init c = lines.no_line_read _ _ c.start-case.ensures.1 c.if-text-gt-LONGEST_TEXT.false

pub returns-then-is_empty : goal.returns-then-is_empty
returns-then-is_empty c = text_worked _ _ (lines.all_read c.lines.invariant (search rules) _ c.close.ensures)

-- something is left of it
some : (c : Else-is_empty) → 0 < length c.lines.rest.now
some c = search rules

-- ---- the characters of a line

-- the next of them is still to be read
here : (c : In-Some) → InLine (longest_frame + 1) c.lines.rest.now (c.in-Some.character.now ∷ c.in-Some.more.now) c.loop-character.bytes c.loop-character.n c.loop-character.high
here c = rw c.in-Some.ensures.cases.0 at c.loop-character.invariant

pub loop-character-init : goal.loop-character-init
loop-character-init c = spelling.unread _ _ _ refl

pub loop-character-preserved-in-None : goal.loop-character-preserved-in-None
loop-character-preserved-in-None c =
    spelling.first_digit (here (goal.at.loop-character-preserved-in-None c).In-Some) c.if-character-eq10.false _ (sym c.in-Some-read_digit.ensures) c.in-None.is

pub overflow_add-bytes : goal.overflow_add-bytes
overflow_add-bytes c =
    omega (arith, spelling.fits_byte (here (goal.at.overflow_add-bytes c).In-Some) c.if-character-eq10.false _ (sym c.in-Some-read_digit.ensures) _ c.in-Some-high.is)

pub loop-character-preserved-then-n-lt-KEPT : goal.loop-character-preserved-then-n-lt-KEPT
loop-character-preserved-then-n-lt-KEPT c =
    spelling.byte_held (here (goal.at.loop-character-preserved-then-n-lt-KEPT c).In-Some) c.if-character-eq10.false _ (sym c.in-Some-read_digit.ensures) _ c.in-Some-high.is c.if-n-lt-KEPT.true

pub loop-character-preserved : goal.loop-character-preserved
loop-character-preserved c =
    spelling.byte_passed (here (goal.at.loop-character-preserved c).In-Some) c.if-character-eq10.false _ (sym c.in-Some-read_digit.ensures) _ c.in-Some-high.is c.if-n-lt-KEPT.false

-- ---- the frame of a line

whole : (c : After-decode-read) → WholeLine (longest_frame + 1) c.lines.rest.now c.in-Some.more.now c.loop-character.bytes c.loop-character.n
whole c =
    let ended = rw (c.in-Some.ensures.cases.0, c.if-character-eq10.true) at c.loop-character.invariant in
    spelling.whole_line ended (sym c.if-is_some.ensures) c.if-n-eq0.false

pub lines-preserved : goal.lines-preserved
lines-preserved c =
    lines.frame_taken c.lines.invariant (whole (goal.at.lines-preserved c).After-decode-read) _ c.decode-read.ensures _ c.in-Ok.is _ c.take_frame-taken.ensures c.in_default-refusal.is

-- ---- the refusals of a line

pub returns-in_default : goal.returns-in_default
returns-in_default c = text_worked _ _ (lines.not_digits c.lines.invariant (some (goal.at.returns-in_default c).Else-is_empty) (spelling.text_ends c.loop-character.invariant c.in_default.ensures.cases))

pub returns-in_default-read_digit : goal.returns-in_default-read_digit
returns-in_default-read_digit c =
    let at = goal.at.returns-in_default-read_digit c in
    text_worked _ _ (lines.not_digits c.lines.invariant (some at.Else-is_empty) (spelling.other_character (here at.In-Some) c.if-character-eq10.false (sym c.in_default-read_digit.ensures)))

-- an odd count of digits, or none
pub returns-then-is_some : goal.returns-then-is_some
returns-then-is_some c =
    let ended = rw (c.in-Some.ensures.cases.0, c.if-character-eq10.true) at c.loop-character.invariant in
    let line : NoBytes c.lines.rest.now =
    elim c.then-is_some.branch [
      | then-is_some-via-then-is_some w ↦ spelling.odd_line ended (sym w.if-is_some.ensures)
      | then-is_some-via-else-is_some+then-n-eq0 w ↦ spelling.empty_line ended (sym w.if-is_some.ensures) w.if-n-eq0.true (omega arith)
    ] in
    text_worked _ _ (lines.not_digits c.lines.invariant (some (goal.at.returns-then-is_some c).Else-is_empty) line)

pub returns-in_default-read : goal.returns-in_default-read
returns-in_default-read c =
    text_worked _ _ (lines.no_frame c.lines.invariant (whole (goal.at.returns-in_default-read c).After-decode-read) _ c.decode-read.ensures _ c.unwrap_err-no_frame.ensures)

pub returns-in-Some-refusal : goal.returns-in-Some-refusal
returns-in-Some-refusal c =
    text_worked _ _ (lines.frame_refused c.lines.invariant (whole (goal.at.returns-in-Some-refusal c).After-decode-read) _ c.decode-read.ensures _ c.in-Ok.is _ c.take_frame-taken.ensures _ c.in-Some-refusal.is)
