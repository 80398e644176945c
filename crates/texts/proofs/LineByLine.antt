-- The reading of a text line by line: what the lines from the next one on give after the frames kept is the answer of the whole.
use Prim.Native.Nat.{ℕ, ◌+◌, ◌≤◌, ◌<◌}
use mathlib.Core.Path.{◌≡◌, refl, sym, ap, ◌∙◌}
use mathlib.Core.List.{List, [], ◌∷◌, ◌++◌}
use native.Mathlib.Omega.{arith}
use lib.ListN.{length, take}
use borrow.Author.Tests.{ne_eqb, le-ltb, lt-ltb}
use Rattle.std.specs.Prelude.{Some, None, Result, Ok, Err}
use Rattle.measures.specs.declared.Refusal.{Refusal}
use Rattle.measures.specs.Refusals.{number_of, number_beside, numbered}
use Rattle.measures.proofs.Refused.{never_nought}
use Rattle.measures.proofs.Tests.{clash}
use Rattle.measures.specs.Tries.{after}
use Rattle.frames.specs.declared.Frame.{Frame}
use Rattle.frames.specs.Frames.{longest_frame, Decoded, decoded}
use Rattle.frames.proofs.Bytes.{decoded_three}
use Rattle.rules.specs.Outcomes.{Outcome}
use Rattle.rules.specs.Rules.{refusal_of_decoded, kept}
use Rattle.cases.specs.declared.Case.{Case}
use Rattle.cases.specs.declared.Taken.{Taken}
use Rattle.cases.specs.State.{after_all}
use Rattle.cases.specs.Running.{IsCase, TakenAfter, TakenFrom, ClosedAfter}
use Rattle.cases.proofs.Bridge.{kept_one_more}
use Rattle.texts.specs.Text.{lines_of, frames_of, read_from, longest_text, work_text}
use Rattle.texts.proofs.Spelling.{NoBytes, WholeLine, frames_none, frames_whole}

-- so many lines are read: what is left of the text gives the answer, from the frames kept so far
pub record LineStart (text : List ℕ) (case : Case) (line : ℕ) (rest : List ℕ) : Type 0 where
  pub frames : List Decoded
  pub is : case ≡ after_all frames
  pub small : length text ≤ longest_text
  pub count : line + length rest ≤ length text
  pub answer : work_text text ≡ read_from (kept frames) (line + 1) (frames_of rest)

-- a text over the limit
pub too_long : (text : List ℕ) → longest_text < length text → Err (record { number = 1; line = 0 }) ≡ work_text text
unfolding work_text
too_long text h = rw (lt-ltb _ _ h) refl

-- any other text: no line is read
pub no_line_read : (text : List ℕ) (case : Case) → case ≡ after_all [] → length text ≤ longest_text → LineStart text case 0 text
unfolding work_text kept after
no_line_read text case e h = record { frames = []; is = e; small = h; count = omega arith; answer = rw (le-ltb _ _ h) refl }

module _ {text : List ℕ} {case : Case} {line : ℕ} {rest : List ℕ} (s : LineStart text case line rest) where
  -- the case so far is a case
  pub line_case : IsCase case
  line_case = record { frames = s.frames; is = s.is }

  -- every line is read
  pub all_read : length rest ≡ 0 → (o : Outcome) → ((frames : List Decoded) → case ≡ after_all frames → ClosedAfter frames o) → o ≡ work_text text
  unfolding read_from frames_of lines_of
  all_read h o closed = (closed s.frames s.is).answer ∙ sym (s.answer ∙ rw (empty rest h) refl)
    where
      empty : (l : List ℕ) → length l ≡ 0 → l ≡ []
      empty [] e = refl
      empty (x ∷ l) e = clash (omega arith)

  -- the next line is none of bytes: 2
  pub not_digits : 0 < length rest → NoBytes rest → Err (record { number = 2; line = line + 1 }) ≡ work_text text
  unfolding read_from refusal_of_decoded
  not_digits h n = sym (s.answer ∙ rw (frames_none h n) refl)

  -- the next line has bytes
  module _ {next bytes : List ℕ} {n : ℕ} (w : WholeLine (longest_frame + 1) rest next bytes n) (d : Result Frame Refusal) (e : numbered d ≡ decoded (take n bytes)) where
    decoded_line_lem : work_text text ≡ read_from (kept s.frames) (line + 1) (numbered d ∷ frames_of next)
    decoded_line_lem = s.answer ∙ rw (frames_whole w, ← e) refl

    -- they are no frame: their refusal
    pub no_frame : (refusal : Refusal) → d ≡ Err refusal → Err (record { number = number_of refusal; line = line + 1 }) ≡ work_text text
    unfolding read_from refusal_of_decoded
    no_frame refusal r =
        let given : numbered d ≡ Err (number_of refusal) = rw r refl in
        let three : number_of refusal ≡ 3 = decoded_three (take n bytes) (number_of refusal) (sym e ∙ given) in
        sym (decoded_line_lem ∙ rw (given, three) refl)

    -- they are a frame
    module _ (frame : Frame) (f : d ≡ Ok frame) (t : Taken) (taken : TakenFrom case (Ok frame) t) where
      taken_here : TakenAfter s.frames (Ok frame) case t
      taken_here = taken.after s.frames s.is

      frame_line : work_text text ≡ read_from (kept s.frames) (line + 1) (Ok frame ∷ frames_of next)
      frame_line = rw f at decoded_line_lem

      -- the case refuses it
      pub frame_refused : (refusal : Refusal) → t.refusal ≡ Some refusal → Err (record { number = number_of refusal; line = line + 1 }) ≡ work_text text
      unfolding read_from
      frame_refused refusal r =
          let by : refusal_of_decoded (kept s.frames) (Ok frame) ≡ number_of refusal = sym taken_here.refusal ∙ ap number_beside r in
          sym (frame_line ∙ rw (by, ne_eqb (number_of refusal) 0 (never_nought refusal)) refl)

      -- the case takes it: one line more is read
      pub frame_taken : t.refusal ≡ None → LineStart text t.case (line + 1) next
      unfolding read_from
      frame_taken r =
          let by : refusal_of_decoded (kept s.frames) (Ok frame) ≡ 0 = sym taken_here.refusal ∙ ap number_beside r in
          record {
            frames = s.frames ++ Ok frame ∷ [];
            is = taken_here.case;
            small = s.small;
            count = omega arith;
            answer = frame_line ∙ rw (by, kept_one_more s.frames (Ok frame) by) refl;
          }
