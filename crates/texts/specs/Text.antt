-- A text in two stages: its lines as frames, or 2 or 3; then the frames in order through the rules, and the closing.
use Rattle.std.specs.Prelude.{ℕ, ◌+◌, ◌*◌, List, [], ◌∷◌, Bool, true, false, cond, ◌≡◌, ltb, eqb, length, Option, Some, None, Ok, Err}
use Rattle.frames.specs.Frames.{Decoded, decoded}
use Rattle.rules.specs.declared.Amounts.{Amounts}
use Rattle.rules.specs.Outcomes.{Outcome}
use Rattle.rules.specs.Rules.{Kept, nothing, refusal_of_decoded, keep_decoded, kept}
use Rattle.rules.specs.Working.{answer_of}
use Rattle.rules.specs.Rivals.{Largest}
use Rattle.fields.specs.Digits.{digit_of}

-- ---- the first stage: "A text is lines of digits 0-9 and A-F, two to a byte, each line ended by byte 0A."

-- a line: the characters before its 0A; or those after the last 0A, which no 0A ends
pub data Line : Type 0 where
  ended : List ℕ → Line
  unended : List ℕ → Line

-- one more character in front of the lines of what follows it, `true` where it is 0A
unfoldable pub character_then : Bool → ℕ → List Line → List Line
character_then true x ls = ended [] ∷ ls
character_then false x [] = unended (x ∷ []) ∷ []
character_then false x (ended cs ∷ ls) = ended (x ∷ cs) ∷ ls
character_then false x (unended cs ∷ ls) = unended (x ∷ cs) ∷ ls

-- the lines of a text
unfoldable pub lines_of : List ℕ → List Line
lines_of [] = []
lines_of (x ∷ more) = character_then (eqb x 10) x (lines_of more)

-- a byte's two digits in front of the bytes that follow; none where one of the three is missing
unfoldable pub byte_then : Option ℕ → Option ℕ → Option (List ℕ) → Option (List ℕ)
byte_then (Some high) (Some low) (Some bytes) = Some ((high * 16 + low) ∷ bytes)
byte_then (Some high) (Some low) None = None
byte_then (Some high) None bytes = None
byte_then None low bytes = None

-- the bytes that characters spell; none for another character or an odd digit count
unfoldable pub bytes_of : List ℕ → Option (List ℕ)
bytes_of [] = Some []
bytes_of (x ∷ []) = None
bytes_of (x ∷ y ∷ more) = byte_then (digit_of x) (digit_of y) (bytes_of more)

-- "2, an empty line, another character, an odd digit count or no final 0A"
unfoldable pub line_bytes : Line → Option (List ℕ)
line_bytes (ended []) = None
line_bytes (ended (x ∷ more)) = bytes_of (x ∷ more)
line_bytes (unended cs) = None

-- a line is a frame, or it is refused by 2, or by 3: "unknown kind or wrong length"
unfoldable pub decoded_line : Option (List ℕ) → Decoded
decoded_line None = Err 2
decoded_line (Some bytes) = decoded bytes

-- each line in its turn
abbrev pub frames_of_lines : List Line → List Decoded
frames_of_lines [] = []
frames_of_lines (l ∷ ls) = decoded_line (line_bytes l) ∷ frames_of_lines ls

-- the frames of a text, with 2 or 3 for a line that is none
unfoldable pub frames_of : List ℕ → List Decoded
frames_of text = frames_of_lines (lines_of text)

-- ---- the second stage: "line by line, and the first offending line ends the reading"

-- the frames from a line on, each after those kept before it; "The refusal of a frame is passed up as it is", with its line
unfoldable pub read_from : Kept → ℕ → List Decoded → Outcome
read_from k line [] = answer_of k
read_from k line (d ∷ ds) =
    cond (eqb (refusal_of_decoded k d) 0) (read_from (keep_decoded k d) (line + 1) ds)
    (Err (record { number = refusal_of_decoded k d; line = line }))

-- "32,768 bytes"
abbrev pub longest_text : ℕ
longest_text = 32768

-- "Whole text: 1, over 32,768 bytes (line 0)." "the first line is 1"
unfoldable pub work_text : List ℕ → Outcome
work_text text =
    cond (ltb longest_text (length text)) (Err (record { number = 1; line = 0 })) (read_from nothing 1 (frames_of text))

-- ---- what the working of a text promises

-- the outcome, and where it is worked that no rival working of its frames has more
pub record TextWorked (text : List ℕ) (o : Outcome) : Type 0 where
  pub is : o ≡ work_text text
  pub largest : (a : Amounts) → o ≡ Ok a → Largest (kept (frames_of text)) a
