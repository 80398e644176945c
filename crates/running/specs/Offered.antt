-- Which case comes back: the frames that a script's words offer, and those of a line.
use Rattle.std.specs.Prelude.{ℕ, cond, List, [], ◌∷◌, ◌++◌, map, ◌≡◌, eqb, take}
use Rattle.frames.specs.Frames.{Decoded, decoded}
use Rattle.cases.specs.declared.Case.{Case}
use Rattle.cases.specs.State.{after_all}
use Rattle.cases.specs.Running.{IsCase}
use Rattle.input.specs.Script.{bytes_spelled, words_of, from_mark}

-- the bytes of the program's buffer
abbrev pub buffer_bytes : ℕ
buffer_bytes = 4096

-- the frame that a word in hexadecimal is, by as many of the bytes that it spells as the buffer has room for
unfoldable pub frame_of_word : List ℕ → Decoded
frame_of_word word = decoded (take buffer_bytes (bytes_spelled word))

-- frames offered, and behind them those of words
unfoldable pub with_words : List ℕ → List Decoded → List Decoded
with_words words frames = frames ++ map frame_of_word (words_of words)

-- frames offered, and behind them that of one word
unfoldable pub with_word : List ℕ → List Decoded → List Decoded
with_word word frames = frames ++ frame_of_word word ∷ []

-- the frames offered to the case after a line: `F` (70) offers those of the words from the first `|` (124) on, a line of fewer than two bytes
-- starts a new case, any other leaves it as it is
unfoldable pub after_line : List ℕ → List Decoded → List Decoded
after_line [] frames = []
after_line (x ∷ []) frames = []
after_line (command ∷ x ∷ label) frames = cond (eqb command 70) (with_words (from_mark 124 label) frames) frames

-- a case handed on: by whatever frames it was made, what comes back is the case of the frames that come of them
pub record HandedOn (case : Case) (next : List Decoded → List Decoded) (r : Case) : Type 0 where
  pub is_case : IsCase r
  pub after : (frames : List Decoded) → case ≡ after_all frames → r ≡ after_all (next frames)
