-- How characters spell the bytes of a line, read from the front: what the line comes to, where it has spelled some bytes so far and perhaps the
-- first digit of the next, of which an array holds the front. A law for each thing that can come next, and what the line is among the frames of the
-- text.
use Prim.Native.Nat.{ℕ, suc, ◌+◌, ◌*◌, ◌≤◌, ◌<◌}
use mathlib.Core.Path.{◌≡◌, refl, sym, ap, ◌∙◌}
use mathlib.Core.List.{List, [], ◌∷◌, ◌++◌, append_assoc, append-nil}
use mathlib.Core.Bool.{Bool, true, false}
use Rattle.std.specs.Prelude.{Option, Some, None, is_some, Err}
use Rattle.measures.proofs.Tests.{clash}
use native.Mathlib.Omega.{arith}
use lib.ListN.{length, take, set, length-append}
use borrow.Author.Tests.{ne_eqb}
use Rattle.frames.specs.Frames.{longest_frame, decoded}
use Rattle.frames.proofs.Bytes.{decoded_front}
use Rattle.fields.specs.Digits.{digit_of}
use Rattle.fields.proofs.Digits.{digit_small}
use Rattle.texts.specs.Text.{Line, ended, unended, character_then, lines_of, byte_then, bytes_of, line_bytes, decoded_line, frames_of_lines, frames_of}
use Rattle.texts.proofs.Holding.{Held, held_none, held_more, held_full}

-- ---- the first of some lines

-- the bytes that it spells; none where it is refused by 2
unfoldable pub first_bytes : List Line → Option (List ℕ)
first_bytes [] = None
first_bytes (l ∷ ls) = line_bytes l

-- the lines behind it
unfoldable pub later_lines : List Line → List Line
later_lines [] = []
later_lines (l ∷ ls) = ls

-- ---- the first of some lines, where part of it is read

-- the bytes that the rest of a line spells, where the first digit of the next byte is read or none
unfoldable pub rest_bytes : Option ℕ → List ℕ → Option (List ℕ)
rest_bytes None cs = bytes_of cs
rest_bytes (Some high) [] = None
rest_bytes (Some high) (x ∷ more) = byte_then (Some high) (digit_of x) (bytes_of more)

-- bytes in front of those that follow; none where there are none at all
unfoldable pub bytes_then : List ℕ → Option (List ℕ) → Option (List ℕ)
bytes_then spelled None = None
bytes_then [] (Some []) = None
bytes_then [] (Some (b ∷ more)) = Some (b ∷ more)
bytes_then (b ∷ bs) (Some more) = Some (b ∷ (bs ++ more))

-- the bytes of a line that has spelled some, with `high` the first digit of the next or none; what is left of it is the first line of those left
unfoldable pub bytes_from : List ℕ → Option ℕ → List Line → Option (List ℕ)
bytes_from spelled high [] = None
bytes_from spelled high (unended cs ∷ ls) = None
bytes_from spelled high (ended cs ∷ ls) = bytes_then spelled (rest_bytes high cs)

byte_alone : (a b : Option ℕ) (more : Option (List ℕ)) → bytes_then [] (byte_then a b more) ≡ byte_then a b more
unfolding bytes_then byte_then
byte_alone (Some h) (Some l) None = refl
byte_alone (Some h) (Some l) (Some more) = refl
byte_alone (Some h) None more = refl
byte_alone None b more = refl

-- nothing of it is read
bytes_unread : (ls : List Line) → first_bytes ls ≡ bytes_from [] None ls
unfolding first_bytes bytes_from line_bytes bytes_then rest_bytes bytes_of
bytes_unread [] = refl
bytes_unread (unended cs ∷ ls) = refl
bytes_unread (ended [] ∷ ls) = refl
bytes_unread (ended (x ∷ []) ∷ ls) = refl
bytes_unread (ended (x ∷ y ∷ more) ∷ ls) = rw byte_alone refl

rest_first : (x v : ℕ) (cs : List ℕ) → digit_of x ≡ Some v → rest_bytes None (x ∷ cs) ≡ rest_bytes (Some v) cs
unfolding rest_bytes bytes_of
rest_first x v [] d = refl
rest_first x v (y ∷ more) d = rw d refl

-- the first digit of a byte
bytes_first : (bs : List ℕ) (x v : ℕ) (ls : List Line) → digit_of x ≡ Some v → bytes_from bs None (character_then false x ls) ≡ bytes_from bs (Some v) ls
unfolding bytes_from character_then
bytes_first bs x v [] d = refl
bytes_first bs x v (unended cs ∷ ls) d = refl
bytes_first bs x v (ended cs ∷ ls) d = rw (rest_first x v cs d) refl

one_more : (bs : List ℕ) (h v : ℕ) (more : Option (List ℕ)) → bytes_then bs (byte_then (Some h) (Some v) more) ≡ bytes_then (bs ++ (h * 16 + v) ∷ []) more
unfolding bytes_then byte_then
one_more [] h v None = refl
one_more [] h v (Some more) = refl
one_more (b ∷ bs) h v None = refl
one_more (b ∷ bs) h v (Some more) = ap (λ (l : List ℕ). Some (b ∷ l)) (sym (append_assoc bs ((h * 16 + v) ∷ []) more))

-- the second: the two are a byte
bytes_second : (bs : List ℕ) (h x v : ℕ) (ls : List Line) → digit_of x ≡ Some v
    → bytes_from bs (Some h) (character_then false x ls) ≡ bytes_from (bs ++ (h * 16 + v) ∷ []) None ls
unfolding bytes_from character_then rest_bytes
bytes_second bs h x v [] d = refl
bytes_second bs h x v (unended cs ∷ ls) d = refl
bytes_second bs h x v (ended cs ∷ ls) d = rw (d, one_more) refl

rest_other : (high : Option ℕ) (x : ℕ) (cs : List ℕ) → digit_of x ≡ None → rest_bytes high (x ∷ cs) ≡ None
unfolding rest_bytes bytes_of byte_then
rest_other None x [] d = refl
rest_other None x (y ∷ more) d = rw d refl
rest_other (Some h) x cs d = rw d refl

-- another character
bytes_other : (bs : List ℕ) (high : Option ℕ) (x : ℕ) (ls : List Line) → digit_of x ≡ None → bytes_from bs high (character_then false x ls) ≡ None
unfolding bytes_from character_then bytes_then
bytes_other bs high x [] d = refl
bytes_other bs high x (unended cs ∷ ls) d = refl
bytes_other bs high x (ended cs ∷ ls) d = rw (rest_other high x cs d) refl

-- 0A where a second digit is missing
bytes_odd : (bs : List ℕ) (high : Option ℕ) (x : ℕ) (ls : List Line) → is_some high ≡ true → bytes_from bs high (character_then true x ls) ≡ None
unfolding bytes_from character_then bytes_then rest_bytes
bytes_odd bs None x ls o = clash (cc)
bytes_odd bs (Some h) x ls o = refl

-- 0A after nothing
bytes_empty : (bs : List ℕ) (x : ℕ) (ls : List Line) → length bs ≡ 0 → bytes_from bs None (character_then true x ls) ≡ None
unfolding bytes_from character_then bytes_then rest_bytes bytes_of
bytes_empty [] x ls e = refl
bytes_empty (b ∷ bs) x ls e = absurd (omega arith)

-- 0A after some bytes
bytes_whole : (bs : List ℕ) (x : ℕ) (ls : List Line) → 0 < length bs → bytes_from bs None (character_then true x ls) ≡ Some bs
unfolding bytes_from character_then bytes_then rest_bytes bytes_of
bytes_whole [] x ls s = absurd (omega arith)
bytes_whole (b ∷ bs) x ls s = rw append-nil refl

-- another character than 0A stays in the line
later_same : (x : ℕ) (ls : List Line) → later_lines (character_then false x ls) ≡ later_lines ls
unfolding later_lines character_then
later_same x [] = refl
later_same x (ended cs ∷ ls) = refl
later_same x (unended cs ∷ ls) = refl

-- ---- a line of a text

-- no line of bytes begins what is left of a text: an empty line, another character, an odd digit count or no final 0A
pub record NoBytes (from : List ℕ) : Type 0 where
  pub first : first_bytes (lines_of from) ≡ None

-- a line of bytes begins it, whose front an array of `room` places holds, and behind it comes `next`
pub record WholeLine (room : ℕ) (from next bytes : List ℕ) (n : ℕ) : Type 0 where
  pub spelled : List ℕ
  pub first : first_bytes (lines_of from) ≡ Some spelled
  pub later : later_lines (lines_of from) ≡ lines_of next
  pub held : Held room spelled bytes n
  pub spent : length next + (length spelled + length spelled) + 1 ≤ length from
  pub some : 0 < n

-- the first digit of a byte is below 16
abbrev pub SmallDigit : Option ℕ → Type 0
SmallDigit None = Unit {0}
SmallDigit (Some high) = high < 16

-- how many digits of a byte are read
abbrev pub digits_read : Option ℕ → ℕ
digits_read None = 0
digits_read (Some high) = 1

-- the line that begins `from` is read up to `rest`: it has spelled bytes, whose front the array holds, and `high` is the first digit of the next
-- or none
pub record InLine (room : ℕ) (from rest bytes : List ℕ) (n : ℕ) (high : Option ℕ) : Type 0 where
  pub spelled : List ℕ
  pub first : first_bytes (lines_of from) ≡ bytes_from spelled high (lines_of rest)
  pub later : later_lines (lines_of from) ≡ later_lines (lines_of rest)
  pub held : Held room spelled bytes n
  pub digit : SmallDigit high
  pub spent : length rest + (length spelled + length spelled) + digits_read high ≤ length from

none_read : (high : Option ℕ) → is_some high ≡ false → high ≡ None
none_read None o = refl
none_read (Some h) o = clash (cc)

-- nothing of it is read
pub unread : (room : ℕ) (from bytes : List ℕ) → length bytes ≡ room → InLine room from from bytes 0 None
unread room from bytes e = record {
  spelled = [];
  first = bytes_unread _;
  later = refl;
  held = held_none room bytes e;
  digit = tt;
  spent = omega arith;
}

-- the text ends within it
pub text_ends : {room : ℕ} {from rest bytes : List ℕ} {n : ℕ} {high : Option ℕ} → InLine room from rest bytes n high → length rest ≡ 0 → NoBytes from
unfolding bytes_from lines_of
text_ends {rest = []} i e = record { first = i.first }
text_ends {rest = x ∷ more} i e = clash (omega arith)

-- at 0A
module _ {room : ℕ} {from more bytes : List ℕ} {n : ℕ} {high : Option ℕ} (i : InLine room from (10 ∷ more) bytes n high) where
  -- after an odd count of digits
  pub odd_line : is_some high ≡ true → NoBytes from
  unfolding lines_of
  odd_line o = record { first = i.first ∙ bytes_odd _ _ _ _ o }

  -- after nothing
  pub empty_line : is_some high ≡ false → n ≡ 0 → 0 < room → NoBytes from
  unfolding lines_of
  empty_line o z r = record { first = i.first ∙ rw (none_read high o) (bytes_empty _ _ _ (omega arith)) }

  -- after some bytes
  pub whole_line : is_some high ≡ false → (n ≡ 0 → ⊥) → WholeLine room from more bytes n
  unfolding later_lines character_then lines_of
  whole_line o z = record {
    spelled = i.spelled;
    first = i.first ∙ rw (none_read high o) (bytes_whole _ 10 _ (omega arith));
    later = i.later;
    held = i.held;
    spent = let before : suc (length more) + (length i.spelled + length i.spelled) + 0 ≤ length from = rw (none_read high o) at i.spent in omega arith;
    some = omega arith;
  }

-- at another character
module _ {room : ℕ} {from : List ℕ} {x : ℕ} {more bytes : List ℕ} {n : ℕ} {high : Option ℕ} (i : InLine room from (x ∷ more) bytes n high) (ne : x ≡ 10 → ⊥) where
  lines_here : lines_of (x ∷ more) ≡ character_then false x (lines_of more)
  unfolding lines_of
  lines_here = rw (ne_eqb x 10 ne) refl

  later_here : later_lines (lines_of from) ≡ later_lines (lines_of more)
  later_here = i.later ∙ rw lines_here (later_same _ _)

  -- no digit
  pub other_character : digit_of x ≡ None → NoBytes from
  other_character d = record { first = i.first ∙ rw lines_here (bytes_other _ _ _ _ d) }

  module _ (v : ℕ) (d : digit_of x ≡ Some v) where
    -- the first digit of a byte
    pub first_digit : high ≡ None → InLine room from more bytes n (Some v)
    first_digit e = record {
      spelled = i.spelled;
      first = (rw e at i.first) ∙ rw lines_here (bytes_first _ _ _ _ d);
      later = later_here;
      held = i.held;
      digit = digit_small _ v d;
      spent = let before : suc (length more) + (length i.spelled + length i.spelled) + 0 ≤ length from = rw e at i.spent in omega arith;
    }

    module _ (first : ℕ) (o : high ≡ Some first) where
      -- the second digit of a byte, with what becomes of the array
      second_digit : {next : List ℕ} {m : ℕ} → Held room (i.spelled ++ (first * 16 + v) ∷ []) next m → InLine room from more next m None
      second_digit held =
          let before : suc (length more) + (length i.spelled + length i.spelled) + 1 ≤ length from = rw o at i.spent in
          record {
            spelled = i.spelled ++ (first * 16 + v) ∷ [];
            first = (rw o at i.first) ∙ rw lines_here (bytes_second _ _ _ _ _ d);
            later = later_here;
            held = held;
            digit = tt;
            spent = simp length-append (omega arith);
          }

      -- the byte goes into the array
      pub byte_held : n < room → InLine room from more (set bytes n (first * 16 + v)) (n + 1) None
      byte_held f = second_digit (held_more i.held _ f)

      -- the array is full: the byte is passed over
      pub byte_passed : room ≤ n → InLine room from more bytes n None
      byte_passed f = second_digit (held_full i.held _ f)

      -- the two digits are a byte
      pub fits_byte : first * 16 + v < 256
      fits_byte = let small : first < 16 = rw o at i.digit in omega (arith, digit_small _ v d)

-- ---- the frames of the lines

frames_first : (b : Bool) (x : ℕ) (ls : List Line)
    → frames_of_lines (character_then b x ls) ≡ decoded_line (first_bytes (character_then b x ls)) ∷ frames_of_lines (later_lines (character_then b x ls))
unfolding character_then first_bytes later_lines
frames_first true x ls = refl
frames_first false x [] = refl
frames_first false x (ended cs ∷ ls) = refl
frames_first false x (unended cs ∷ ls) = refl

frames_at : (from : List ℕ) → 0 < length from
    → frames_of from ≡ decoded_line (first_bytes (lines_of from)) ∷ frames_of_lines (later_lines (lines_of from))
unfolding frames_of lines_of
frames_at [] h = absurd (omega arith)
frames_at (x ∷ more) h = frames_first _ _ _

-- a line without bytes is refused by 2
pub frames_none : {from : List ℕ} → 0 < length from → NoBytes from → frames_of from ≡ Err 2 ∷ frames_of_lines (later_lines (lines_of from))
unfolding decoded_line
frames_none {from} h n = frames_at from h ∙ rw n.first refl

-- a line with bytes is what they decode to, by as many as an array holds that is one longer than the longest frame
pub frames_whole : {from next bytes : List ℕ} {n : ℕ} → WholeLine (longest_frame + 1) from next bytes n → frames_of from ≡ decoded (take n bytes) ∷ frames_of next
unfolding decoded_line frames_of
frames_whole {from} w = frames_at from (omega arith) ∙ rw (w.first, w.later, w.held.front, decoded_front) refl
