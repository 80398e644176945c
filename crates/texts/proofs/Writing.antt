-- Writing the digits of a number from the last to the first, and numbers one behind the other.
use Prim.Native.Nat.{ℕ, zero, suc, ◌+◌, ◌-◌, ◌/◌, ◌%◌, ◌≤◌, ◌<◌, min}
use mathlib.Core.Path.{◌≡◌, refl, sym, ap, ◌∙◌}
use mathlib.Core.List.{List, [], ◌∷◌, ◌++◌, append_assoc, append-nil}
use native.Mathlib.Omega.{arith}
use native.Mathlib.Numerals.{sub-one}
use lib.ListN.{length, take, drop, get_or, set, length-set, length-append, length-take}
use lib.Seq.{take-suc, set_at, take-set-lt, drop-set-lt, drop-drop, length-take-le}
use Rattle.rules.specs.Outcomes.{Outcome}
use Rattle.texts.specs.declared.PrintedLine.{PrintedLine}
use Rattle.texts.specs.Printed.{character_of, digits_of, Printed}
use Rattle.texts.specs.Lines.{Extended}

-- so many digits
pub length_digits : (count number : ℕ) → length (digits_of count number) ≡ count
unfolding digits_of
length_digits zero number = refl
length_digits (suc count) number = simp (length-append, length_digits count (number / 16)) (omega arith)

-- the last digit stands behind the others
last_digit : (count number : ℕ) → 0 < count → digits_of count number ≡ digits_of (count - 1) (number / 16) ++ character_of (number % 16) ∷ []
unfolding digits_of
last_digit zero number some = absurd (omega arith)
last_digit (suc count) number some = rw sub-one refl

-- of the digits that come behind the first `at` places of `start`, those from `place` on stand in their places, and those before are the digits
-- of `rest`
pub record Behind (start : List ℕ) (at many number : ℕ) (bytes : List ℕ) (place rest : ℕ) : Type 0 where
  pub done : List ℕ
  pub least : at ≤ place
  pub most : place ≤ at + many
  pub size : length bytes ≡ length start
  pub digits : digits_of many number ≡ digits_of (place - at) rest ++ done
  pub written : take (at + many) bytes ≡ take place start ++ done
  pub past : drop (at + many) bytes ≡ drop (at + many) start

-- before the first turn
pub behind_none : (start : List ℕ) (at many number : ℕ) → Behind start at many number start (at + many) number
behind_none start at many number =
    let all : at + many - at ≡ many = omega arith in
    record {
      done = [];
      least = omega arith;
      most = omega arith;
      size = refl;
      digits = rw all (sym (append-nil (digits_of many number)));
      written = sym (append-nil (take (at + many) start));
      past = refl;
    }

-- a turn
pub behind_digit : {start : List ℕ} {at many number : ℕ} {bytes : List ℕ} {place rest : ℕ} → Behind start at many number bytes place rest
    → at + many ≤ length start → at < place
    → Behind start at many number (set bytes (place - 1) (character_of (rest % 16))) (place - 1) (rest / 16)
behind_digit {start} {at} {many} {number} {bytes} {place} {rest} b room some =
    let x : ℕ = character_of (rest % 16) in
    let j : ℕ = place - 1 in
    let next : place ≡ suc j = omega arith in
    let here : take place start ≡ take (suc j) start = ap (λ (k : ℕ). take k start) next in
    let left : place - at - 1 ≡ j - at = omega arith in
    let old : take (at + many) bytes ≡ take j start ++ get_or start j 0 ∷ b.done =
    b.written ∙ rw (here, take-suc start j 0 (omega arith), append_assoc) refl in
    record {
      done = x ∷ b.done;
      least = omega arith;
      most = omega arith;
      size = length-set bytes j x ∙ b.size;
      digits = b.digits ∙ rw (last_digit (place - at) rest (omega arith), append_assoc, left) refl;
      written =
          take-set-lt (at + many) bytes j x (omega arith)
          ∙ rw old (set_at (take j start) (get_or start j 0) b.done x j (length-take-le j start (omega arith)));
      past = drop-set-lt (at + many) bytes j x (omega arith) ∙ b.past;
    }

-- after the last turn
pub behind_all : {start : List ℕ} {at many number : ℕ} {bytes : List ℕ} {place rest : ℕ} → Behind start at many number bytes place rest → place ≤ at
    → take (at + many) bytes ≡ take at start ++ digits_of many number
unfolding digits_of
behind_all {start} {at} {many} {number} {bytes} {place} {rest} b none =
    let here : place ≡ at = omega arith in
    let left : place - at ≡ 0 = omega arith in
    let all : digits_of many number ≡ b.done = b.digits ∙ rw left refl in
    b.written ∙ rw (here, all) refl

-- bytes behind a line, and more behind them
pub extended_twice : {first second third : PrintedLine} {m n : ℕ} {xs ys : List ℕ} → Extended first m xs second → Extended second n ys third
    → Extended first (m + n) (xs ++ ys) third
extended_twice {first} {second} {third} {m} {n} d e = record {
  size = e.size;
  count = omega arith;
  bytes = e.bytes ∙ rw (d.bytes, append_assoc) refl;
  rest = e.rest ∙ past second.bytes ∙ ap (drop n) d.rest ∙ sym (past first.bytes);
}
  where
    -- the places past both are those past the first, less those of the second
    past : (l : List ℕ) → drop third.count l ≡ drop n (drop second.count l)
    past l = ap (λ (k : ℕ). drop k l) e.count ∙ sym (drop-drop n second.count l)

-- the bytes that are printed are bytes of the line
pub printed_within : {o : Outcome} {line : PrintedLine} → Printed o line → line.count ≤ length line.bytes
printed_within {o} {line} p =
    let shown : min line.count (length line.bytes) ≡ line.count =
    sym (length-take line.count line.bytes) ∙ ap length p.bytes ∙ sym p.count in
    omega arith
