-- The parts of a script.
use Rattle.std.specs.Prelude.{ℕ, ◌+◌, ◌*◌, ◌≤◌, ◌<◌, min, Bool, true, false, cond, List, [], ◌∷◌, ◌++◌, map, ◌≡◌, ltb, eqb, length, get_or, take, drop, Option, Some, None}
use Rattle.io.specs.Counts.{IsPrefixLen}
use Rattle.fields.specs.Digits.{digit_of}

-- r is the place of the first `mark` at or after a place, or the length
pub record EndAt (text : List ℕ) (from mark r : ℕ) : Type 0 where
  pub at_or_after : from ≤ r
  pub within : r ≤ length text
  pub none_before : (k : ℕ) → k < r → from ≤ k → get_or text k 0 ≡ mark → ⊥
  pub marked : r < length text → get_or text r 0 ≡ mark

-- a digit's value, 16 for another character
unfoldable pub value_of : Option ℕ → ℕ
value_of (Some value) = value
value_of None = 16

-- the value of a byte as a digit 0-9 or A-F, 16 for another byte
unfoldable pub digit_value : ℕ → ℕ
digit_value x = value_of (digit_of x)

-- whether two bytes are digits
unfoldable pub are_digits : ℕ → ℕ → Bool
are_digits x y = cond (ltb (digit_value x) 16) (ltb (digit_value y) 16) false

-- the byte that two digits spell
unfoldable pub byte_of : ℕ → ℕ → ℕ
byte_of x y = 16 * digit_value x + digit_value y

-- the bytes that pairs of digits spell, up to the first pair that has another byte in it or the last whole pair
unfoldable pub bytes_spelled : List ℕ → List ℕ
bytes_spelled [] = []
bytes_spelled (x ∷ []) = []
bytes_spelled (x ∷ y ∷ more) = cond (are_digits x y) (byte_of x y ∷ bytes_spelled more) []

-- a number with one decimal digit more; the number itself where the byte is no digit 0-9 or there is no room for it
unfoldable pub with_digit : ℕ → ℕ → ℕ
with_digit n x =
    cond (ltb (digit_value x) 10) (cond (ltb (10 * n + digit_value x) 18446744073709551616) (10 * n + digit_value x) n) n

-- a number with the decimal digits of a text after it
unfoldable pub with_digits : ℕ → List ℕ → ℕ
with_digits n [] = n
with_digits n (x ∷ more) = with_digits (with_digit n x) more

-- the number that decimal digits spell
abbrev pub number_spelled : List ℕ → ℕ
number_spelled text = with_digits 0 text

-- one more byte in front of the words of what follows it, `true` where it is a blank
unfoldable pub before : Bool → ℕ → List (List ℕ) → List (List ℕ)
before true x words = [] ∷ words
before false x [] = (x ∷ []) ∷ []
before false x (word ∷ words) = (x ∷ word) ∷ words

-- the words that blanks part, at least one
unfoldable pub parted_words : List ℕ → List (List ℕ)
parted_words [] = [] ∷ []
parted_words (x ∷ more) = before (eqb x 32) x (parted_words more)

-- the words of a text, each after one byte that parts it from what stands before
unfoldable pub words_of : List ℕ → List (List ℕ)
words_of [] = []
words_of (x ∷ more) = parted_words more

-- the numbers of the words of a text
unfoldable pub numbers_of : List ℕ → List ℕ
numbers_of text = map number_spelled (words_of text)

-- what stands in a text from the first `mark` on; nothing where there is none
unfoldable pub from_mark : ℕ → List ℕ → List ℕ
from_mark mark [] = []
from_mark mark (x ∷ more) = cond (eqb x mark) (x ∷ more) (from_mark mark more)

-- the start of a list in the first r places, as many of its numbers as there are places for, and the other places as they were
pub record PutIn (list places after : List ℕ) (r : ℕ) : Type 0 where
  pub count : r ≡ min (length places) (length list)
  pub is : after ≡ take r list ++ drop r places
  pub within : IsPrefixLen r after
