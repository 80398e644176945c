-- "prints one line in the same digits, ended by 0A"
use Rattle.std.specs.Prelude.{ℕ, zero, suc, ◌+◌, ◌/◌, ◌%◌, ◌≡◌, cond, List, [], ◌∷◌, ◌++◌, ltb, length, take, drop, replicate, Ok, Err}
use Rattle.measures.specs.declared.Pence.{Pence}
use Rattle.rules.specs.Outcomes.{Outcome}
use Rattle.texts.specs.declared.PrintedLine.{PrintedLine}

-- the character of a digit: 0-9 from 48 on, A-F from 65 on
unfoldable pub character_of : ℕ → ℕ
character_of digit = cond (ltb digit 10) (48 + digit) (55 + digit)

-- the last so many digits of a number, the highest first
unfoldable pub digits_of : ℕ → ℕ → List ℕ
digits_of zero number = []
digits_of (suc count) number = digits_of count (number / 16) ++ character_of (number % 16) ∷ []

-- "two to a byte"
abbrev pub bytes_of_width : ℕ → ℕ → List ℕ
bytes_of_width width number = digits_of (width + width) number

-- an amount: "8 bytes each"
abbrev pub digits_of_amount : Pence → List ℕ
digits_of_amount amount = bytes_of_width 8 amount.0

-- "80, then net 2015 pension, net 1995 pension, net lump sum, charge, 8 bytes each; or EE, refusal 1 byte, line 2 bytes", "ended by 0A";
-- "The line that begins with 80 gains it as 2 last bytes" (2.6), the count of upward roundings
unfoldable pub printed_of : Outcome → List ℕ
printed_of (Ok a) =
    bytes_of_width 1 0x80 ++ digits_of_amount a.net_2015 ++ digits_of_amount a.net_1995
    ++ digits_of_amount a.net_lump_sum ++ digits_of_amount a.charge ++ bytes_of_width 2 a.ups ++ 0x0A ∷ []
printed_of (Err r) = bytes_of_width 1 0xEE ++ bytes_of_width 1 r.number ++ bytes_of_width 2 r.line ++ 0x0A ∷ []

-- the digits of the longest printed line: "66 digits", and four of the count
abbrev pub printed_digits : ℕ
printed_digits = 70

-- its bytes: the digits and 0A
abbrev pub printed_bytes : ℕ
printed_bytes = printed_digits + 1

-- the line that is printed: so many of the bytes, each of them, and noughts in the places past them
pub record Printed (o : Outcome) (p : PrintedLine) : Type 0 where
  pub count : p.count ≡ length (printed_of o)
  pub bytes : take p.count p.bytes ≡ printed_of o
  pub rest : drop p.count p.bytes ≡ drop p.count (replicate printed_bytes 0)
