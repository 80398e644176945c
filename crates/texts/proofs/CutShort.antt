-- A text whose last byte is not 0A is not worked: what the case program hands on after a failed read never passes for a whole text.
use Rattle.std.specs.Prelude.{Ok}
use Prim.Native.Nat.{ℕ}
use mathlib.Core.Path.{◌≡◌, refl}
use mathlib.Core.List.{List, [], ◌∷◌, ◌++◌}
use mathlib.Core.Bool.{Bool, true, false}
use lib.Dec.{eqb}
use borrow.Author.Tests.{eqb-true}
use native.Mathlib.Omega.{arith}
use Rattle.measures.specs.Tries.{Unrefused, more}
use Rattle.rules.specs.declared.Amounts.{Amounts}
use Rattle.rules.specs.Rules.{Kept, nothing, refusal_of_decoded, keep_decoded}
use Rattle.texts.specs.Text.{Line, ended, unended, character_then, lines_of, line_bytes, decoded_line, frames_of_lines, frames_of, work_text}
use Rattle.texts.proofs.Worked.{text_unrefused}

-- one of the lines is ended by no 0A
data Unended : List Line → Type 0 where
  here : {cs : List ℕ} {ls : List Line} → Unended (unended cs ∷ ls)
  there : {l : Line} {ls : List Line} → Unended ls → Unended (l ∷ ls)

in_front : (b : Bool) (x : ℕ) (ls : List Line) → Unended ls → Unended (character_then b x ls)
unfolding character_then
in_front true x ls u = there u
in_front false x (ended cs ∷ ls) (there u) = there u
in_front false x (unended cs ∷ ls) u = here
in_front false x [] u = elim u [ ]

last_unended : (text : List ℕ) (x : ℕ) → (x ≡ 10 → ⊥) → Unended (lines_of (text ++ x ∷ []))
unfolding lines_of character_then
last_unended [] x other = by (eqb x 10) refl
  where
    by : (t : Bool) → eqb x 10 ≡ t → Unended (character_then t x [])
    by true e = absurd (other (eqb-true x 10 e))
    by false e = here
last_unended (y ∷ rest) x other = in_front (eqb y 10) y (lines_of (rest ++ x ∷ [])) (last_unended rest x other)

-- such a line is refused by 2
line_refused : (k : Kept) (ls : List Line) → Unended ls → Unrefused refusal_of_decoded keep_decoded k (frames_of_lines ls) → ⊥
unfolding refusal_of_decoded line_bytes decoded_line
line_refused k (unended cs ∷ ls) here (more e rest) = omega (arith, e)
line_refused k (l ∷ ls) (there u) (more e rest) = line_refused (keep_decoded k (decoded_line (line_bytes l))) ls u rest
line_refused k [] x'' _ = elim x'' [ ]

pub cut_short : (text : List ℕ) (x : ℕ) → (x ≡ 10 → ⊥) → (a : Amounts) → work_text (text ++ x ∷ []) ≡ Ok a → ⊥
unfolding frames_of
cut_short text x other a e = line_refused nothing (lines_of (text ++ x ∷ [])) (last_unended text x other) (text_unrefused (text ++ x ∷ []) a e)
