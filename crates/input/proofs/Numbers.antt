-- A number read digit by digit.
use Prim.Native.Nat.{ℕ}
use mathlib.Core.List.{List, [], ◌∷◌}
use mathlib.Core.Path.{◌≡◌, refl}
use Rattle.std.proofs.Common.{fold}
use Rattle.input.specs.Script.{with_digit, with_digits}

pub folded : (n : ℕ) (text : List ℕ) → fold with_digit n text ≡ with_digits n text
unfolding with_digits
folded n [] = refl
folded n (x ∷ more) = folded (with_digit n x) more
