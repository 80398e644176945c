-- What two digits are, and the pairs of a text one after the other.
use Prim.Native.Nat.{ℕ, ◌+◌, ◌*◌, ◌≤◌, ◌<◌}
use mathlib.Core.Bool.{Bool, true, false, cond}
use mathlib.Core.List.{List, [], ◌∷◌}
use mathlib.Core.Path.{◌≡◌, refl, ap, ◌∙◌, sym}
use lib.ListN.{length, get_or, drop, length-drop}
use native.Mathlib.Omega.{arith}
use Rattle.std.proofs.Common.{Some, None}
use Rattle.input.proofs.Rest.{rest_at}
use Rattle.input.specs.Script.{are_digits, byte_of, bytes_spelled, value_of, digit_value}
use Rattle.std.specs.Prelude.{Option}
use Rattle.fields.specs.Digits.{digit_of}
use Rattle.fields.proofs.Digits.{digit_small}

-- whether there is a byte says whether both are digits
pub read_byte : (digits : Bool) {v w : ℕ} → Some v ≡ cond digits (Some w) None → (digits ≡ true) × (v ≡ w)
read_byte true e = (refl, cc)
read_byte false e = cc

pub no_byte : (digits : Bool) (w : ℕ) → None ≡ cond digits (Some w) None → digits ≡ false
no_byte true w e = cc
no_byte false w e = refl

two_on : (text : List ℕ) (at : ℕ) → at + 1 < length text → drop at text ≡ get_or text at 0 ∷ get_or text (at + 1) 0 ∷ drop (at + 2) text
two_on text at l =
    let next : at + 1 + 1 ≡ at + 2 = omega arith in
    rest_at text at 0 (omega arith)
    ∙ ap (λ (rest : List ℕ). get_or text at 0 ∷ rest) (rest_at text (at + 1) 0 l)
    ∙ ap (λ (k : ℕ). get_or text at 0 ∷ get_or text (at + 1) 0 ∷ drop k text) next

short : (text : List ℕ) → length text ≤ 1 → bytes_spelled text ≡ []
unfolding bytes_spelled
short [] l = refl
short (x ∷ []) l = refl
short (x ∷ y ∷ more) l = absurd (omega arith)

-- the pair of the n-th byte
module _ (text : List ℕ) (n : ℕ) where
  pub pair_more : 2 * n + 1 < length text → are_digits (get_or text (2 * n) 0) (get_or text (2 * n + 1) 0) ≡ true → bytes_spelled (drop (2 * n) text) ≡ byte_of (get_or text (2 * n) 0) (get_or text (2 * n + 1) 0) ∷ bytes_spelled (drop (2 * (n + 1)) text)
  unfolding bytes_spelled
  pair_more l d =
      let next : 2 * n + 2 ≡ 2 * (n + 1) = omega arith in
      rw (two_on text (2 * n) l, d, next)

  pub pair_other : 2 * n + 1 < length text → are_digits (get_or text (2 * n) 0) (get_or text (2 * n + 1) 0) ≡ false → bytes_spelled (drop (2 * n) text) ≡ []
  unfolding bytes_spelled
  pair_other l d = rw (two_on text (2 * n) l, d)

  pub pair_none : length text ≤ 2 * n + 1 → bytes_spelled (drop (2 * n) text) ≡ []
  pair_none l = short _ (simp length-drop (omega arith))

-- the value of a digit
pub value_of_lem : {d : Option ℕ} {v : ℕ} (x : ℕ) → d ≡ digit_of x → d ≡ Some v → (v ≡ digit_value x) × (v ≤ 16)
unfolding digit_value value_of
value_of_lem {d} {v} x is e = (rw (← is, e) refl, omega (arith, digit_small x v (sym is ∙ e)))
