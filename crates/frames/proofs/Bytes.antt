-- What bytes decode to.
use Prim.Native.Nat.{ℕ, ◌+◌, ◌≤◌, ◌<◌}
use mathlib.Core.List.{List}
use mathlib.Core.Logic.{⊎_elim}
use mathlib.Core.Path.{◌≡◌, refl, sym, ap, ◌∙◌}
use native.Mathlib.Omega.{arith}
use lib.Dec.{lit≤}
use lib.ListN.{length, take}
use lib.Seq.{take_all, length-take-le}
use borrow.Author.Tests.{ne_eqb}
use Rattle.measures.proofs.Tests.{both_sides, le_or_lt}
use Rattle.std.specs.Prelude.{Ok, Err}
use Rattle.frames.specs.Frames.{frame_length, longest_frame, frame_of, kind_of, Decoded, decoded}

-- a frame, or refusal 3
abbrev FrameOrThree : Decoded → Type 0
FrameOrThree (Ok frame) = Unit {0}
FrameOrThree (Err number) = number ≡ 3

-- by the tests of the length and of each kind (`depth` is well above their number)
frame_or_three : (bytes : List ℕ) → FrameOrThree (decoded bytes)
unfolding decoded frame_of
frame_or_three bytes = search (both_sides FrameOrThree, tt) depth 20

-- bytes that are no frame are refused by 3 and by nothing else
pub decoded_three : (bytes : List ℕ) (number : ℕ) → decoded bytes ≡ Err number → number ≡ 3
decoded_three bytes number e = rw e at (frame_or_three bytes)

-- no kind is longer than the longest frame
length_most : (kind : ℕ) → frame_length kind ≤ longest_frame
unfolding frame_length
length_most kind = search (both_sides (λ (n : ℕ). n ≤ longest_frame), lit≤, tt) depth 20

decoded_long : (bytes : List ℕ) → longest_frame < length bytes → decoded bytes ≡ Err 3
unfolding decoded
decoded_long bytes h = rw (ne_eqb (length bytes) (frame_length (kind_of bytes)) (λ e. omega (arith, length_most (kind_of bytes)))) refl

-- one byte more than the longest frame has is enough to decode bytes of any length
pub decoded_front : (bytes : List ℕ) → decoded (take (longest_frame + 1) bytes) ≡ decoded bytes
decoded_front bytes =
    ⊎_elim
    (λ few. ap decoded (take_all (longest_frame + 1) bytes few))
    (λ many. decoded_long _ (front many) ∙ sym (decoded_long bytes (omega arith)))
    (le_or_lt (length bytes) (longest_frame + 1))
  where
    front : longest_frame + 1 < length bytes → longest_frame < length (take (longest_frame + 1) bytes)
    front many = omega (arith, length-take-le (longest_frame + 1) bytes (omega arith))
