-- An array of so many places that holds the front of a list which grows at its end.
use Prim.Native.Nat.{ℕ, ◌+◌, ◌≤◌, ◌<◌, min}
use mathlib.Core.Path.{◌≡◌, sym, ap, ◌∙◌}
use mathlib.Core.List.{List, [], ◌∷◌, ◌++◌}
use native.Mathlib.Omega.{arith}
use native.Mathlib.Numerals.{add-one}
use lib.ListN.{length, take, set, length-append, length-set}
use lib.Seq.{take_all, take-append-le, take-suc-set}

-- the first `n` places are the front of the list, as much of it as there is room for
pub record Held (room : ℕ) (list bytes : List ℕ) (n : ℕ) : Type 0 where
  pub size : length bytes ≡ room
  pub count : n ≡ min room (length list)
  pub front : take n bytes ≡ take room list

-- of no bytes
pub held_none : (room : ℕ) (bytes : List ℕ) → length bytes ≡ room → Held room [] bytes 0
held_none room bytes e = record { size = e; count = omega arith; front = sym (take_all room [] (omega arith)) }

module _ {room : ℕ} {list bytes : List ℕ} {n : ℕ} (held : Held room list bytes n) (b : ℕ) where
  -- there is a place for one more
  pub held_more : n < room → Held room (list ++ b ∷ []) (set bytes n b) (n + 1)
  held_more f = record {
    size = rw length-set held.size;
    count = rw length-append (omega arith);
    front =
        rw add-one (take-suc-set bytes n b (omega arith))
        ∙ ap (λ (l : List ℕ). l ++ b ∷ []) (held.front ∙ take_all room list (omega arith))
        ∙ sym (take_all room (list ++ b ∷ []) (rw length-append (omega arith)));
  }

  -- all places are taken: one more is passed over
  pub held_full : room ≤ n → Held room (list ++ b ∷ []) bytes n
  held_full f = record {
    size = held.size;
    count = rw length-append (omega arith);
    front = held.front ∙ sym (take-append-le room list (b ∷ []) (omega arith));
  }
