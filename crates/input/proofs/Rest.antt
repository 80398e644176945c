-- What is left of a list from a place on.
use Prim.Native.Nat.{ℕ, ◌+◌, ◌<◌}
use mathlib.Core.List.{List, ◌∷◌}
use mathlib.Core.Path.{◌≡◌}
use native.Mathlib.Numerals.{add-one}
use lib.ListN.{length, get_or, drop}
use lib.Seq.{drop-cons}

pub rest_at : {A : Type 0} (list : List A) (at : ℕ) (none : A) → at < length list → drop at list ≡ get_or list at none ∷ drop (at + 1) list
rest_at list at none l = rw (add-one, drop-cons list at none l)
