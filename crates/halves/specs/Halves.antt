-- "Some products pass 64 bits and have to be carried in two halves." (2.7)
use Rattle.std.specs.Prelude.{ℕ, ◌+◌, ◌*◌, ◌<◌}
use Rattle.halves.specs.declared.Halves.{Halves}

-- what one of the upper half stands for: 2^32
abbrev pub half : ℕ
half = 4294967296

-- the number that the halves stand for
unfoldable pub value_of : Halves → ℕ
value_of x = x.upper * half + x.lower

-- what passes the lower half is carried into the upper
abbrev pub Carried : Halves → Type 0
Carried x = x.lower < half
