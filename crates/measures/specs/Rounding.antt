-- Rounding, as document 01 defines it: ""Rounded" means to the nearest whole number, a half upward."
use Rattle.std.specs.Prelude.{ℕ, ◌+◌, ◌*◌, ◌/◌, cond, eqb, ltb}
use Rattle.measures.specs.declared.Way.{Way}

-- n/d rounded: the whole part of n/d + 1/2
unfoldable pub rounded : ℕ → ℕ → ℕ
rounded n d = (2 * n + d) / (2 * d)

-- "whether it was exact, went down or went up" (2.6): the number against n/d
unfoldable pub way : ℕ → ℕ → Way
way n d = cond (eqb (rounded n d * d) n) Way.Exact (cond (ltb (rounded n d * d) n) Way.Down Way.Up)

-- what a rounding adds to "the count of its upward roundings" (2.6)
unfoldable pub upward : Way → ℕ
upward Way.Exact = 0
upward Way.Down = 0
upward Way.Up = 1
