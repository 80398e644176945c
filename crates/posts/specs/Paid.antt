-- What a year's posts count and its way, as the code runs them up.
use Rattle.std.specs.Prelude.{ℕ, ◌+◌, ◌*◌, List, [], ◌∷◌}
use Rattle.measures.specs.declared.Way.{Way}
use Rattle.measures.specs.Rounding.{rounded, way}
use Rattle.posts.specs.declared.Post.{Post}
use Rattle.posts.specs.Posts.{rate_under, counted}

-- What posts count with each of them rounded by itself, H parts to a minute. It is not the sum rounded once, but for the parts of a
-- year's posts it is equal (`aggregate_closed`).
unfoldable pub paid : ℕ → List Post → List ℕ → ℕ
paid H [] cs = 0
paid H (x ∷ xs) [] = 0
paid H (x ∷ xs) (a ∷ cs) = rounded (counted H x a) (rate_under x * H) + paid H xs cs

-- of two roundings of which one at most is not exact, the way of both together
unfoldable pub either_way : Way → Way → Way
either_way Way.Exact other = other
either_way Way.Down other = Way.Down
either_way Way.Up other = Way.Up

-- Which way those roundings went together. For the parts of a year's posts it is the way of the sum rounded once (`way_closed`).
unfoldable pub paid_way : ℕ → List Post → List ℕ → Way
paid_way H [] cs = Way.Exact
paid_way H (x ∷ xs) [] = Way.Exact
paid_way H (x ∷ xs) (a ∷ cs) = either_way (way (counted H x a) (rate_under x * H)) (paid_way H xs cs)
