-- Document 01's posts of a year, before there was a supplement: "without one, document 01's comparison holds" (2.7).
use Rattle.std.specs.Prelude.{ℕ, ◌*◌, cond, List, [], ◌∷◌}
use Rattle.measures.specs.declared.Way.{Way}
use Rattle.measures.specs.Rounding.{rounded, way}
use Rattle.posts.specs.declared.Post.{Post}
use Rattle.posts.specs.Division.{Claim, division, numerator, denominator}
use Rattle.posts.specs.Posts.{h, p, contracted_minutes, weighted_parts, any_whole_time, whole_time_parts}

-- "Post i may have up to h × H parts"; its rate is p/h
abbrev pub claim01 : ℕ → Post → Claim
claim01 H x = record { most = h x * H; n = p x; d = h x }

-- the claims of all posts
abbrev pub claims01 : ℕ → List Post → List Claim
claims01 H [] = []
claims01 H (x ∷ xs) = claim01 H x ∷ claims01 H xs

-- the parts of each post, in list order
abbrev pub parts01 : List Post → List ℕ
parts01 xs =
    cond (any_whole_time xs)
    (whole_time_parts (contracted_minutes xs) xs)
    (division (weighted_parts xs) (claims01 (contracted_minutes xs) xs))

-- "the sum of parts × p/(h × H), rounded once", for any division of the parts; "No posts: aggregate 0."
unfoldable pub aggregate01 : List Post → List ℕ → ℕ
aggregate01 xs qs =
    rounded (numerator (claims01 (contracted_minutes xs) xs) qs) (denominator (claims01 (contracted_minutes xs) xs) * contracted_minutes xs)

-- which way that one rounding went, for the parts of each post (2.6)
unfoldable pub aggregate_way01 : List Post → Way
aggregate_way01 xs =
    way (numerator (claims01 (contracted_minutes xs) xs) (parts01 xs)) (denominator (claims01 (contracted_minutes xs) xs) * contracted_minutes xs)
