-- The rates of two posts compared, and the minutes of the posts that go before another.
use Rattle.std.specs.Prelude.{ℕ, zero, suc, ◌+◌, Bool, true, false, cond, List, [], ◌∷◌, ltb}
use Rattle.std.specs.Ordering.{is_gt, is_eq}
use Rattle.std.specs.declared.cmp.Ordering.{Ordering}
use Rattle.std.specs.declared.cmp.Ordering.TheVariants.{Greater, Less, Equal}
use Rattle.posts.specs.declared.Post.{Post}
use Rattle.posts.specs.Division.{Claim, higher, no_lower}
use Rattle.posts.specs.Posts.{h, claim}

-- a post by its rate alone
abbrev pub by_rate : Post → Claim
by_rate x = claim 0 x

-- "higher, lower or equal": one number beside another
unfoldable pub ordered : ℕ → ℕ → Ordering
ordered a b = cond (ltb b a) Greater (cond (ltb a b) Less Equal)

-- the rate of x is higher than, lower than or equal to that of y, as the cross products of the two fractions are
unfoldable pub comparison : Post → Post → Ordering
comparison x y =
    cond (higher (by_rate y) (by_rate x)) Greater
    (cond (higher (by_rate x) (by_rate y)) Less
    Equal)

-- whether an answer is "higher", and whether it is "equal"
abbrev pub is_higher : Ordering → Bool
is_higher = is_gt

abbrev pub is_equal : Ordering → Bool
is_equal = is_eq

-- whether y goes before x: "of equal rates the post earlier in the list goes first"
abbrev pub ranked_before : Post → Bool → Post → Bool
ranked_before x earlier y = cond earlier (no_lower (by_rate x) (by_rate y)) (higher (by_rate x) (by_rate y))

-- the minutes of the posts that go before x, the first k of the list being those earlier than x
unfoldable pub minutes_ahead : Post → ℕ → List Post → ℕ
minutes_ahead x k [] = 0
minutes_ahead x zero (y ∷ ys) = cond (ranked_before x false y) (h y) 0 + minutes_ahead x zero ys
minutes_ahead x (suc k) (y ∷ ys) = cond (ranked_before x true y) (h y) 0 + minutes_ahead x k ys
