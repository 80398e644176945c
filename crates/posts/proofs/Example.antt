-- Posts with supplements (2.7), and posts that start and stop (2.8), by computation over the definitions that the contracts cite.
use mathlib.Core.Path.{◌≡◌, refl}
use mathlib.Core.List.{List, [], ◌∷◌}
use Prim.Native.Nat.{ℕ}
use lib.ListN.{replicate}
use Rattle.measures.specs.declared.Way.{Way}
use Rattle.measures.specs.Rounding.{rounded, way}
use Rattle.measures.specs.Tries.{tried, after}
use Rattle.posts.specs.declared.Post.{Post}
use Rattle.std.proofs.Common.{Greater}
use Rattle.posts.specs.Posts.{post_of, parts, counted, counted_together, aggregate_pay, aggregate_way, aggregate}
use Rattle.posts.specs.Refusals.{post_stands, post_refusal}
use Rattle.posts.specs.Rates.{comparison}
use Rattle.posts.specs.Changes.{joins, leaves, without, position_refusal, change_refusal, changed_posts, remaining}

abbrev two : Post → Post → List Post
two x y = x ∷ y ∷ []

-- a year's aggregate and parts
abbrev Gives : List Post → ℕ → List ℕ → Type 0
Gives xs pence qs = (aggregate_pay xs ≡ pence) × (parts xs ≡ qs)

pub supplements_shown :
    -- a post in full, and one that is cut
    Gives (two (post_of 3 4 30 0) (post_of 3 4 0 36)) 39 (18 ∷ 6 ∷ []) ×
    -- equal rates: the earlier is in full
    Gives (two (post_of 6 10 60 0) (post_of 6 10 54 10)) 100 (72 ∷ 48 ∷ []) ×
    Gives (two (post_of 6 10 54 10) (post_of 6 10 60 0)) 104 (72 ∷ 48 ∷ []) ×
    Gives (two (post_of 6 10 60 0) (post_of 6 10 54 11)) 105 (48 ∷ 72 ∷ []) ×
    -- scenario E of source document 001
    Gives (two (post_of 1500 2250 2600000 200000) (post_of 960 2400 3200000 400000)) 6057333 (3317400 ∷ 2361600 ∷ []) ×
    -- a whole-time post, beside one at a higher rate
    Gives (two (post_of 2250 2250 2000000 50000) (post_of 300 2250 900000 700000)) 2050000 (5737500 ∷ 0 ∷ []) ×
    -- products of 71 bits, the first higher by 1
    Gives (two (post_of 10079 10080 999998148 915106033) (post_of 10067 10069 999991861 912922865)) 1914159018 (202960943 ∷ 0 ∷ []) ×
    (comparison (post_of 10079 10080 999998148 915106033) (post_of 10067 10069 999991861 912922865) ≡ Greater)
unfolding aggregate_pay counted counted_together rounded comparison
supplements_shown = ((refl, refl), (refl, refl), (refl, refl), (refl, refl), (refl, refl), (refl, refl), (refl, refl), refl)

-- once rounded: 107/7 and 7/3
pub supplements_rounded :
    (aggregate_pay (two (post_of 7 10 10 0) (post_of 7 10 9 2)) ≡ 15) ×
    (aggregate_way (two (post_of 7 10 10 0) (post_of 7 10 9 2)) ≡ Way.Down) ×
    (aggregate_pay (two (post_of 3 4 1 0) (post_of 3 4 1 1)) ≡ 2) ×
    (aggregate_way (two (post_of 3 4 1 0) (post_of 3 4 1 1)) ≡ Way.Down)
unfolding aggregate_pay aggregate_way counted counted_together rounded way
supplements_rounded = (refl, refl, refl, refl)

-- a rival with the second of the first two posts in full is worth 37 in minutes times rate, and not the 46 that p + s would make it
pub rival_shown : aggregate (two (post_of 3 4 30 0) (post_of 3 4 0 36)) (6 ∷ 18 ∷ []) ≡ 37
unfolding aggregate rounded
rival_shown = refl

-- the limit of a supplement, within 7 and before 8
pub supplement_limits :
    (post_refusal [] (post_of 1 1 0 1000000000) ≡ 0) ×
    (post_refusal [] (post_of 1 1 0 1000000001) ≡ 7) ×
    (post_refusal (post_of 1 1 0 0 ∷ []) (post_of 2 2 0 1000000000) ≡ 8) ×
    (post_refusal (post_of 1 1 0 0 ∷ []) (post_of 2 2 0 1000000001) ≡ 7)
unfolding post_stands post_refusal
supplement_limits = (refl, refl, refl, refl)

-- ---- posts that start and stop: 20 h of 37.5 h at £10,000 and at £12,000, and a whole-time post at £20,000

abbrev lower : Post
lower = post_of 1200 2250 1000000 0

abbrev higher : Post
higher = post_of 1200 2250 1200000 0

abbrev whole : Post
whole = post_of 2250 2250 2000000 0

pub changes_shown :
    -- the posts that remain, worked afresh: two join, the first leaves
    Gives (remaining (joins lower ∷ joins higher ∷ [])) 2075000 (2520000 ∷ 2880000 ∷ []) ×
    Gives (remaining (joins lower ∷ joins higher ∷ leaves 1 ∷ [])) 1200000 (1440000 ∷ []) ×
    -- a whole-time post joins, a second is refused, the first leaves, and another may join
    Gives (remaining (joins higher ∷ joins whole ∷ joins whole ∷ [])) 2000000 (0 ∷ 7762500 ∷ []) ×
    Gives (remaining (joins higher ∷ joins whole ∷ joins whole ∷ leaves 2 ∷ joins lower ∷ [])) 2075000 (2880000 ∷ 2520000 ∷ []) ×
    (remaining (joins whole ∷ leaves 1 ∷ joins whole ∷ []) ≡ whole ∷ []) ×
    -- a refused change alters nothing; later ones move up
    (remaining (joins lower ∷ leaves 2 ∷ joins (post_of 2251 2250 1 0) ∷ leaves 0 ∷ joins higher ∷ []) ≡ two lower higher) ×
    (remaining (joins lower ∷ joins higher ∷ joins whole ∷ leaves 2 ∷ []) ≡ two lower whole)
unfolding aggregate_pay counted counted_together rounded post_stands post_refusal tried after without position_refusal change_refusal changed_posts remaining
changes_shown = ((refl, refl), (refl, refl), (refl, refl), (refl, refl), refl, refl, refl)

-- positions from 1; 7 and 8 after the posts that are there
pub changes_refused :
    (change_refusal [] (leaves 0) ≡ 29) ×
    (change_refusal [] (leaves 1) ≡ 29) ×
    (change_refusal (two lower higher) (leaves 0) ≡ 29) ×
    (change_refusal (two lower higher) (leaves 1) ≡ 0) ×
    (change_refusal (two lower higher) (leaves 2) ≡ 0) ×
    (change_refusal (two lower higher) (leaves 3) ≡ 29) ×
    (change_refusal (two lower higher) (leaves 18446744073709551615) ≡ 29) ×
    (change_refusal (two whole lower) (joins whole) ≡ 8) ×
    (change_refusal (replicate 15 lower) (joins lower) ≡ 0) ×
    (change_refusal (replicate 16 lower) (joins lower) ≡ 7)
unfolding post_stands post_refusal position_refusal change_refusal
changes_refused = (refl, refl, refl, refl, refl, refl, refl, refl, refl, refl)
