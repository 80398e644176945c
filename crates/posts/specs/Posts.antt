-- "Posts of a year": the parts that each post gets, and the aggregate pay.
use Rattle.std.specs.Prelude.{◌≡◌, ℕ, ◌+◌, ◌*◌, ◌≤◌, ◌<◌, Bool, true, false, cond, List, [], ◌∷◌, eqb}
use Rattle.measures.specs.declared.Way.{Way}
use Rattle.measures.specs.Rounding.{rounded, way}
use Rattle.posts.specs.Division.{Claim, division, AllowedParts, numerator, denominator}
use Rattle.posts.specs.declared.Post.{Post}

-- "Post i has contracted minutes h,
abbrev pub h : Post → ℕ
h x = x.contracted.0

-- whole-time minutes w,
abbrev pub w : Post → ℕ
w x = x.whole.0

-- yearly pay p in pence."
abbrev pub p : Post → ℕ
p x = x.pay.0

-- "A post gains a supplement s" (2.7), in pence a year
abbrev pub s : Post → ℕ
s x = x.supplement.0

-- a post of h, w, p and s
abbrev pub post_of : ℕ → ℕ → ℕ → ℕ → Post
post_of minutes week pence more =
    record { contracted = record { 0 = minutes }; whole = record { 0 = week }; pay = record { 0 = pence }; supplement = record { 0 = more } }

-- it has contracted minutes, and no more of them than whole-time ones, so that it has a rate
abbrev pub HasMinutes : Post → Type 0
HasMinutes x = (0 < h x) × (h x ≤ w x)

-- it has no supplement
abbrev pub NoSupplement : Post → Type 0
NoSupplement x = s x ≡ 0

-- "H is the sum of h"
abbrev pub contracted_minutes : List Post → ℕ
contracted_minutes [] = 0
contracted_minutes (x ∷ xs) = h x + contracted_minutes xs

-- "and K the sum of w × h, so the weighted week is K/H minutes": document 01's weighted week, in parts
abbrev pub weighted_parts : List Post → ℕ
weighted_parts [] = 0
weighted_parts (x ∷ xs) = w x * h x + weighted_parts xs

-- "Its rate is (p × w/h + s)/w" (2.7), pence for a minute, which is (p × w + s × h)/(w × h): what stands above the line
abbrev pub rate_over : Post → ℕ
rate_over x = p x * w x + s x * h x

-- and below it
abbrev pub rate_under : Post → ℕ
rate_under x = w x * h x

-- Parts, as document 01 defines them: "Time is counted in parts, H parts to a minute. Post i may have up to h × H parts"; "parts go to
-- the highest such rate first" (2.7)
abbrev pub claim : ℕ → Post → Claim
claim H x = record { most = h x * H; n = rate_over x; d = rate_under x }

-- the claims of all posts
abbrev pub claims : ℕ → List Post → List Claim
claims H [] = []
claims H (x ∷ xs) = claim H x ∷ claims H xs

-- a whole-time post: "h = w"
abbrev pub whole_time : Post → Bool
whole_time x = eqb (h x) (w x)

-- "If one post has h = w"
abbrev pub any_whole_time : List Post → Bool
any_whole_time [] = false
any_whole_time (x ∷ xs) = cond (whole_time x) true (any_whole_time xs)

-- "it gets all its h × H parts, even where they pass K, the others none"
abbrev pub whole_time_parts : ℕ → List Post → List ℕ
whole_time_parts H [] = []
whole_time_parts H (x ∷ xs) = cond (whole_time x) (h x * H) 0 ∷ whole_time_parts H xs

-- the parts of each post, in list order: otherwise "all posts together up to K", the highest rate first
abbrev pub parts : List Post → List ℕ
parts xs =
    cond (any_whole_time xs)
    (whole_time_parts (contracted_minutes xs) xs)
    (division (weighted_parts xs) (claims (contracted_minutes xs) xs))

-- "A post in full counts p + s; a curtailed one counts its minutes times its rate; a lone whole-time post counts p + s." (2.7) What a post
-- counts for q parts, as a fraction: what stands above the line, with w × h × H below it. In full, a post has all its parts.
unfoldable pub counted : ℕ → Post → ℕ → ℕ
counted H x q = cond (eqb q (h x * H)) ((p x + s x) * (rate_under x * H)) (q * rate_over x)

-- the sum of what the posts count, above the line, by a/b + c/d = (a × d + c × b)/(b × d)
unfoldable pub counted_together : ℕ → List Post → List ℕ → ℕ
counted_together H [] qs = 0
counted_together H (x ∷ xs) [] = 0
counted_together H (x ∷ xs) (q ∷ qs) = counted H x q * denominator (claims H xs) + counted_together H xs qs * rate_under x

-- and below it
abbrev pub sum_under : List Post → ℕ
sum_under xs = denominator (claims (contracted_minutes xs) xs) * contracted_minutes xs

-- the aggregate of a year's posts: that sum, "rounded once"; "Rounding is still once a year." (2.7) "No posts: aggregate 0."
unfoldable pub aggregate_pay : List Post → ℕ
aggregate_pay xs = rounded (counted_together (contracted_minutes xs) xs (parts xs)) (sum_under xs)

-- "Every step that rounds passes that on" (2.6): which way the year's one rounding went
unfoldable pub aggregate_way : List Post → Way
aggregate_way xs = way (counted_together (contracted_minutes xs) xs (parts xs)) (sum_under xs)

-- What any division of the parts is worth: "best in minutes times rate, which is how the rival workings are then valued" (2.7), full posts
-- too, rounded once. Without a supplement it is document 01's sum of parts × p/(h × H) (`plain_worth`).
unfoldable pub aggregate : List Post → List ℕ → ℕ
aggregate xs qs = rounded (numerator (claims (contracted_minutes xs) xs) qs) (sum_under xs)

-- A rival's parts of one year: "A rival picks, for each post of each year, any whole number of parts from 0 to h × H, together at most that year's K;
-- in a year with a post of h = w it has instead the parts that the posts step gives, even where they pass K."
abbrev pub RivalIf : Bool → List Post → List ℕ → Type 0
RivalIf true xs qs = qs ≡ parts xs
RivalIf false xs qs = AllowedParts (weighted_parts xs) (claims (contracted_minutes xs) xs) qs

-- the same by whether a post has h = w
abbrev pub Rival : List Post → List ℕ → Type 0
Rival xs qs = RivalIf (any_whole_time xs) xs qs
