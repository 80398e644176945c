-- Without a supplement the aggregate does not depend on the order of the posts.
use mathlib.Core.Path.{◌≡◌, refl, sym, ◌∙◌, ap, ap₂, subst}
use mathlib.Core.Bool.{Bool, true, false, cond}
use mathlib.Core.List.{List, [], ◌∷◌}
use Prim.Native.Nat.{ℕ, ◌+◌, ◌*◌, ◌≤◌}
use native.Mathlib.Nat.{le_antisymm, le_of_eq, le_trans}
use native.Mathlib.Omega.{arith}
use Rattle.measures.specs.Lists.{All}
use Rattle.measures.specs.Rounding.{rounded}
use Rattle.posts.specs.declared.Post.{Post}
use Rattle.posts.specs.Division.{numerator, denominator, Within, nothing, more, total}
use Rattle.posts.specs.Posts.{h, w, p, s, HasMinutes, NoSupplement, contracted_minutes, weighted_parts, rate_over, rate_under, claims, aggregate, aggregate_pay, whole_time, any_whole_time, parts, RivalIf}
use Rattle.posts.proofs.Aggregate.{optimal, plain_aggregate, parts_allowed, whole_time_pay, aggregate_whole_time}

-- the same posts in another order
pub data Reordered : List Post → List Post → Type 0 where
  same : Reordered [] []
  keep : {x : Post} {xs ys : List Post} → Reordered xs ys → Reordered (x ∷ xs) (x ∷ ys)
  swap : {x y : Post} {xs : List Post} → Reordered (x ∷ y ∷ xs) (y ∷ x ∷ xs)
  chain : {xs ys zs : List Post} → Reordered xs ys → Reordered ys zs → Reordered xs zs

back : {xs ys : List Post} → Reordered xs ys → Reordered ys xs
back same = same
back (keep r) = keep (back r)
back swap = swap
back (chain r s) = chain (back s) (back r)

-- what does not depend on the order
record Alike (xs ys : List Post) : Type 0 where
  minutes : contracted_minutes xs ≡ contracted_minutes ys
  weights : weighted_parts xs ≡ weighted_parts ys
  pays : whole_time_pay xs ≡ whole_time_pay ys
  tests : any_whole_time xs ≡ any_whole_time ys
  works : All HasMinutes xs → All HasMinutes ys
  plains : All NoSupplement xs → All NoSupplement ys

alike : {xs ys : List Post} → Reordered xs ys → Alike xs ys
unfolding whole_time_pay
alike same = record { minutes = refl; weights = refl; pays = refl; tests = refl; works = λ u. u; plains = λ u. u }
alike (keep {x = x} r) =
    let a : Alike _ _ = alike r in
    record { minutes = ap (λ n. h x + n) a.minutes; weights = ap (λ n. w x * h x + n) a.weights; pays = ap (λ n. cond (whole_time x) (p x + s x) 0 + n) a.pays; tests = ap (λ b. cond (whole_time x) true b) a.tests; works = λ u. (u.0, a.works u.1); plains = λ u. (u.0, a.plains u.1) }
alike (swap {x = x} {y = y} {xs = xs}) =
    record { minutes = omega arith; weights = omega arith; pays = omega arith; tests = either (whole_time x) (whole_time y) (any_whole_time xs); works = λ u. (u.1.0, (u.0, u.1.1)); plains = λ u. (u.1.0, (u.0, u.1.1)) }
  where
    either : (a b c : Bool) → cond a true (cond b true c) ≡ cond b true (cond a true c)
    either true true c = refl
    either true false c = refl
    either false true c = refl
    either false false c = refl
alike (chain r s) =
    let a : Alike _ _ = alike r in
    let b : Alike _ _ = alike s in
    record { minutes = a.minutes ∙ b.minutes; weights = a.weights ∙ b.weights; pays = a.pays ∙ b.pays; tests = a.tests ∙ b.tests; works = λ u. b.works (a.works u); plains = λ u. b.plains (a.plains u) }

denominators : (H : ℕ) {xs ys : List Post} → Reordered xs ys → denominator (claims H xs) ≡ denominator (claims H ys)
denominators H same = refl
denominators H (keep {x = x} r) = ap (λ n. rate_under x * n) (denominators H r)
denominators H swap = omega arith
denominators H (chain r s) = denominators H r ∙ denominators H s

-- a division goes along with the posts
record Moved (H : ℕ) (xs : List Post) (qs : List ℕ) (ys : List Post) : Type 0 where
  division : List ℕ
  within : Within (claims H ys) division
  together : total division ≡ total qs
  worth : numerator (claims H ys) division ≡ numerator (claims H xs) qs

move : (H : ℕ) {xs ys : List Post} {qs : List ℕ} → Reordered xs ys → Within (claims H xs) qs → Moved H xs qs ys
move H same nothing = record { division = []; within = nothing; together = refl; worth = refl }
move H (keep {x = x} r) (more {q = q} g k) =
    let m = move H r k in
    record { division = q ∷ m.division; within = more g m.within; together = ap (λ n. q + n) m.together; worth = ap₂ (λ d n. q * rate_over x * d + n * rate_under x) (sym (denominators H r)) m.worth }
move H swap (more {q = a} g (more {q = b} {qs = qs} k l)) = record { division = b ∷ a ∷ qs; within = more k (more g l); together = omega arith; worth = omega arith }
move H (chain r s) k =
    let m = move H r k in
    let n = move H s m.within in
    record { division = n.division; within = n.within; together = n.together ∙ m.together; worth = n.worth ∙ m.worth }

one_way : {xs ys : List Post} → Reordered xs ys → All HasMinutes xs → All NoSupplement xs → any_whole_time xs ≡ false → aggregate_pay xs ≤ aggregate_pay ys
unfolding aggregate
one_way {xs} {ys} r u v e =
    le_trans
    (le_of_eq (plain_aggregate xs v ∙ ap₂ rounded (sym m.worth) (ap (λ (d : ℕ). d * H) (denominators H r)) ∙ ap (λ (n : ℕ). rounded (numerator (claims n ys) m.division) (denominator (claims n ys) * n)) a.minutes))
    (optimal ys m.division (a.works u) (subst (λ (b : Bool). RivalIf b ys m.division) (sym e ∙ a.tests) (record { each = within; together = omega (arith, m.together, own.together, a.weights) })))
  where
    H : ℕ
    H = contracted_minutes xs

    a : Alike xs ys
    a = alike r

    own : RivalIf false xs (parts xs)
    own = subst (λ (b : Bool). RivalIf b xs (parts xs)) e (parts_allowed xs u)

    m : Moved H xs (parts xs) ys
    m = move H r own.each

    within : Within (claims (contracted_minutes ys) ys) m.division
    within = subst (λ (n : ℕ). Within (claims n ys) m.division) a.minutes m.within

pub order_free : {xs ys : List Post} → Reordered xs ys → All HasMinutes xs → All NoSupplement xs → aggregate_pay xs ≡ aggregate_pay ys
order_free {xs} {ys} r u v = by (any_whole_time xs) refl
  where
    a : Alike xs ys
    a = alike r

    by : (b : Bool) → any_whole_time xs ≡ b → aggregate_pay xs ≡ aggregate_pay ys
    by true e = aggregate_whole_time xs u e ∙ a.pays ∙ sym (aggregate_whole_time ys (a.works u) (sym a.tests ∙ e))
    by false e = le_antisymm (one_way r u v e) (one_way (back r) (a.works u) (a.plains v) (sym a.tests ∙ e))
