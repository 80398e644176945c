-- Where no post of a case has a supplement, our aggregates and every rival's are document 01's, and with them every amount and every net.
use Prim.Native.Nat.{ℕ}
use mathlib.Core.Path.{◌≡◌, refl, ap₂}
use mathlib.Core.List.{List, [], ◌∷◌}
use Rattle.measures.specs.Lists.{All}
use Rattle.posts.proofs.Plain.{plain_year, plain_worth}
use Rattle.rules.specs.Rules.{WorkedYear}
use Rattle.rules.specs.Working.{own_aggregates, rival_aggregates}
use Rattle.rules.specs.Plain.{PlainYear, own_aggregates01, rival_aggregates01}
use Rattle.rules.proofs.Largest.{WorkedPosts}

pub plain_own : (ys : List WorkedYear) → All WorkedPosts ys → All PlainYear ys → own_aggregates ys ≡ own_aggregates01 ys
plain_own [] k n = refl
plain_own (y ∷ ys) k n = ap₂ (λ (a : ℕ) (l : List ℕ). a ∷ l) (plain_year y.posts k.0 n.0) (plain_own ys k.1 n.1)

pub plain_rivals : (ys : List WorkedYear) (qs : List (List ℕ)) → All WorkedPosts ys → All PlainYear ys → rival_aggregates ys qs ≡ rival_aggregates01 ys qs
plain_rivals [] qs k n = refl
plain_rivals (y ∷ ys) [] k n = refl
plain_rivals (y ∷ ys) (q ∷ qs) k n = ap₂ (λ (a : ℕ) (l : List ℕ). a ∷ l) (plain_worth y.posts q k.0 n.0) (plain_rivals ys qs k.1 n.1)
