-- The order of amounts is that of their numbers.
use Prim.Native.Nat.{ℕ, ◌≤◌, ◌<◌, min, max}
use mathlib.Core.Bool.{true, false}
use mathlib.Core.Path.{◌≡◌, ◌∙◌, ap}
use native.Mathlib.Omega.{arith}
use Rattle.std.proofs.Common.{nat_cmp, is_le}
use Rattle.std.specs.Ordering.{ord_min, ord_max}
use Rattle.std.proofs.lemmas.Bool.Decides.{nat_tests}
use Rattle.measures.specs.declared.Pence.{Pence}
use Rattle.measures.specs.contracts.PenceOrd.TheImpl.{cmp-value}

lower : (a b : Pence) → (ord_min cmp-value.it a b).0 ≡ min a.0 b.0
lower a b = grind (arith, nat_tests)

higher : (a b : Pence) → (ord_max cmp-value.it a b).0 ≡ max a.0 b.0
higher a b = grind (arith, nat_tests)

-- what `min` and `max` give
pub is_lower : {amount : Pence} (a b : Pence) → amount ≡ ord_min cmp-value.it a b → amount.0 ≡ min a.0 b.0
is_lower {amount} a b e = ap (λ (p : Pence). p.0) e ∙ lower a b

pub is_higher : {amount : Pence} (a b : Pence) → amount ≡ ord_max cmp-value.it a b → amount.0 ≡ max a.0 b.0
is_higher {amount} a b e = ap (λ (p : Pence). p.0) e ∙ higher a b

-- what `<=` says where it holds, and where it does not
pub at_most : {m n : ℕ} → true ≡ is_le (nat_cmp m n) → m ≤ n
at_most {m} {n} e = grind (arith, nat_tests)

pub above : {m n : ℕ} → false ≡ is_le (nat_cmp m n) → n < m
above {m} {n} e = grind (arith, nat_tests)
