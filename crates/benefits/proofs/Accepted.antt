-- What the numbers that are not refused keep to.
use mathlib.Core.Path.{◌≡◌}
use mathlib.Core.Bool.{true, ◌&&◌}
use Prim.Native.Nat.{ℕ, ◌≤◌}
use native.Mathlib.Omega.{arith}
use lib.Dec.{leb}
use Rattle.measures.specs.Refusals.{first_refusal}
use Rattle.measures.proofs.Tests.{passed, parts, neither}
use Rattle.benefits.specs.declared.FinalPay.{FinalPay}
use Rattle.benefits.specs.Limits.{highest_amount}
use Rattle.benefits.specs.Steps.{pays_within, terms_within, final_pay_refusal, amounts_within, abatement_refusal}
use Rattle.benefits.specs.Bounds.{FinalPayBounds}

pub accepted_final_pay : (f : FinalPay) → final_pay_refusal f ≡ 0 → FinalPayBounds f
unfolding final_pay_refusal pays_within terms_within
accepted_final_pay f e =
    let held : (pays_within f && terms_within f) ≡ true = passed (pays_within f && terms_within f) 9 (omega arith) e in
    record {
      pay4 = search parts;
      pay3 = search parts;
      pay2 = search parts;
      pay1 = search parts;
      allowance3 = search parts;
      allowance2 = search parts;
      allowance1 = search parts;
      days = search parts;
      factor = search parts;
    }

-- no refusal of either of two
one_none : (a b : ℕ) → first_refusal a b ≡ 0 → a ≡ 0
one_none a b e = (neither a b e).0

other_none : (a b : ℕ) → first_refusal a b ≡ 0 → b ≡ 0
other_none a b e = (neither a b e).1

ruleset none_of_two = (one_none, other_none)

pub accepted_abatement : (pension earned previous new : ℕ) → abatement_refusal pension earned previous new ≡ 0
    → (pension ≤ highest_amount) × (earned ≤ highest_amount) × (previous ≤ highest_amount) × (new ≤ highest_amount) × (earned ≤ pension)
unfolding abatement_refusal amounts_within
accepted_abatement pension earned previous new e =
    let amounts : amounts_within pension earned previous new ≡ true = passed (amounts_within pension earned previous new) 24 (omega arith) (search none_of_two) in
    let order : leb earned pension ≡ true = passed (leb earned pension) 25 (omega arith) (search none_of_two) in
    (search parts, search parts, search parts, search parts, search parts)
