-- The refusals that the code names: none has the number 0, and no two have the same.
use Prim.Native.Nat.{ℕ, ◌<◌}
use mathlib.Core.Bool.{cond}
use mathlib.Core.Path.{◌≡◌, refl, sym, ◌∙◌, ap}
use native.Mathlib.Omega.{arith}
use lib.Dec.{eqb}
use Rattle.measures.specs.declared.Refusal.{Refusal}
use Rattle.measures.specs.Refusals.{number_of}

positive : (r : Refusal) → 0 < number_of r
positive Refusal.TextLength = omega arith
positive Refusal.Line = omega arith
positive Refusal.Frame = omega arith
positive Refusal.Order = omega arith
positive Refusal.Dates = omega arith
positive Refusal.Year = omega arith
positive Refusal.Post = omega arith
positive Refusal.SecondWholeTime = omega arith
positive Refusal.FinalPay = omega arith
positive Refusal.Factor = omega arith
positive Refusal.Debit = omega arith
positive Refusal.NoFinalPay = omega arith
positive Refusal.NoFactor = omega arith
positive Refusal.DebitAbove = omega arith
positive Refusal.PostCount = omega arith
positive Refusal.Places = omega arith
positive Refusal.PostsLength = omega arith
positive Refusal.Amount = omega arith
positive Refusal.Earned = omega arith
positive Refusal.Employers = omega arith
positive Refusal.TenPays = omega arith
positive Refusal.SectionAge = omega arith
positive Refusal.Position = omega arith

-- 0 stands for no refusal
pub never_nought : (r : Refusal) → number_of r ≡ 0 → ⊥
never_nought r e = let p = positive r in omega arith

-- the refusal of a number, by the first that has it
refusal_of : ℕ → Refusal
refusal_of n =
    cond (eqb n 1) Refusal.TextLength (
    cond (eqb n 2) Refusal.Line (
    cond (eqb n 3) Refusal.Frame (
    cond (eqb n 4) Refusal.Order (
    cond (eqb n 5) Refusal.Dates (
    cond (eqb n 6) Refusal.Year (
    cond (eqb n 7) Refusal.Post (
    cond (eqb n 8) Refusal.SecondWholeTime (
    cond (eqb n 9) Refusal.FinalPay (
    cond (eqb n 10) Refusal.Factor (
    cond (eqb n 11) Refusal.Debit (
    cond (eqb n 12) Refusal.NoFinalPay (
    cond (eqb n 13) Refusal.NoFactor (
    cond (eqb n 14) Refusal.DebitAbove (
    cond (eqb n 21) Refusal.PostCount (
    cond (eqb n 22) Refusal.Places (
    cond (eqb n 23) Refusal.PostsLength (
    cond (eqb n 24) Refusal.Amount (
    cond (eqb n 25) Refusal.Earned (
    cond (eqb n 26) Refusal.Employers (
    cond (eqb n 27) Refusal.TenPays (
    cond (eqb n 28) Refusal.SectionAge (
    Refusal.Position))))))))))))))))))))))

is_of : (r : Refusal) → refusal_of (number_of r) ≡ r
unfolding refusal_of
is_of Refusal.TextLength = refl
is_of Refusal.Line = refl
is_of Refusal.Frame = refl
is_of Refusal.Order = refl
is_of Refusal.Dates = refl
is_of Refusal.Year = refl
is_of Refusal.Post = refl
is_of Refusal.SecondWholeTime = refl
is_of Refusal.FinalPay = refl
is_of Refusal.Factor = refl
is_of Refusal.Debit = refl
is_of Refusal.NoFinalPay = refl
is_of Refusal.NoFactor = refl
is_of Refusal.DebitAbove = refl
is_of Refusal.PostCount = refl
is_of Refusal.Places = refl
is_of Refusal.PostsLength = refl
is_of Refusal.Amount = refl
is_of Refusal.Earned = refl
is_of Refusal.Employers = refl
is_of Refusal.TenPays = refl
is_of Refusal.SectionAge = refl
is_of Refusal.Position = refl

-- the number says which
pub same_number : (r s : Refusal) → number_of r ≡ number_of s → r ≡ s
same_number r s e = sym (is_of r) ∙ ap refusal_of e ∙ is_of s
