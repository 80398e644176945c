-- The stage of a case, and the order of frames that it stands for.
use Prim.Native.Nat.{ℕ}
use mathlib.Core.Path.{◌≡◌, refl}
use mathlib.Core.Bool.{Bool, true, false, ◌&&◌, not, cond}
use lib.Dec.{leb, eqb}
use mathlib.Core.List.{List, ◌∷◌, [], ◌++◌}
use borrow.Author.Tests.{not-true}
use Rattle.measures.specs.Refusals.{within}
use Rattle.measures.proofs.Tests.{and_left, and_right}
use Rattle.frames.specs.declared.Factor.{Factor}
use Rattle.frames.specs.declared.Debit.{Debit}
use Rattle.frames.specs.declared.Frame.{Frame}
use Rattle.rules.specs.Rules.{WorkedYear, SectionPay, Frames, given, non_empty, before_pay, in_section, in_order, with_years, with_pay, with_factors, with_debits}
use Rattle.rules.proofs.Ends.{nonempty_end}
use Rattle.cases.specs.State.{in_order_at}

-- by whether there are debits, factors, a pay frame, years
abbrev stage : Bool → Bool → Bool → Bool → ℕ
stage debits factors pay years = cond debits 5 (cond factors 4 (cond pay 3 (cond years 2 1)))

unfoldable pub stage_of : Frames → ℕ
stage_of k = stage (non_empty k.debits) (non_empty k.factors) (given k.pay) (non_empty k.years)

-- a test of the stage, from its five values
module _ (t : ℕ → Bool) (u : Bool → Bool → Bool → Bool → Bool)
    (five : (b c d : Bool) → t 5 ≡ u true b c d) (four : (c d : Bool) → t 4 ≡ u false true c d) (three : (d : Bool) → t 3 ≡ u false false true d)
    (two : t 2 ≡ u false false false true) (one : t 1 ≡ u false false false false) where
  by_values : (a b c d : Bool) → t (stage a b c d) ≡ u a b c d
  by_values true b c d = five b c d
  by_values false true c d = four c d
  by_values false false true d = three d
  by_values false false false true = two
  by_values false false false false = one

  by_stage : (k : Frames) → t (stage_of k) ≡ u (non_empty k.debits) (non_empty k.factors) (given k.pay) (non_empty k.years)
  unfolding stage_of
  by_stage k = by_values (non_empty k.debits) (non_empty k.factors) (given k.pay) (non_empty k.years)

module _ (k : Frames) where
  stage_years : within 1 2 (stage_of k) ≡ before_pay k
  unfolding before_pay
  stage_years = by_stage (within 1 2) (λ a b c d. not a && not b && not c) (λ b c d. refl) (λ c d. refl) (λ d. refl) refl refl k

  stage_posts : eqb (stage_of k) 2 ≡ (before_pay k && non_empty k.years)
  unfolding before_pay
  stage_posts = by_stage (λ s. eqb s 2) (λ a b c d. not a && not b && not c && d) (λ b c d. refl) (λ c d. refl) (λ d. refl) refl refl k

  stage_factors : within 1 4 (stage_of k) ≡ not (non_empty k.debits)
  stage_factors = by_stage (within 1 4) (λ a b c d. not a) (λ b c d. refl) (λ c d. refl) (λ d. refl) refl refl k

  pub stage_begun : leb 1 (stage_of k) ≡ true
  stage_begun = by_stage (leb 1) (λ a b c d. true) (λ b c d. refl) (λ c d. refl) (λ d. refl) refl refl k

  stage_some : eqb (stage_of k) 0 ≡ false
  stage_some = by_stage (λ s. eqb s 0) (λ a b c d. false) (λ b c d. refl) (λ c d. refl) (λ d. refl) refl refl k

  -- a frame may follow at the stage where it may follow the frames kept
  pub order_agrees : (f : Frame) → in_order_at (stage_of k) k.member.section f ≡ in_order k f
  unfolding in_order_at in_order in_section
  order_agrees (Frame.Member m) = stage_some
  order_agrees (Frame.Year y) = stage_years
  order_agrees (Frame.Post x) = stage_posts
  order_agrees (Frame.FinalPay f) = rw stage_years refl
  order_agrees (Frame.Factor f) = stage_factors
  order_agrees (Frame.Debit d) = stage_begun
  order_agrees (Frame.TenPays t) = rw stage_years refl

-- ---- the stage after a frame of each kind

module _ (k : Frames) (e : before_pay k ≡ true) where
  no_debits_lem : non_empty k.debits ≡ false
  unfolding before_pay
  no_debits_lem = not-true _ (and_left _ (not (non_empty k.factors)) (and_left _ (not (given k.pay)) e))

  no_factors_lem : non_empty k.factors ≡ false
  unfolding before_pay
  no_factors_lem = not-true _ (and_right (not (non_empty k.debits)) _ (and_left _ (not (given k.pay)) e))

  no_pay_lem : given k.pay ≡ false
  unfolding before_pay
  no_pay_lem = not-true _ (and_right (not (non_empty k.debits) && not (non_empty k.factors)) _ e)

  pub stage_in_years : (ys : List WorkedYear) → non_empty ys ≡ true → 2 ≡ stage_of (with_years k ys)
  unfolding stage_of
  stage_in_years ys a = rw (no_debits_lem, no_factors_lem, no_pay_lem, a) refl

  pub stage_after_pay : (p : SectionPay) → 3 ≡ stage_of (with_pay k p)
  unfolding stage_of
  stage_after_pay p = rw (no_debits_lem, no_factors_lem) refl

pub stage_after_factor : (k : Frames) (f : Factor) → not (non_empty k.debits) ≡ true → 4 ≡ stage_of (with_factors k (k.factors ++ f ∷ []))
unfolding stage_of
stage_after_factor k f e = rw (not-true (non_empty k.debits) e, nonempty_end k.factors f) refl

pub stage_after_debit : (k : Frames) (d : Debit) → 5 ≡ stage_of (with_debits k (k.debits ++ d ∷ []))
unfolding stage_of
stage_after_debit k d = rw (nonempty_end k.debits d) refl
