-- The words of a text, and what stands from a mark on.
use Prim.Native.Nat.{ℕ, zero, suc, ◌+◌, ◌-◌, ◌≤◌, ◌<◌}
use mathlib.Core.Bool.{Bool, true, false, cond}
use mathlib.Core.List.{List, [], ◌∷◌, map}
use mathlib.Core.Path.{◌≡◌, refl, sym, ap, ◌∙◌}
use native.Mathlib.Nat.{sub-zero, suc-sub-suc}
use native.Mathlib.Omega.{arith}
use lib.Dec.{eqb}
use lib.ListN.{length, take, drop, drop_of_length-le}
use borrow.Author.Tests.{eq-eqb, ne_eqb}
use Rattle.input.specs.Script.{EndAt, before, parted_words, words_of, number_spelled, numbers_of, from_mark}
use Rattle.input.proofs.Rest.{rest_at}

-- what stands before the first mark
abbrev up_to : ℕ → List ℕ → List ℕ
up_to mark [] = []
up_to mark (x ∷ more) = cond (eqb x mark) [] (x ∷ up_to mark more)

-- the same place counted from the second byte
later : {x from next mark r : ℕ} {more : List ℕ} → EndAt (x ∷ more) from mark (suc r) → next ≤ r → ((k : ℕ) → next ≤ k → from ≤ suc k) → EndAt more next mark r
later e l on =
    record {
      at_or_after = l;
      within = omega (arith, e.within);
      none_before = λ k b f. e.none_before (suc k) (omega arith) (on k f);
      marked = λ b. e.marked (omega arith);
    }

first_mark : (mark : ℕ) (text : List ℕ) (r : ℕ) → EndAt text 0 mark r → (take r text ≡ up_to mark text) × (drop r text ≡ from_mark mark text)
unfolding from_mark
first_mark mark [] zero e = (refl, refl)
first_mark mark [] (suc r) e = (refl, refl)
first_mark mark (x ∷ more) zero e = rw (eq-eqb x mark (e.marked (omega arith))) (refl, refl)
first_mark mark (x ∷ more) (suc r) e =
    let on = first_mark mark more r (later e (omega arith) (λ k l. omega arith)) in
    rw (ne_eqb x mark (e.none_before 0 (omega arith) (omega arith))) (ap (λ (l : List ℕ). x ∷ l) on.0, on.1)

mark_on : (mark : ℕ) (text : List ℕ) (from r : ℕ) → EndAt text from mark r → (take (r - from) (drop from text) ≡ up_to mark (drop from text)) × (drop r text ≡ from_mark mark (drop from text))
mark_on mark text zero r e = rw sub-zero (first_mark mark text r e)
mark_on mark [] (suc from) r e = absurd (omega (arith, e.at_or_after, e.within))
mark_on mark (x ∷ more) (suc from) zero e = absurd (omega (arith, e.at_or_after))
mark_on mark (x ∷ more) (suc from) (suc r) e = rw suc-sub-suc (mark_on mark more from r (later e (omega (arith, e.at_or_after)) (λ k l. omega arith)))

pub from_mark_lem : (mark : ℕ) (text : List ℕ) (from r : ℕ) → EndAt text from mark r → drop r text ≡ from_mark mark (drop from text)
from_mark_lem mark text from r e = (mark_on mark text from r e).1

module _ (x : ℕ) (more : List ℕ) (on : parted_words more ≡ up_to 32 more ∷ words_of (from_mark 32 more)) where
  parted_by : (blank : Bool) → before blank x (parted_words more) ≡ cond blank [] (x ∷ up_to 32 more) ∷ words_of (cond blank (x ∷ more) (from_mark 32 more))
  unfolding before words_of
  parted_by true = refl
  parted_by false = rw on refl

parted : (text : List ℕ) → parted_words text ≡ up_to 32 text ∷ words_of (from_mark 32 text)
unfolding parted_words words_of from_mark
parted [] = refl
parted (x ∷ more) = parted_by x more (parted more) (eqb x 32)

module _ (text : List ℕ) (at : ℕ) where
  pub next_word : (r : ℕ) → at < length text → EndAt text (at + 1) 32 r → words_of (drop at text) ≡ take (r - (at + 1)) (drop (at + 1) text) ∷ words_of (drop r text)
  unfolding words_of
  next_word r l e =
      let m = mark_on 32 text (at + 1) r e in
      ap words_of (rest_at text at 0 l)
      ∙ parted (drop (at + 1) text)
      ∙ ap (λ (word : List ℕ). word ∷ words_of (from_mark 32 (drop (at + 1) text))) (sym m.0)
      ∙ ap (λ (rest : List ℕ). take (r - (at + 1)) (drop (at + 1) text) ∷ words_of rest) (sym m.1)

  pub no_word : length text ≤ at → words_of (drop at text) ≡ []
  unfolding words_of
  no_word l = rw (drop_of_length-le text l)

  pub next_number : (r : ℕ) → at < length text → EndAt text (at + 1) 32 r → numbers_of (drop at text) ≡ number_spelled (take (r - (at + 1)) (drop (at + 1) text)) ∷ numbers_of (drop r text)
  unfolding numbers_of
  next_number r l e = ap (λ (words : List (List ℕ)). map number_spelled words) (next_word r l e)

  pub no_number : length text ≤ at → numbers_of (drop at text) ≡ []
  unfolding numbers_of
  no_number l = ap (λ (words : List (List ℕ)). map number_spelled words) (no_word l)
