-- Differences of whole numbers that may fall below zero.
use mathlib.Core.Path.{◌≡◌, refl, sym, ◌∙◌, ap, subst₂}
use mathlib.Core.Bool.{Bool, true, false, cond}
use mathlib.Core.Logic.{⊎_elim}
use Prim.Native.Nat.{ℕ, zero, suc, ◌+◌, ◌-◌, ◌≤◌, ◌<◌}
use native.Mathlib.Nat.{add-le-add}
use native.Mathlib.Omega.{arith}
use lib.Dec.{ltb, le→leb}
use lib.IntN.{ℤ, pos, negsuc, neg_ℤ, ◌+ℤ◌, ◌-ℤ◌, +ℤ_assoc, +ℤ_comm, neg_ℤ-+ℤ}
use lib.Signed.{◌≤ℤ◌, le_z_yes}
use borrow.Author.Tests.{ltb-true, ltb-false, le-ltb}
use Rattle.measures.proofs.Tests.{clash, le_or_lt}

-- a − b where b is no more than a
pub less : (a b : ℕ) → b ≤ a → pos a -ℤ pos b ≡ pos (a - b)
less a zero h = ap pos (omega arith)
less a (suc b) h = rw (le-ltb a (suc b) h)

-- a − b where b is no less than a
pub more : (a b : ℕ) → a ≤ b → pos a -ℤ pos b ≡ neg_ℤ (pos (b - a))
more zero zero h = refl
more (suc a) zero h = clash (omega arith)
more a (suc b) h = by (ltb a (suc b)) refl
  where
    by : (t : Bool) → ltb a (suc b) ≡ t → cond t (negsuc (suc b - suc a)) (pos (a - suc b)) ≡ neg_ℤ (pos (suc b - a))
    by true e = let s : suc b - a ≡ suc (suc b - suc a) = omega (arith, ltb-true) in rw s
    by false e = let s : suc b - a ≡ 0 = omega (arith, ltb-false) in rw s (ap pos (omega (arith, ltb-false)))

-- the same number taken from a larger one leaves no less
pub less_mono : (a a' b : ℕ) → a ≤ a' → (pos a -ℤ pos b) ≤ℤ (pos a' -ℤ pos b)
less_mono a a' zero g = le_z_yes (le→leb (a + 0) (a' + 0) (omega arith))
less_mono a a' (suc b) g =
    ⊎_elim
    (λ (u : suc b ≤ a). subst₂ ◌≤ℤ◌ (sym (less a (suc b) u)) (sym (less a' (suc b) (omega arith))) (le_z_yes (le→leb (a - suc b) (a' - suc b) (omega arith))))
    (λ (u : a < suc b).
    ⊎_elim
    (λ (v : suc b ≤ a'). subst₂ ◌≤ℤ◌ (sym (below a u)) (sym (less a' (suc b) v)) (le_z_yes tt))
    (λ (v : a' < suc b). subst₂ ◌≤ℤ◌ (sym (below a u)) (sym (below a' v)) (le_z_yes (le→leb (suc b - suc a') (suc b - suc a) (omega arith))))
    (le_or_lt (suc b) a'))
    (le_or_lt (suc b) a)
  where
    below : (n : ℕ) → n < suc b → pos n -ℤ pos (suc b) ≡ negsuc (suc b - suc n)
    below n u = more n (suc b) (omega arith) ∙ ap (λ (m : ℕ). neg_ℤ (pos m)) (let e : suc b - n ≡ suc (suc b - suc n) = omega arith in e)

-- two differences together
less_sum : (a b c d : ℕ) → (pos a -ℤ pos b) +ℤ (pos c -ℤ pos d) ≡ pos (a + c) -ℤ pos (b + d)
less_sum a b c d =
    swap (pos a) (neg_ℤ (pos b)) (pos c) (neg_ℤ (pos d)) ∙ ap (λ (k : ℤ). pos (a + c) +ℤ k) (sym (neg_ℤ-+ℤ (pos b) (pos d)))
  where
    swap : (i j k l : ℤ) → (i +ℤ j) +ℤ (k +ℤ l) ≡ (i +ℤ k) +ℤ (j +ℤ l)
    swap i j k l =
        +ℤ_assoc i j (k +ℤ l)
        ∙ ap (λ (n : ℤ). i +ℤ n) (sym (+ℤ_assoc j k l) ∙ ap (λ (n : ℤ). n +ℤ l) (+ℤ_comm j k) ∙ +ℤ_assoc k j l)
        ∙ sym (+ℤ_assoc i k (j +ℤ l))

pub less_both : (a a' b c c' d : ℕ) → a ≤ a' → c ≤ c' → ((pos a -ℤ pos b) +ℤ (pos c -ℤ pos d)) ≤ℤ ((pos a' -ℤ pos b) +ℤ (pos c' -ℤ pos d))
less_both a a' b c c' d g k =
    subst₂ ◌≤ℤ◌ (sym (less_sum a b c d)) (sym (less_sum a' b c' d)) (less_mono (a + c) (a' + c') (b + d) (add-le-add g k))
