-- After a failed read the bytes to work end with the mark, so that nothing worked comes of them.
use Prim.Native.Nat.{ℕ, suc, ◌-◌, ◌<◌, ◌≤◌}
use mathlib.Core.List.{List, [], ◌∷◌, ◌++◌}
use mathlib.Core.Path.{◌≡◌, sym, ◌∙◌, ap}
use lib.ListN.{length, get_or, take}
use lib.Seq.{take-suc}
use native.Mathlib.Omega.{arith}
use Rattle.input.specs.declared.Reading.{Reading}
use Rattle.input.specs.Reading.{failed_mark, ReadInto}
use Rattle.rules.specs.Outcomes.{Outcome}
use Rattle.texts.specs.Text.{work_text}
use Rattle.texts.proofs.CutShort.{cut_short}
use Rattle.case_program.specs.Answered.{Answered}

-- the first n bytes end with the last of them
ends_with : (bytes : List ℕ) (n m : ℕ) → 0 < n → n ≤ length bytes → get_or bytes (n - 1) 10 ≡ m → take n bytes ≡ take (n - 1) bytes ++ m ∷ []
ends_with bytes n m some within e =
    ap (λ (k : ℕ). take k bytes) (let q : n ≡ suc (n - 1) = omega (arith, some) in q)
    ∙ take-suc bytes (n - 1) 10 (omega (arith, some, within))
    ∙ ap (λ (x : ℕ). take (n - 1) bytes ++ x ∷ []) e

pub answered : (bytes : List ℕ) (given : Reading) (o : Outcome) → ReadInto bytes given → o ≡ work_text (take given.count bytes) → Answered bytes given o
answered bytes given o read e =
    record {
      is = e;
      refused = λ f a w.
          let marked = read.marked f in
          cut_short (take (given.count - 1) bytes) failed_mark (λ z. omega (arith, z)) a
          (ap work_text (sym (ends_with bytes given.count failed_mark marked.0 read.within.0 marked.1)) ∙ sym e ∙ w);
    }
