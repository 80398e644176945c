-- Any engine that meets the contracts of `start`, `take` and `close`: over every whole list of frames, refused ones included, it gives the refusals of the
-- rules, the answer of the frames kept and demand 3. What a case is made of is never looked at here.
use mathlib.Core.Path.{◌≡◌, refl, sym, ◌∙◌, ap, ap₂}
use mathlib.Core.List.{List, [], ◌∷◌, ◌++◌, map, append_assoc, append-nil}
use Rattle.measures.specs.Tries.{after}
use Rattle.frames.specs.Frames.{Decoded}
use Rattle.rules.specs.Outcomes.{Outcome}
use Rattle.rules.specs.Rules.{Kept, kept, refusals_from}
use Rattle.cases.specs.declared.Case.{Case}
use Rattle.cases.specs.declared.Taken.{Taken}
use Rattle.cases.specs.State.{after_all}
use Rattle.cases.specs.Running.{IsCase}
use Rattle.cases.specs.Whole.{Engine, handed, refusals, WholeList}
use Rattle.cases.proofs.Bridge.{kept_end}

module _ {X : Type 0} (read : X → Decoded) (start : Case) (take : Case → X → Taken) (close : Case → Outcome) (e : Engine read start take close) where
  -- the case had after more frames
  ran : (before : List Decoded) (xs : List X) (c : Case) → IsCase c → c ≡ after_all before
      → IsCase (handed take c xs) × (handed take c xs ≡ after_all (before ++ map read xs))
  unfolding handed
  ran before [] c i q = (i, q ∙ sym (ap after_all (append-nil before)))
  ran before (x ∷ xs) c i q =
      let s = e.takes c x i in
      let r = ran (before ++ read x ∷ []) xs (take c x).case s.is_case (s.after before q).case in
      (r.0, r.1 ∙ ap after_all (append_assoc before (read x ∷ []) (map read xs)))

  refused : (before : List Decoded) (xs : List X) (c : Case) → IsCase c → c ≡ after_all before
      → refusals take c xs ≡ refusals_from (kept before) (map read xs)
  unfolding refusals refusals_from
  refused before [] c i q = refl
  refused before (x ∷ xs) c i q =
      let s = e.takes c x i in
      let a = s.after before q in
      ap₂ ◌∷◌ a.refusal
      (refused (before ++ read x ∷ []) xs (take c x).case s.is_case a.case
      ∙ ap (λ (k : Kept). refusals_from k (map read xs)) (kept_end before (read x)))

  -- demands 2 and 3 of every whole list of frames
  pub whole : (xs : List X) → WholeList (map read xs) (refusals take start xs) (close (handed take start xs))
  unfolding kept after
  whole xs =
      let r = ran [] xs start e.starts.0 e.starts.1 in
      record {
        refused = refused [] xs start e.starts.0 e.starts.1;
        closed = e.closes (handed take start xs) r.0 (map read xs) r.1;
      }
