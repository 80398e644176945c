-- "There is also a running case, which starts with no frame and is only what its frames made of it (a value made otherwise is no case)".
use Rattle.std.specs.Prelude.{◌≡◌, List, [], ◌∷◌, ◌++◌, Ok}
use Rattle.measures.specs.Refusals.{number_beside}
use Rattle.frames.specs.Frames.{Decoded}
use Rattle.rules.specs.declared.Amounts.{Amounts}
use Rattle.rules.specs.Outcomes.{Outcome}
use Rattle.rules.specs.Rules.{kept, refusal_of_decoded}
use Rattle.rules.specs.Working.{answer_of}
use Rattle.rules.specs.Rivals.{Largest}
use Rattle.cases.specs.declared.Case.{Case}
use Rattle.cases.specs.declared.Taken.{Taken}
use Rattle.cases.specs.State.{after_all}

-- a case is what some list of frames made of it, refused ones included
pub record IsCase (c : Case) : Type 0 where
  pub frames : List Decoded
  pub is : c ≡ after_all frames

-- a frame offered after a list of frames: the refusal is that of the rules after the frames kept, the case handed back that of the list with this frame;
-- refused, it is the case given
pub record TakenAfter (frames : List Decoded) (d : Decoded) (c : Case) (t : Taken) : Type 0 where
  pub refusal : number_beside t.refusal ≡ refusal_of_decoded (kept frames) d
  pub case : t.case ≡ after_all (frames ++ d ∷ [])
  pub unchanged : (number_beside t.refusal ≡ 0 → ⊥) → t.case ≡ c

-- a case closed after a list of frames: the answer is that of the frames kept, and no rival working of them has more
pub record ClosedAfter (frames : List Decoded) (o : Outcome) : Type 0 where
  pub answer : o ≡ answer_of (kept frames)
  pub largest : (a : Amounts) → o ≡ Ok a → Largest (kept frames) a

-- what taking promises of any case, by whatever frames it was made
pub record TakenFrom (c : Case) (d : Decoded) (t : Taken) : Type 0 where
  pub is_case : IsCase t.case
  pub after : (frames : List Decoded) → c ≡ after_all frames → TakenAfter frames d c t
