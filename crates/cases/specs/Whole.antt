-- "one claim over every whole list of frames, refused ones included, and not one for each frame": what it says of any engine whatever that meets the contracts of
-- `start`, `take` and `close`.
use Rattle.std.specs.Prelude.{ℕ, ◌≡◌, List, [], ◌∷◌}
use Rattle.measures.specs.Refusals.{number_beside}
use Rattle.frames.specs.Frames.{Decoded}
use Rattle.rules.specs.Outcomes.{Outcome}
use Rattle.rules.specs.Rules.{nothing, refusals_from}
use Rattle.cases.specs.declared.Case.{Case}
use Rattle.cases.specs.declared.Taken.{Taken}
use Rattle.cases.specs.State.{after_all}
use Rattle.cases.specs.Running.{IsCase, TakenFrom, ClosedAfter}

-- the contracts of the three methods, met by any functions whatever. What is offered is read by `decoded` where it comes in bytes (`take`), and is
-- `Ok` of it where it is decoded already (`take_frame`).
pub record Engine {X : Type 0} (read : X → Decoded) (start : Case) (take : Case → X → Taken) (close : Case → Outcome) : Type 0 where
  pub starts : IsCase start × (start ≡ after_all [])
  pub takes : (c : Case) (x : X) → IsCase c → TakenFrom c (read x) (take c x)
  pub closes : (c : Case) → IsCase c → (frames : List Decoded) → c ≡ after_all frames → ClosedAfter frames (close c)

-- "each frame is given to the case that the one before handed back, which nothing else alters"
module _ {X : Type 0} (take : Case → X → Taken) where
  -- the case had after a list
  unfoldable pub handed : Case → List X → Case
  handed c [] = c
  handed c (x ∷ xs) = handed (take c x).case xs

  -- the refusals on the way, 0 for none
  unfoldable pub refusals : Case → List X → List ℕ
  refusals c [] = []
  refusals c (x ∷ xs) = number_beside (take c x).refusal ∷ refusals (take c x).case xs

-- of a whole list of frames the refusals are those of the rules, and "the case had after the list is closed" to the answer of the frames kept, of which no
-- rival working has more
pub record WholeList (frames : List Decoded) (refusals : List ℕ) (o : Outcome) : Type 0 where
  pub refused : refusals ≡ refusals_from nothing frames
  pub closed : ClosedAfter frames o
