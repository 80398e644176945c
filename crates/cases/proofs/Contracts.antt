-- What the methods of the running case promise, from the equations of the code with the state; demand 3 for the running case, and the bound of its count.
use Prim.Native.Nat.{ℕ, ◌≤◌}
use mathlib.Core.Bool.{Bool, true, false, cond}
use mathlib.Core.Path.{◌≡◌, refl, sym, ◌∙◌, ap}
use mathlib.Core.List.{List, [], ◌∷◌, ◌++◌}
use lib.Dec.{eqb}
use Rattle.std.specs.Prelude.{Option, Some, Result, Ok, Err}
use Rattle.std.specs.Result.{result_err}
use Rattle.measures.specs.declared.Refusal.{Refusal}
use Rattle.measures.specs.Refusals.{number_of, number_beside, refused_by}
use Rattle.measures.specs.Tries.{tried, after}
use Rattle.measures.specs.Lists.{All}
use Rattle.measures.proofs.Tests.{clash}
use Rattle.measures.proofs.Lists.{all_map}
use Rattle.measures.proofs.Trying.{tried_refused}
use Rattle.posts.proofs.Standing.{stand_worked}
use Rattle.frames.specs.declared.Frame.{Frame}
use Rattle.frames.specs.Frames.{Decoded}
use Rattle.rules.specs.declared.Amounts.{Amounts}
use Rattle.rules.specs.Outcomes.{Outcome}
use Rattle.rules.specs.Rules.{WorkedYear, Kept, nothing, begun, decoded_all, kept}
use Rattle.rules.specs.Working.{answer_of}
use Rattle.rules.specs.Rivals.{Largest}
use Rattle.rules.proofs.Largest.{WorkedPosts, largest_kept}
use Rattle.rules.proofs.Counted.{most_ups, worked_ups}
use Rattle.years.proofs.Years.{GoodYear}
use Rattle.cases.specs.declared.Case.{Case}
use Rattle.cases.specs.declared.Taken.{Taken}
use Rattle.cases.specs.State.{start, case_refusal, case_next, refusal_of_case, next_of_case, after_all, outcome_of}
use Rattle.cases.specs.Running.{IsCase, TakenFrom, ClosedAfter}
use Rattle.cases.proofs.Represents.{Represents}
use Rattle.cases.proofs.Bridge.{refusal_agrees, represents, after_one_more}
use Rattle.cases.proofs.Answer.{closing_agrees}

-- ---- demand 3 for the running case

worked : (ys : List WorkedYear) → All GoodYear ys → All WorkedPosts ys
worked ys g = all_map GoodYear WorkedPosts (λ y good. stand_worked y.posts good.posts) ys g

largest_of : (k : Kept) (c : Case) (a : Amounts) → Represents c k → answer_of k ≡ Ok a → Largest k a
unfolding answer_of
largest_of nothing c a h e = clash (cc)
largest_of (begun k) c a h e = largest_kept k a (worked k.years h.1.years.each) e

-- Over every list of frames, refused ones included, of any length: where the closing is not refused, the amounts given are the largest of the frames kept.
pub largest_decoded : (ds : List Decoded) (a : Amounts) → outcome_of (after_all ds) ≡ Ok a → Largest (kept ds) a
largest_decoded ds a e =
    let h = represents ds in
    largest_of (kept ds) (after_all ds) a h (sym (closing_agrees (after_all ds) (kept ds) h) ∙ e)

-- the same of raw frames, bytes that are no frame among them
pub largest_running : (raws : List (List ℕ)) (a : Amounts) → outcome_of (after_all (decoded_all raws)) ≡ Ok a → Largest (kept (decoded_all raws)) a
largest_running raws a e = largest_decoded (decoded_all raws) a e

pub answer_running : (ds : List Decoded) → outcome_of (after_all ds) ≡ answer_of (kept ds)
answer_running ds = closing_agrees (after_all ds) (kept ds) (represents ds)

-- ---- the count of upward roundings

count_of : (k : Kept) (c : Case) (a : Amounts) → Represents c k → answer_of k ≡ Ok a → a.ups ≤ most_ups
unfolding answer_of
count_of nothing c a h e = clash (cc)
count_of (begun k) c a h e = worked_ups k a h.1.years.few e

-- Over every list of frames, refused ones included: where the closing is not refused, the count is at most 161.
pub count_running : (ds : List Decoded) (a : Amounts) → answer_of (kept ds) ≡ Ok a → a.ups ≤ most_ups
count_running ds a e = count_of (kept ds) (after_all ds) a (represents ds) e

-- ---- the methods

pub started : (c : Case) → c ≡ start → IsCase c × (c ≡ after_all [])
unfolding after_all after
started c e = (record { frames = []; is = e }, e)

-- a frame as it is offered, taken
pub taken_from : (c : Case) (d : Decoded) (t : Taken) → IsCase c → number_beside t.refusal ≡ refusal_of_case c d → t.case ≡ tried refusal_of_case next_of_case c d → TakenFrom c d t
taken_from c d t is r e =
    record {
      is_case = record { frames = is.frames ++ d ∷ []; is = handed is.frames is.is };
      after = λ frames q.
          record {
            refusal = r ∙ ap (λ (z : Case). refusal_of_case z d) q ∙ refusal_agrees (after_all frames) (kept frames) d (represents frames);
            case = handed frames q;
            unchanged = λ n. e ∙ tried_refused refusal_of_case next_of_case c d (λ z. n (r ∙ z));
          };
    }
  where
    handed : (frames : List Decoded) → c ≡ after_all frames → t.case ≡ after_all (frames ++ d ∷ [])
    handed frames q = e ∙ ap (λ (z : Case). tried refusal_of_case next_of_case z d) q ∙ sym (after_one_more frames d)

-- the number beside what a call gives is that of its refusal
beside_refused : {A : Type 0} (r : Result A Refusal) → number_beside (result_err r) ≡ refused_by r
beside_refused (Ok x) = refl
beside_refused (Err refusal) = refl

-- of a frame
pub frame_taken : {A : Type 0} (c next : Case) (f : Frame) (r : Result A Refusal) (refusal : Option Refusal) → IsCase c → refused_by r ≡ case_refusal c f → next ≡ tried case_refusal case_next c f → refusal ≡ result_err r → TakenFrom c (Ok f) (record { case = next; refusal = refusal })
unfolding refusal_of_case next_of_case tried
frame_taken c next f r refusal is found made e = taken_from c (Ok f) _ is (ap number_beside e ∙ beside_refused r ∙ found) made

-- of bytes that are none
pub no_frame_taken : (c : Case) (r : Refusal) → IsCase c → TakenFrom c (Err (number_of r)) (record { case = c; refusal = Some r })
unfolding refusal_of_case next_of_case tried
no_frame_taken c r is = taken_from c (Err (number_of r)) _ is refl (by (eqb (number_of r) 0))
  where
    by : (t : Bool) → c ≡ cond t c c
    by true = refl
    by false = refl

pub closed_after : (c : Case) (o : Outcome) → o ≡ outcome_of c → (frames : List Decoded) → c ≡ after_all frames → ClosedAfter frames o
closed_after c o e frames q =
    record {
      answer = same ∙ answer_running frames;
      largest = λ a w. largest_decoded frames a (sym same ∙ w);
    }
  where
    same : o ≡ outcome_of (after_all frames)
    same = e ∙ ap outcome_of q
