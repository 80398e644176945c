-- That no rival working of a text has more, and the bound of its count, by those of the running case; and a text beside the running case that is
-- given its frames one by one.
use Rattle.std.specs.Prelude.{Ok, Err}
use Prim.Native.Nat.{ℕ, ◌+◌, ◌≤◌}
use mathlib.Core.Path.{◌≡◌, refl, sym, ◌∙◌}
use mathlib.Core.List.{List, [], ◌∷◌}
use mathlib.Core.Bool.{Bool, true, false, cond}
use lib.Dec.{ltb, eqb}
use lib.ListN.{length}
use borrow.Author.Tests.{eqb-true, eqb-false}
use Rattle.measures.specs.Tries.{tried, after, Unrefused, done, more}
use Rattle.measures.proofs.Tests.{clash}
use Rattle.frames.specs.Frames.{Decoded}
use Rattle.rules.specs.declared.Amounts.{Amounts}
use Rattle.rules.specs.Outcomes.{Outcome}
use Rattle.rules.specs.Rules.{Kept, nothing, begun, refusal_of_decoded, keep_decoded, kept}
use Rattle.rules.specs.Working.{closing_of, amounts_of, worked_unless, answer_of, number_of, amounts_given}
use Rattle.rules.specs.Rivals.{Largest}
use Rattle.cases.specs.State.{after_all, outcome_of}
use Rattle.rules.proofs.Counted.{most_ups}
use Rattle.cases.proofs.Contracts.{largest_decoded, answer_running, count_running}
use Rattle.texts.specs.Text.{frames_of, read_from, longest_text, work_text, TextWorked}

-- a worked text had nothing refused, and its answer is that of the frames kept
record Read (k : Kept) (ds : List Decoded) (a : Amounts) : Type 0 where
  unrefused : Unrefused refusal_of_decoded keep_decoded k ds
  answer : answer_of (after refusal_of_decoded keep_decoded k ds) ≡ Ok a

read_worked : (k : Kept) (line : ℕ) (ds : List Decoded) (a : Amounts) → read_from k line ds ≡ Ok a → Read k ds a
unfolding read_from after tried
read_worked k line [] a e = record { unrefused = done; answer = e }
read_worked k line (d ∷ ds) a e = by (eqb (refusal_of_decoded k d) 0) refl (λ (q : read_from (keep_decoded k d) (line + 1) ds ≡ Ok a). read_worked (keep_decoded k d) (line + 1) ds a q) e
  where
    by : (t : Bool) → eqb (refusal_of_decoded k d) 0 ≡ t
        → (read_from (keep_decoded k d) (line + 1) ds ≡ Ok a → Read (keep_decoded k d) ds a)
        → cond t (read_from (keep_decoded k d) (line + 1) ds) (Err (record { number = refusal_of_decoded k d; line = line })) ≡ Ok a
        → Read k (d ∷ ds) a
    by true q next e =
        let r = next e in
        record { unrefused = more (eqb-true _ 0 q) r.unrefused; answer = rw q r.answer }
    by false q next e = clash (cc)

text_read : (text : List ℕ) (a : Amounts) → work_text text ≡ Ok a → Read nothing (frames_of text) a
unfolding work_text
text_read text a e = by (ltb longest_text (length text)) e
  where
    by : (t : Bool) → cond t (Err (record { number = 1; line = 0 })) (read_from nothing 1 (frames_of text)) ≡ Ok a → Read nothing (frames_of text) a
    by true e = clash (cc)
    by false e = read_worked nothing 1 (frames_of text) a e

-- every frame of a worked text is kept
pub text_unrefused : (text : List ℕ) (a : Amounts) → work_text text ≡ Ok a → Unrefused refusal_of_decoded keep_decoded nothing (frames_of text)
text_unrefused text a e = (text_read text a e).unrefused

-- a worked text has the amounts of the running case that is given its frames one by one and closed
pub text_running : (text : List ℕ) (a : Amounts) → work_text text ≡ Ok a → outcome_of (after_all (frames_of text)) ≡ Ok a
unfolding kept
text_running text a e = answer_running (frames_of text) ∙ (text_read text a e).answer

-- For every text that is not refused, no rival working of its frames has more.
pub largest_text : (text : List ℕ) (a : Amounts) → work_text text ≡ Ok a → Largest (kept (frames_of text)) a
largest_text text a e = largest_decoded (frames_of text) a (text_running text a e)

-- Its count of upward roundings is at most 161, so that the two bytes of the line hold it whole.
pub count_text : (text : List ℕ) (a : Amounts) → work_text text ≡ Ok a → a.ups ≤ most_ups
unfolding kept
count_text text a e = count_running (frames_of text) a (text_read text a e).answer

pub text_worked : (text : List ℕ) (o : Outcome) → o ≡ work_text text → TextWorked text o
text_worked text o e = record { is = e; largest = λ a w. largest_text text a (sym e ∙ w) }

-- ---- a refusal has a number

abbrev pub Numbered : Outcome → Type 0
Numbered (Ok a) = Unit {0}
Numbered (Err r) = r.number ≡ 0 → ⊥

numbered_unless : (number line : ℕ) (o : Outcome) (t : Bool) → eqb number 0 ≡ t → Numbered o → Numbered (cond t o (Err (record { number = number; line = line })))
numbered_unless number line o true e n = n
numbered_unless number line o false e n = eqb-false number 0 e

answer_numbered : (k : Kept) → Numbered (answer_of k)
unfolding answer_of worked_unless
answer_numbered nothing = λ e. clash (cc)
answer_numbered (begun k) = numbered_unless (closing_of (begun k)) 0 (Ok (amounts_of k)) (eqb (closing_of (begun k)) 0) refl tt

read_numbered : (k : Kept) (line : ℕ) (ds : List Decoded) → Numbered (read_from k line ds)
unfolding read_from
read_numbered k line [] = answer_numbered k
read_numbered k line (d ∷ ds) =
    numbered_unless (refusal_of_decoded k d) line (read_from (keep_decoded k d) (line + 1) ds) (eqb (refusal_of_decoded k d) 0) refl (read_numbered (keep_decoded k d) (line + 1) ds)

pub text_numbered : (text : List ℕ) → Numbered (work_text text)
unfolding work_text
text_numbered text = by (ltb longest_text (length text))
  where
    by : (t : Bool) → Numbered (cond t (Err (record { number = 1; line = 0 })) (read_from nothing 1 (frames_of text)))
    by true = λ e. clash (cc)
    by false = read_numbered nothing 1 (frames_of text)

-- so a text without a refusal is worked, and its amounts are the largest
pub largest_given : (text : List ℕ) → number_of (work_text text) ≡ 0 → Largest (kept (frames_of text)) (amounts_given (work_text text))
unfolding number_of amounts_given
largest_given text e = by (work_text text) refl (text_numbered text) e
  where
    by : (o : Outcome) → work_text text ≡ o → Numbered o → number_of o ≡ 0 → Largest (kept (frames_of text)) (amounts_given o)
    by (Ok a) q n z = largest_text text a q
    by (Err r) q n z = absurd (n z)
