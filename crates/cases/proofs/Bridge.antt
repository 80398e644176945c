-- The running case after any list of frames, refused ones included, stands for the frames kept of it.
use mathlib.Core.Path.{◌≡◌, refl, ◌∙◌}
use mathlib.Core.List.{List, [], ◌∷◌, ◌++◌}
use borrow.Author.Tests.{eq-eqb}
use Rattle.measures.specs.Tries.{tried, plain}
use Rattle.measures.proofs.Trying.{after_meant, after_end, after_without, after_relates}
use Rattle.std.specs.Prelude.{Ok, Err}
use Rattle.frames.specs.Frames.{Decoded}
use Rattle.rules.specs.Rules.{Kept, nothing, refusal_of_decoded, keep_decoded, kept, frames_meant}
use Rattle.cases.specs.declared.Case.{Case}
use Rattle.cases.specs.State.{start, refusal_of_case, next_of_case, after_all}
use Rattle.cases.proofs.Represents.{Represents, frame_agrees, frame_keeps}

pub refusal_agrees : (c : Case) (k : Kept) (d : Decoded) → Represents c k → refusal_of_case c d ≡ refusal_of_decoded k d
unfolding refusal_of_case refusal_of_decoded
refusal_agrees c k (Ok f) h = frame_agrees c k f h
refusal_agrees c k (Err n) h = refl

keeps : (c : Case) (k : Kept) (d : Decoded) → Represents c k → refusal_of_decoded k d ≡ 0 → Represents (next_of_case c d) (keep_decoded k d)
unfolding next_of_case keep_decoded refusal_of_decoded
keeps c k (Ok f) h r = frame_keeps c k f h r
keeps c k (Err n) h r = h

pub represents : (ds : List Decoded) → Represents (after_all ds) (kept ds)
unfolding after_all kept
represents ds = after_relates refusal_of_decoded keep_decoded Represents refusal_of_case next_of_case refusal_agrees keeps start nothing ds refl

-- the frames kept are those of the list that the rules do not refuse, in order
pub kept_meant : (ds : List Decoded) → kept ds ≡ plain keep_decoded nothing (frames_meant ds)
unfolding kept frames_meant
kept_meant ds = after_meant refusal_of_decoded keep_decoded nothing ds

-- any refused frame inserted in a list, or taken out of it, gives the same case
pub refused_between : (before : List Decoded) (d : Decoded) (later : List Decoded) → (refusal_of_case (after_all before) d ≡ 0 → ⊥) → after_all (before ++ d ∷ later) ≡ after_all (before ++ later)
unfolding after_all
refused_between before d later r = after_without refusal_of_case next_of_case start before d later r

pub after_one_more : (ds : List Decoded) (d : Decoded) → after_all (ds ++ d ∷ []) ≡ tried refusal_of_case next_of_case (after_all ds) d
unfolding after_all
after_one_more ds d = after_end refusal_of_case next_of_case start ds d

-- the frames kept with one more frame tried
pub kept_end : (ds : List Decoded) (d : Decoded) → kept (ds ++ d ∷ []) ≡ tried refusal_of_decoded keep_decoded (kept ds) d
unfolding kept
kept_end ds d = after_end refusal_of_decoded keep_decoded nothing ds d

-- a frame that is not refused joins the frames kept
pub kept_one_more : (ds : List Decoded) (d : Decoded) → refusal_of_decoded (kept ds) d ≡ 0 → kept (ds ++ d ∷ []) ≡ keep_decoded (kept ds) d
unfolding tried
kept_one_more ds d r = kept_end ds d ∙ rw (eq-eqb _ _ r) refl
