-- The records call: the records are read one by one, as posts in bytes are.
use Prim.Native.Nat.{ℕ, suc, ◌+◌, ◌<◌, ◌≤◌}
use mathlib.Core.List.{List, [], ◌++◌}
use mathlib.Core.Path.{◌≡◌, sym, ◌∙◌, ap, subst}
use native.Mathlib.Numerals.{add-one}
use Rattle.std.proofs.Common.{take-append-drop}
use lib.ListN.{length, take, drop, get_or}
use lib.Seq.{take-suc, take_all, drop-cons}
use Rattle.measures.specs.declared.Refusal.{Refusal}
use Rattle.measures.specs.Answers.{Answer}
use Rattle.measures.specs.Refusals.{number_of}
use Rattle.measures.proofs.Answering.{answered}
use Rattle.posts.specs.declared.Post.{Post}
use Rattle.posts.specs.declared.YearPosts.{YearPosts}
use Rattle.posts.specs.Posts.{aggregate_pay}
use Rattle.posts.specs.Refusals.{post_refusal, posts_refusal}
use Rattle.posts.specs.Lent.{lent_refusal}
use Rattle.posts.specs.Year.{no_post, posts_of, joining}
use Rattle.posts.specs.Reading.{YearOf}
use Rattle.posts.proofs.ReadingLaws.{Lent, year_of_more, refused_among}
use Rattle.records.specs.Records.{records_answer, records_places, RecordsGiven}

-- the record of a number is read, after those before it
module _ (ys : List Post) (i : ℕ) (y : YearPosts) (g : i < length ys) (so : YearOf (take i ys) y) where
  pub one_refused : (r : Refusal) → number_of r ≡ post_refusal (posts_of y) (get_or ys i no_post) → number_of r ≡ posts_refusal [] ys
  one_refused r e =
      refused_among (take i ys) y so (get_or ys i no_post) (drop (suc i) ys) r e
      ∙ ap (posts_refusal []) (ap (λ (l : List Post). take i ys ++ l) (sym (drop-cons ys i no_post g)) ∙ take-append-drop i ys)

  pub one_more : 0 ≡ post_refusal (posts_of y) (get_or ys i no_post) → (z : YearPosts) → z ≡ joining y (get_or ys i no_post) → YearOf (take (i + 1) ys) z
  one_more e z f = rw (add-one, take-suc ys i no_post g) (year_of_more (take i ys) y so (get_or ys i no_post) e z f)

-- after the last record the year is of them all
pub all_read : (ys : List Post) (i : ℕ) (y : YearPosts) → length ys ≤ i → YearOf (take i ys) y → YearOf ys y
all_read ys i y g so = subst (λ (xs : List Post). YearOf xs y) (take_all i ys g) so

-- the answer and the places after the last record are what the call promises
pub records_given : (ys : List Post) (zs : List ℕ) (a : Answer) (after : List ℕ) → Lent ys zs a after → RecordsGiven ys zs a after
unfolding records_answer records_places
records_given ys zs a after e =
    let t = answered (lent_refusal ys (length zs)) (aggregate_pay ys) a e.0 in
    record { answer = t.0; refusal = t.1.0; number = t.1.1; places = e.1 }
