-- "The posts of one year may also be lent as a list of records": the call on them. "As records: 21, 22, 7, 8."
use Rattle.std.specs.Prelude.{ℕ, ◌≡◌, List, length}
use Rattle.measures.specs.Answers.{Answer, answer_amount, answer_refusal, answer_with, number_unless}
use Rattle.posts.specs.declared.Post.{Post}
use Rattle.posts.specs.Posts.{aggregate_pay}
use Rattle.posts.specs.Lent.{lent_refusal, places_unless}

-- "accepted, it gives the aggregate"; "gives 0 for its number when refused"
unfoldable pub records_answer : List Post → ℕ → Answer
records_answer xs places = answer_with (lent_refusal xs places) (aggregate_pay xs)

-- each lent place after the call
unfoldable pub records_places : List Post → List ℕ → List ℕ
records_places xs places = places_unless (lent_refusal xs (length places)) xs places

-- what the call on records promises, of the lent places before it and after it
pub record RecordsGiven (xs : List Post) (before : List ℕ) (a : Answer) (after : List ℕ) : Type 0 where
  pub answer : a ≡ records_answer xs (length before)
  pub refusal : answer_refusal a ≡ lent_refusal xs (length before)
  pub number : answer_amount a ≡ number_unless (lent_refusal xs (length before)) (aggregate_pay xs)
  pub places : after ≡ records_places xs before
