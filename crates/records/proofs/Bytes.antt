-- The call on records and the call on bytes: where bytes spell the records, both give the same answer and leave the same places.
use Prim.Native.Nat.{ℕ, ◌%◌}
use mathlib.Core.List.{List}
use mathlib.Core.Path.{◌≡◌, refl}
use lib.ListN.{length}
use Rattle.posts.specs.Limits.{bytes_of_post}
use Rattle.posts.specs.Lent.{lent_refusal}
use Rattle.posts.specs.Call.{posts_in, call_refusal, call_answer, places_after}
use Rattle.posts.proofs.Calling.{call_even}
use Rattle.records.specs.Records.{records_answer, records_places}

-- "23 goes by 12 bytes" (2.7): a length that is a multiple of it is that of whole posts
module _ (bytes : List ℕ) (whole : length bytes % bytes_of_post ≡ 0) where
  pub same_refusal : (places : ℕ) → call_refusal bytes places ≡ lent_refusal (posts_in bytes) places
  same_refusal places = call_even bytes places whole

  pub same_answer : (places : ℕ) → call_answer bytes places ≡ records_answer (posts_in bytes) places
  unfolding call_answer records_answer
  same_answer places = rw (same_refusal places) refl

  pub same_places : (places : List ℕ) → places_after bytes places ≡ records_places (posts_in bytes) places
  unfolding places_after records_places
  same_places places = rw (same_refusal (length places)) refl
