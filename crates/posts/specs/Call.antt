-- "Posts apart": the posts of a year in bytes.
use Rattle.std.specs.Prelude.{ℕ, zero, suc, ◌+◌, ◌*◌, ◌/◌, ◌%◌, List, [], ◌∷◌, eqb, length}
use Rattle.measures.specs.Answers.{Answer, answer_with}
use Rattle.measures.specs.Refusals.{unless, first_refusal}
use Rattle.fields.specs.Fields.{two_at, four_at}
use Rattle.posts.specs.declared.Post.{Post}
use Rattle.posts.specs.Limits.{bytes_of_post}
use Rattle.posts.specs.Posts.{post_of, aggregate_pay}
use Rattle.posts.specs.Lent.{lent_refusal, places_unless}

-- "03 post: h 2, w 2, p 4"; "A post gains a supplement s of 4 bytes at its end, in frames and in the posts call" (2.7): the post whose
-- fields begin at a place of the bytes
unfoldable pub post_at : List ℕ → ℕ → Post
post_at bytes at = post_of (two_at bytes at) (two_at bytes (at + 2)) (four_at bytes (at + 4)) (four_at bytes (at + 8))

-- "8 bytes each, as in 03", with the supplement 12: n posts, the first of them that of this number, counted from 0
unfoldable pub posts_from : List ℕ → ℕ → ℕ → List Post
posts_from bytes number zero = []
posts_from bytes number (suc n) = post_at bytes (bytes_of_post * number) ∷ posts_from bytes (suc number) n

-- all the posts in the bytes
unfoldable pub posts_in : List ℕ → List Post
posts_in bytes = posts_from bytes 0 (length bytes / bytes_of_post)

-- "23, length no multiple of 8", where "23 goes by 12 bytes" (2.7); "21, over 16; 22, fewer lent places for parts than posts; then by post 7, 8."
unfoldable pub call_refusal : List ℕ → ℕ → ℕ
call_refusal bytes places = first_refusal (unless (eqb (length bytes % bytes_of_post) 0) 23) (lent_refusal (posts_in bytes) places)

-- "accepted, it gives the aggregate"; "gives 0 for its number when refused"
unfoldable pub call_answer : List ℕ → ℕ → Answer
call_answer bytes places = answer_with (call_refusal bytes places) (aggregate_pay (posts_in bytes))

-- each lent place after the call
unfoldable pub places_after : List ℕ → List ℕ → List ℕ
places_after bytes places = places_unless (call_refusal bytes (length places)) (posts_in bytes) places
