-- "At 16 posts .. one leaving, one joining and one allocation against working the same 16 posts afresh" (2.8): what is worked when these are timed.
use Rattle.std.specs.Prelude.{ℕ, zero, suc, ◌+◌, ◌*◌, ◌/◌, List, [], ◌∷◌, length}
use Rattle.measures.specs.Tries.{after}
use Rattle.fields.specs.Fields.{one_at}
use Rattle.posts.specs.declared.Post.{Post}
use Rattle.posts.specs.Limits.{bytes_of_post}
use Rattle.posts.specs.Posts.{aggregate_pay}
use Rattle.posts.specs.Call.{post_at}
use Rattle.posts.specs.Changes.{Change, joins, leaves, change_refusal, changed_posts}

-- each post of a list joins
unfoldable pub joinings : List Post → List Change
joinings [] = []
joinings (x ∷ xs) = joins x ∷ joinings xs

-- a replacement in bytes: the position that leaves, then the post that joins
abbrev pub bytes_of_replacement : ℕ
bytes_of_replacement = 1 + bytes_of_post

-- the posts after the replacement of a number, counted from 0: one leaving and one joining, of which a refused one alters nothing
unfoldable pub replaced : List ℕ → ℕ → List Post → List Post
replaced bytes number xs =
    let at : ℕ = bytes_of_replacement * number in
    after change_refusal changed_posts xs (leaves (one_at bytes at) ∷ joins (post_at bytes (at + 1)) ∷ [])

-- the sum of the aggregates after each of n replacements, the first of them that of this number
unfoldable pub aggregates_from : List ℕ → ℕ → ℕ → List Post → ℕ
aggregates_from bytes number zero xs = 0
aggregates_from bytes number (suc n) xs = aggregate_pay (replaced bytes number xs) + aggregates_from bytes (suc number) n (replaced bytes number xs)

-- of all the replacements in the bytes
unfoldable pub aggregates_of : List ℕ → List Post → ℕ
aggregates_of bytes xs = aggregates_from bytes 0 (length bytes / bytes_of_replacement) xs
