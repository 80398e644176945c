-- Posts in bytes. "fields are unsigned, big-endian, widths in bytes"
use Rattle.std.specs.Prelude.{ℕ, ◌+◌, ◌/◌, ◌%◌, List, [], ◌∷◌, ◌++◌, length, take, drop}
use Rattle.posts.specs.declared.Post.{Post}
use Rattle.posts.specs.Posts.{h, w, p, s}

-- the last two bytes of a number, the first the higher
unfoldable pub two_bytes : ℕ → List ℕ
two_bytes n = n / 256 % 256 ∷ n % 256 ∷ []

-- its last four
unfoldable pub four_bytes : ℕ → List ℕ
four_bytes n = two_bytes (n / 65536) ++ two_bytes n

-- "03 post: h 2, w 2, p 4"; "a supplement s of 4 bytes at its end" (2.7)
unfoldable pub post_bytes : Post → List ℕ
post_bytes x = two_bytes (h x) ++ two_bytes (w x) ++ four_bytes (p x) ++ four_bytes (s x)

-- one post after the other, each "as in 03"
unfoldable pub posts_bytes : List Post → List ℕ
posts_bytes [] = []
posts_bytes (x ∷ xs) = post_bytes x ++ posts_bytes xs

-- a list at a place of another, over what stood there
unfoldable pub put_at : List ℕ → ℕ → List ℕ → List ℕ
put_at list at bytes = take at bytes ++ list ++ drop (at + length list) bytes
