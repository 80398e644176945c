-- The refusals of posts.
use Rattle.std.specs.Prelude.{ℕ, ◌≡◌, Bool, true, ◌&&◌, not, List, [], ◌∷◌, ◌++◌, leb, ltb, length}
use Rattle.measures.specs.Limits.{highest_pay, highest_supplement, most_posts}
use Rattle.measures.specs.Refusals.{unless, first_refusal}
use Rattle.posts.specs.declared.Post.{Post}
use Rattle.posts.specs.Limits.{longest_week}
use Rattle.posts.specs.Posts.{h, w, p, s, whole_time, any_whole_time}

-- "7, h = 0, h above w, w above 10,080, p above 1,000,000,000"; "It refuses within 7 a supplement above 1,000,000,000." (2.7)
unfoldable pub post_stands : Post → Bool
post_stands x = leb 1 (h x) && leb (h x) (w x) && leb (w x) longest_week && leb (p x) highest_pay && leb (s x) highest_supplement

-- 7 does not refuse its fields
abbrev pub Stands : Post → Type 0
Stands x = post_stands x ≡ true

-- "a 17th post. 8, after 7, a second whole-time post.": the refusal of a post after those before it in its year
unfoldable pub post_refusal : List Post → Post → ℕ
post_refusal before x =
    first_refusal (unless (post_stands x && ltb (length before) most_posts) 7)
    (unless (not (whole_time x && any_whole_time before)) 8)

-- "then by post 7, 8": the refusal of the first post that is refused, each tried after those before it
unfoldable pub posts_refusal : List Post → List Post → ℕ
posts_refusal before [] = 0
posts_refusal before (x ∷ xs) = first_refusal (post_refusal before x) (posts_refusal (before ++ x ∷ []) xs)
