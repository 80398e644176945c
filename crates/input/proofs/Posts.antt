-- The bytes of posts, one post after the other.
use Prim.Native.Nat.{ℕ, ◌+◌, ◌*◌, ◌≤◌, ◌<◌}
use mathlib.Core.List.{List, [], ◌++◌, append_assoc, append-nil}
use mathlib.Core.Path.{◌≡◌, refl, sym, ap, ◌∙◌}
use native.Mathlib.Omega.{arith}
use lib.ListN.{length, get_or, take, drop, length-append, drop_of_length-le}
use lib.Seq.{take_at, take_all, length-take-le}
use Rattle.fields.specs.Fields.{one_at, two_at, four_at}
use Rattle.posts.specs.declared.Post.{Post}
use Rattle.posts.specs.Limits.{bytes_of_post, too_many_posts}
use Rattle.posts.specs.Posts.{h, w, p, s, post_of}
use Rattle.posts.specs.Call.{post_at}
use Rattle.input.specs.Spelling.{two_bytes, four_bytes, post_bytes, posts_bytes, put_at}
use Rattle.input.proofs.Rest.{rest_at}

post_bytes_lem : (x : Post) → length (post_bytes x) ≡ bytes_of_post
unfolding post_bytes four_bytes two_bytes
post_bytes_lem x = refl

-- the bytes of the first i posts, and behind them those of the others, are the bytes of all
pub record Spelling (list : List Post) (bytes : List ℕ) (i : ℕ) : Type 0 where
  pub few : i ≤ too_many_posts
  pub room : length bytes ≡ bytes_of_post * too_many_posts
  pub is : take (bytes_of_post * i) bytes ++ posts_bytes (drop i list) ≡ posts_bytes list

module _ {list : List Post} {bytes : List ℕ} {i : ℕ} (so : Spelling list bytes i) where
  pub post_more : {after : List ℕ} (none : Post) → length list ≡ too_many_posts → i < too_many_posts → length after ≡ length bytes → after ≡ put_at (post_bytes (get_or list i none)) (bytes_of_post * i) bytes → Spelling list after (i + 1)
  unfolding posts_bytes put_at
  post_more {after} none long l same e =
      let x : Post = get_or list i none in
      let head : List ℕ = take (bytes_of_post * i) bytes ++ post_bytes x in
      let many : length head ≡ bytes_of_post * (i + 1) =
      length-append (take (bytes_of_post * i) bytes) (post_bytes x) ∙ omega (arith, post_bytes_lem x, length-take-le (bytes_of_post * i) bytes (omega arith)) in
      let front : take (bytes_of_post * (i + 1)) after ≡ head = ap (λ (b : List ℕ). take (bytes_of_post * (i + 1)) b) e ∙ take_at head _ (bytes_of_post * (i + 1)) many in
      let rest : posts_bytes (drop i list) ≡ post_bytes x ++ posts_bytes (drop (i + 1) list) = rw (rest_at list i none (omega arith)) in
      record {
        few = omega arith;
        room = same ∙ so.room;
        is =
            ap (λ (b : List ℕ). b ++ posts_bytes (drop (i + 1) list)) front
            ∙ append_assoc (take (bytes_of_post * i) bytes) (post_bytes x) (posts_bytes (drop (i + 1) list))
            ∙ ap (λ (b : List ℕ). take (bytes_of_post * i) bytes ++ b) (sym rest)
            ∙ so.is;
      }

  pub posts_all : length list ≡ too_many_posts → too_many_posts ≤ i → bytes ≡ posts_bytes list
  unfolding posts_bytes
  posts_all long l =
      sym (append-nil bytes)
      ∙ ap (λ (b : List ℕ). b ++ []) (sym (take_all (bytes_of_post * i) bytes (omega (arith, so.room))))
      ∙ ap (λ (xs : List Post). take (bytes_of_post * i) bytes ++ posts_bytes xs) (sym (drop_of_length-le list {i = i} (omega arith)))
      ∙ so.is

same_post : (x : Post) {a b c d : ℕ} → a ≡ h x → b ≡ w x → c ≡ p x → d ≡ s x → post_of a b c d ≡ x
same_post x e f g k = rw (e, f, g, k) refl

-- what is spelled is what the posts call reads, where the fields fit their widths
pub read_back : (x : Post) → h x < 65536 → w x < 65536 → p x < 4294967296 → s x < 4294967296 → post_at (post_bytes x) 0 ≡ x
unfolding post_at four_at two_at one_at post_bytes four_bytes two_bytes
read_back x h_fits w_Fits p-fits s-fits = same_post x (omega arith) (omega arith) (omega arith) (omega arith)
