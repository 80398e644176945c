-- The posts of numbers, one post after the other.
use Prim.Native.Nat.{ℕ, zero, suc, ◌+◌, ◌*◌, ◌<◌}
use mathlib.Core.List.{List, ◌∷◌}
use mathlib.Core.Path.{◌≡◌, sym, ap, ◌∙◌, subst}
use native.Mathlib.Numerals.{add-one}
use native.Mathlib.Omega.{arith}
use lib.ListN.{length, get_or, drop, drop_of_length-le}
use lib.Seq.{drop-cons}
use denote.Param.Members.{Mut, Called}
use Rattle.std.specs.Array.{IsFromFnResultFrom}
use Rattle.posts.specs.declared.Post.{Post}
use Rattle.input.proofs.Rest.{rest_at}
use Rattle.figures.specs.Posts.{post_from, posts_of_numbers}

four_on : (numbers : List ℕ) (at : ℕ) → at + 3 < length numbers → posts_of_numbers (drop at numbers) ≡ post_from numbers at ∷ posts_of_numbers (drop (at + 4) numbers)
unfolding posts_of_numbers
four_on numbers at l =
    rw (rest_at numbers at 0 (omega arith), rest_at numbers (at + 1) 0 (omega arith))
    (let second : at + 1 + 1 ≡ at + 2 = omega arith in
    let third : at + 2 + 1 ≡ at + 3 = omega arith in
    let fourth : at + 3 + 1 ≡ at + 4 = omega arith in
    rw (second, rest_at numbers (at + 2) 0 (omega arith), third, rest_at numbers (at + 3) 0 l, fourth))

-- calls that give the post from each place on, in turn, give the posts of all numbers
module _ {F : Type 0} (g : Mut F (ℕ × Unit {0}) Post) (f : F) (numbers : List ℕ) (list : List Post) (long : length numbers ≡ 4 * length list + 1)
    (each : (k : ℕ) (x : Post) (q : F) → Called g f (k, tt) x q → (q ≡ f) × (x ≡ post_from numbers (4 * k + 1))) where
  pub posts_made : (i n : ℕ) → i + n ≡ length list → IsFromFnResultFrom g f list i n → drop i list ≡ posts_of_numbers (drop (4 * i + 1) numbers)
  unfolding posts_of_numbers
  posts_made i zero e made =
      drop_of_length-le list {i = i} (omega arith)
      ∙ ap posts_of_numbers (sym (drop_of_length-le numbers {i = 4 * i + 1} (omega arith)))
  posts_made i (suc n) e (q, x, at, call, more) =
      let same = each i x q call in
      let next : 4 * i + 1 + 4 ≡ 4 * (i + 1) + 1 = omega arith in
      let further : drop (i + 1) list ≡ posts_of_numbers (drop (4 * (i + 1) + 1) numbers) =
      posts_made (i + 1) n (omega arith) (subst (λ (h : F). IsFromFnResultFrom g h list (i + 1) n) same.0 more) in
      drop-cons list i x (omega arith)
      ∙ ap (λ (k : ℕ). get_or list i x ∷ drop k list) (sym (add-one i))
      ∙ ap (λ (y : Post). y ∷ drop (i + 1) list) (at.0 ∙ same.1)
      ∙ ap (λ (xs : List Post). post_from numbers (4 * i + 1) ∷ xs) further
      ∙ ap (λ (k : ℕ). post_from numbers (4 * i + 1) ∷ posts_of_numbers (drop k numbers)) (sym next)
      ∙ sym (four_on numbers (4 * i + 1) (omega arith))
