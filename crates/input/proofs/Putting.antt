-- A list put at the start of places, one number after the other; and a list put behind another.
use Prim.Native.Nat.{ℕ, zero, suc, ◌+◌, ◌≤◌, ◌<◌, min}
use mathlib.Core.Path.{◌≡◌, refl, sym, ap, ◌∙◌}
use mathlib.Core.List.{List, [], ◌∷◌, ◌++◌, append_assoc}
use native.Mathlib.Nat.{min-eq_left, min-eq_right, min-le_right, zero-min, min-zero, suc-min-suc}
use native.Mathlib.Omega.{arith}
use lib.ListN.{length, take, drop, set, length-append, length-set}
use lib.Seq.{append_snoc, set_at, take_at, drop-drop, drop-append-add, length-take-le}
use Rattle.io.proofs.Counting.{prefix_len_of_le}
use Rattle.input.specs.Script.{PutIn}
use Rattle.input.specs.Spelling.{put_at}
use Rattle.input.proofs.Rest.{rest_at}

-- the first n places hold the list's first numbers, `rest` is what is left of it, and the other places are as they were
pub record Putting (list places rest after : List ℕ) (n : ℕ) : Type 0 where
  pub done : List ℕ
  pub many : length done ≡ n
  pub whole : list ≡ done ++ rest
  pub is : after ≡ done ++ drop n places
  pub room : n ≤ length places
  pub same : length after ≡ length places

pub put_none : (list places : List ℕ) → Putting list places list places 0
put_none list places =
    record { done = []; many = refl; whole = refl; is = refl; room = omega arith; same = refl }

module _ {list places rest after : List ℕ} {n : ℕ} (p : Putting list places rest after n) where
  pub put_more : {v x : ℕ} {more : List ℕ} → rest ≡ x ∷ more → v ≡ x → n < length places → Putting list places more (set after n v) (n + 1)
  put_more {v} {x} {more} e i l =
      record {
        done = p.done ++ v ∷ [];
        many = length-append p.done (v ∷ []) ∙ ap (λ (k : ℕ). k + 1) p.many;
        whole = p.whole ∙ ap (λ (r : List ℕ). p.done ++ r) (rw i e) ∙ sym (append_snoc p.done v more);
        is =
            ap (λ (s : List ℕ). set s n v) (p.is ∙ ap (λ (r : List ℕ). p.done ++ r) (rest_at places n 0 l))
            ∙ set_at p.done _ (drop (n + 1) places) v n p.many
            ∙ sym (append_snoc p.done v (drop (n + 1) places));
        room = omega arith;
        same = length-set after n v ∙ p.same;
      }

  long : length list ≡ n + length rest
  long = ap length p.whole ∙ length-append p.done rest ∙ ap (λ (k : ℕ). k + length rest) p.many

  put_in : n ≡ min (length places) (length list) → PutIn list places after n
  put_in m =
      record {
        count = m;
        is =
            p.is
            ∙ ap (λ (s : List ℕ). s ++ drop n places)
            (sym (ap (λ (s : List ℕ). take n s) p.whole ∙ take_at p.done rest n p.many));
        within = prefix_len_of_le n after (omega arith);
      }

  pub put_all : rest ≡ [] → PutIn list places after n
  put_all e =
      let l : length list ≡ n = omega (arith, long, ap length e) in
      put_in (sym l ∙ sym (min-eq_right (omega arith)))

  pub put_full : length places ≤ n → PutIn list places after n
  put_full f =
      let l : n ≡ length places = omega arith in
      put_in (l ∙ sym (min-eq_left (omega (arith, long))))

take_min : (n : ℕ) (list : List ℕ) → take (min n (length list)) list ≡ take n list
take_min zero list = rw zero-min
take_min (suc n) [] = rw min-zero
take_min (suc n) (x ∷ list) = rw suc-min-suc (ap (λ (rest : List ℕ). x ∷ rest) (take_min n list))

-- the places that were put hold as much of the list as there are places for
pub put_start : {list places after : List ℕ} {n : ℕ} → PutIn list places after n → take n after ≡ take (length places) list
put_start {list} {places} {after} {n} p =
    ap (λ (s : List ℕ). take n s) p.is
    ∙ take_at (take n list) (drop n places) n (length-take-le n list (omega (arith, p.count, min-le_right (length places) (length list))))
    ∙ ap (λ (k : ℕ). take k list) p.count
    ∙ take_min (length places) list

pub put_then : (xs ys bytes : List ℕ) (at next : ℕ) {first second : List ℕ} → first ≡ put_at xs at bytes → second ≡ put_at ys next first → next ≡ at + length xs → next ≤ length bytes → second ≡ put_at (xs ++ ys) at bytes
unfolding put_at
put_then xs ys bytes at next {first} e f is room =
    let head : List ℕ = take at bytes ++ xs in
    let all : at + length xs + length ys ≡ at + length (xs ++ ys) = omega (arith, length-append xs ys) in
    let long : length head ≡ next =
    length-append (take at bytes) xs
    ∙ ap (λ (k : ℕ). k + length xs) (length-take-le at bytes (omega arith))
    ∙ sym is in
    let front : take next first ≡ head = ap (λ (s : List ℕ). take next s) e ∙ take_at head _ next long in
    let back : drop (next + length ys) first ≡ drop (at + length (xs ++ ys)) bytes =
    ap (λ (s : List ℕ). drop (next + length ys) s) e
    ∙ ap (λ (k : ℕ). drop (k + length ys) (head ++ drop (at + length xs) bytes)) (sym long)
    ∙ drop-append-add head (drop (at + length xs) bytes) (length ys)
    ∙ drop-drop (length ys) (at + length xs) bytes
    ∙ ap (λ (k : ℕ). drop k bytes) all in
    f
    ∙ ap (λ (s : List ℕ). s ++ ys ++ drop (next + length ys) first) front
    ∙ ap (λ (s : List ℕ). head ++ ys ++ s) back
    ∙ ap (λ (s : List ℕ). s ++ drop (at + length (xs ++ ys)) bytes) (append_assoc (take at bytes) xs ys)
