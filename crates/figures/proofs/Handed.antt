-- The year after a command, and after a line.
use Prim.Native.Nat.{ℕ, zero, suc, ◌+◌, ◌-◌, ◌≤◌, ◌<◌}
use mathlib.Core.Path.{◌≡◌, refl, sym, ap, ◌∙◌, subst}
use mathlib.Core.List.{List, [], ◌∷◌, ◌++◌}
use mathlib.Core.Logic.{⊎_elim}
use native.Mathlib.Omega.{arith}
use native.Mathlib.Nat.{min-le_right}
use lib.ListN.{length, get_or, take, drop, replicate, length-drop, get_or-append, get_or-eq_default}
use lib.Seq.{take_all, length-take-le, get_or-take, get_or-drop, get_or-append-add}
use borrow.Author.Tests.{ne_eqb}
use Rattle.measures.proofs.Tests.{le_or_lt}
use Rattle.posts.specs.declared.YearPosts.{YearPosts}
use Rattle.posts.specs.declared.Changed.{Changed}
use Rattle.posts.specs.Changes.{Change, joins, leaves}
use Rattle.posts.specs.Year.{no_posts}
use Rattle.posts.specs.Reached.{ChangedBy, Reached, start, next}
use Rattle.input.specs.Script.{EndAt, PutIn, numbers_of, from_mark}
use Rattle.input.proofs.Words.{from_mark_lem}
use Rattle.figures.specs.Posts.{post_from}
use Rattle.figures.specs.Changed.{after_command, after_line, HandedOn}

-- ---- a command on numbers

module _ {year : YearPosts} (command : ℕ) (numbers : List ℕ) where
  -- `Y`
  pub year_begun : command ≡ 89 → {r : YearPosts} → r ≡ no_posts → HandedOn year (after_command command numbers) r
  unfolding after_command
  year_begun c {r = r} e =
      record { after = λ changes t. subst (λ (k : ℕ). Reached (after_command k numbers changes) r) (sym c) (subst (Reached []) (sym e) start) }

  -- `J`
  pub post_joined : command ≡ 74 → {r : Changed} → ChangedBy year (joins (post_from numbers 0)) r → HandedOn year (after_command command numbers) r.year
  unfolding after_command
  post_joined c {r = r} e =
      record { after = λ changes t. subst (λ (k : ℕ). Reached (after_command k numbers changes) r.year) (sym c) (next t e) }

  -- `L`
  pub post_left : command ≡ 76 → {r : Changed} → ChangedBy year (leaves (get_or numbers 0 0)) r → HandedOn year (after_command command numbers) r.year
  unfolding after_command
  post_left c {r = r} e =
      record { after = λ changes t. subst (λ (k : ℕ). Reached (after_command k numbers changes) r.year) (sym c) (next t e) }

  -- another
  pub year_stays : (command ≡ 89 → ⊥) → (command ≡ 74 → ⊥) → (command ≡ 76 → ⊥) → HandedOn year (after_command command numbers) year
  unfolding after_command
  year_stays y j l =
      record { after = λ changes t. rw (ne_eqb command 89 y, ne_eqb command 74 j, ne_eqb command 76 l) t }

-- ---- the numbers of words, put in places that hold noughts

abbrev noughts : ℕ → List ℕ
noughts k = replicate k 0

noughts_at : (k i : ℕ) → get_or (noughts k) i 0 ≡ 0
noughts_at zero i = refl
noughts_at (suc k) zero = refl
noughts_at (suc k) (suc i) = noughts_at k i

module _ {room : ℕ} {list after : List ℕ} {n : ℕ} (p : PutIn list (noughts room) after n) (long : length (noughts room) ≡ room) where
  front : length (take n list) ≡ n
  front = length-take-le n list (omega (arith, p.count, min-le_right (length (noughts room)) (length list)))

  number_at : (i : ℕ) → i < room → get_or after i 0 ≡ get_or list i 0
  number_at i g =
      ap (λ (l : List ℕ). get_or l i 0) p.is
      ∙ ⊎_elim
      (λ (l : n ≤ i). past l ∙ sym (get_or-eq_default list 0 (omega (arith, all l))))
      (λ (l : i < n). get_or-append (take n list) (drop n (noughts room)) 0 i (omega (arith, front)) ∙ get_or-take n list i 0 l)
      (le_or_lt n i)
    where
      all : n ≤ i → length list ≤ n
      all l = ⊎_elim (λ (s : length list ≤ n). s) (λ (s : n < length list). absurd (short s)) (le_or_lt (length list) n)
        where
          short : n < length list → ⊥
          short s = omega (arith, p.count)

      past : n ≤ i → get_or (take n list ++ drop n (noughts room)) i 0 ≡ 0
      past l =
          ap (λ (k : ℕ). get_or (take n list ++ drop n (noughts room)) k 0) (let e : i ≡ length (take n list) + (i - n) = omega (arith, front) in e)
          ∙ get_or-append-add (take n list) (drop n (noughts room)) (i - n) 0
          ∙ get_or-drop n (noughts room) (i - n) 0
          ∙ noughts_at room (n + (i - n))

  pub numbers_given : {year r : YearPosts} (command : ℕ) → 3 < room → HandedOn year (after_command command after) r → HandedOn year (after_command command list) r
  unfolding after_command
  numbers_given command four h =
      record {
        after =
            λ changes t. rw (← number_at 0 (omega arith), ← number_at 1 (omega arith), ← number_at 2 (omega arith), ← number_at 3 (omega arith)) (h.after changes t);
      }

-- ---- a line

-- one of fewer than two bytes
pub line_short : {year : YearPosts} (text : List ℕ) → length text < 2 → HandedOn year (after_line text) year
unfolding after_line
line_short [] l = record { after = λ changes t. t }
line_short (x ∷ []) l = record { after = λ changes t. t }
line_short (x ∷ y ∷ more) l = absurd (omega arith)

by_command : (text : List ℕ) (changes : List Change) → 1 < length text → after_line text changes ≡ after_command (get_or text 0 0) (numbers_of (from_mark 124 (drop 2 text))) changes
unfolding after_line
by_command [] changes l = absurd (omega arith)
by_command (x ∷ []) changes l = absurd (omega arith)
by_command (x ∷ y ∷ more) changes l = refl

-- any other goes by its first byte
pub line_done : {year r : YearPosts} (text : List ℕ) → 1 < length text → {rest : List ℕ} → rest ≡ drop 2 text → (bar : ℕ) → EndAt rest 0 124 bar
    → HandedOn year (after_command (get_or text 0 0) (numbers_of (take (length rest - bar) (drop bar rest)))) r
    → HandedOn year (after_line text) r
line_done text l {rest} same bar e h =
    let marked : take (length rest - bar) (drop bar rest) ≡ from_mark 124 (drop 2 text) =
    take_all (length rest - bar) (drop bar rest) (simp length-drop (omega arith)) ∙ from_mark_lem 124 rest 0 bar e ∙ ap (from_mark 124) same in
    record { after = λ changes t. rw (by_command text changes l, ← marked) (h.after changes t) }
