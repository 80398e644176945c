-- Frames offered one after the other, and the case after a line.
use Rattle.std.specs.List.{slice_split, onto_first}
use Rattle.std.proofs.lemmas.List.{map_push}
use native.Mathlib.Numerals.{add-one}
use Prim.Native.Nat.{ℕ, ◌+◌, ◌-◌, ◌<◌}
use mathlib.Core.List.{List, [], ◌∷◌, ◌++◌, map, append_assoc, append-nil}
use mathlib.Core.Path.{◌≡◌, refl, sym, ap, ◌∙◌}
use mathlib.Core.Bool.{Bool, true, false, cond}
use native.Mathlib.Omega.{arith}
use lib.Dec.{eqb}
use lib.ListN.{length, get_or, take, drop, length-drop}
use lib.Seq.{take-suc, take_all}
use borrow.Author.Tests.{eq-eqb, ne_eqb}
use Rattle.frames.specs.Frames.{Decoded, decoded}
use Rattle.cases.specs.declared.Case.{Case}
use Rattle.cases.specs.declared.Taken.{Taken}
use Rattle.cases.specs.State.{after_all}
use Rattle.cases.specs.Running.{IsCase, TakenFrom}
use Rattle.input.specs.Script.{EndAt, PutIn, bytes_spelled, before, parted_words, words_of, from_mark}
use Rattle.input.proofs.Putting.{put_start}
use Rattle.input.proofs.Words.{from_mark_lem}
use Rattle.running.specs.Offered.{buffer_bytes, frame_of_word, with_words, with_word, after_line, HandedOn}

-- one word is offered
pub handed_one : {c : Case} (word : List ℕ) {buffer bytes : List ℕ} (n : ℕ) {t : Taken} → PutIn (bytes_spelled word) buffer bytes n → buffer_bytes ≡ length buffer → TakenFrom c (decoded (take n bytes)) t → HandedOn c (with_word word) t.case
unfolding with_word frame_of_word
handed_one word {bytes = bytes} n p room t =
    let same : take n bytes ≡ take buffer_bytes (bytes_spelled word) =
    put_start p ∙ ap (λ (k : ℕ). take k (bytes_spelled word)) (sym room) in
    record { is_case = t.is_case; after = λ frames e. rw (← same) (t.after frames e).case }

-- the words that blanks part
abbrev pub split_words : List ℕ → List (List ℕ)
split_words text = slice_split (λ x. eqb x 32) text

-- what stands after the first byte
pub after_first : (text : List ℕ) → take (length text - 1) (drop 1 text) ≡ drop 1 text
after_first text = take_all (length text - 1) (drop 1 text) (simp length-drop (omega arith))

split_on : (blank : Bool) (x : ℕ) (words : List (List ℕ)) → cond blank ([] ∷ words) (onto_first x words) ≡ before blank x words
unfolding before
split_on true x words = refl
split_on false x [] = refl
split_on false x (word ∷ words) = refl

split_parted : (text : List ℕ) → split_words text ≡ parted_words text
unfolding parted_words
split_parted [] = refl
split_parted (x ∷ more) = split_on (eqb x 32) x (split_words more) ∙ ap (λ (ws : List (List ℕ)). before (eqb x 32) x ws) (split_parted more)

-- they are those of a text after its first byte
pub words_split : (text : List ℕ) → 0 < length text → split_words (drop 1 text) ≡ words_of text
unfolding words_of
words_split [] l = absurd (omega arith)
words_split (x ∷ more) l = split_parted more

-- the frames of the first n words are offered
pub record Offering (case : Case) (words : List (List ℕ)) (n : ℕ) (r : Case) : Type 0 where
  pub is_case : IsCase r
  pub after : (frames : List Decoded) → case ≡ after_all frames → r ≡ after_all (frames ++ map frame_of_word (take n words))

module _ {case r : Case} {words : List (List ℕ)} {n : ℕ} (o : Offering case words n r) where
  -- one word more
  pub offered_more : {next : Case} (word : List ℕ) → (n < length words) × (word ≡ get_or words n word) → HandedOn r (with_word word) next → Offering case words (n + 1) next
  unfolding with_word
  offered_more word at h =
      let more : map frame_of_word (take (n + 1) words) ≡ map frame_of_word (take n words) ++ frame_of_word word ∷ [] =
      ap (λ (k : ℕ). map frame_of_word (take k words)) (add-one n)
      ∙ ap (λ (ws : List (List ℕ)). map frame_of_word ws) (take-suc words n word at.0)
      ∙ map_push frame_of_word (take n words) (get_or words n word)
      ∙ ap (λ (w : List ℕ). map frame_of_word (take n words) ++ frame_of_word w ∷ []) (sym at.1) in
      record {
        is_case = h.is_case;
        after =
            λ frames f. h.after (frames ++ map frame_of_word (take n words)) (o.after frames f)
            ∙ ap after_all (append_assoc frames (map frame_of_word (take n words)) (frame_of_word word ∷ []))
            ∙ ap (λ (ds : List Decoded). after_all (frames ++ ds)) (sym more);
      }

  -- after the last word
  pub offered_all : n ≡ length words → (text : List ℕ) → words ≡ words_of text → HandedOn case (with_words text) r
  unfolding with_words
  offered_all l text e =
      record {
        is_case = o.is_case;
        after = λ frames f. rw (← e) (o.after frames f ∙ ap (λ (ws : List (List ℕ)). after_all (frames ++ map frame_of_word ws)) (take_all n words (omega arith)));
      }

-- where there is no word
pub offered_no_word : {c : Case} (text : List ℕ) → length text < 1 → IsCase c → HandedOn c (with_words text) c
unfolding with_words words_of
offered_no_word [] l is = record { is_case = is; after = λ frames e. rw append-nil e }
offered_no_word (x ∷ more) l is = absurd (omega arith)

-- a line of fewer than two bytes
pub new_case : {case r : Case} (text : List ℕ) → length text < 2 → IsCase r → r ≡ after_all [] → HandedOn case (after_line text) r
unfolding after_line
new_case [] l is e = record { is_case = is; after = λ frames f. e }
new_case (x ∷ []) l is e = record { is_case = is; after = λ frames f. e }
new_case (x ∷ y ∷ more) l is e = absurd (omega arith)

-- any other line goes by its first byte
by_command : (text : List ℕ) (frames : List Decoded) → 1 < length text → after_line text frames ≡ cond (eqb (get_or text 0 0) 70) (with_words (from_mark 124 (drop 2 text)) frames) frames
unfolding after_line
by_command [] frames l = absurd (omega arith)
by_command (x ∷ []) frames l = absurd (omega arith)
by_command (x ∷ y ∷ more) frames l = refl

module _ {case : Case} (text : List ℕ) (l : 1 < length text) where
  -- `F`
  pub frames_offered : {rest : List ℕ} → rest ≡ drop 2 text → {r : Case} (bar : ℕ) → get_or text 0 0 ≡ 70 → EndAt rest 0 124 bar → HandedOn case (with_words (take (length rest - bar) (drop bar rest))) r → HandedOn case (after_line text) r
  frames_offered {rest} same bar c e h =
      let marked : take (length rest - bar) (drop bar rest) ≡ from_mark 124 (drop 2 text) =
      take_all (length rest - bar) (drop bar rest) (simp length-drop (omega arith)) ∙ from_mark_lem 124 rest 0 bar e ∙ ap (from_mark 124) same in
      record {
        is_case = h.is_case;
        after = λ frames f. rw (by_command text frames l, eq-eqb (get_or text 0 0) 70 c, ← marked) (h.after frames f);
      }

  -- another byte
  pub other_command : (get_or text 0 0 ≡ 70 → ⊥) → IsCase case → HandedOn case (after_line text) case
  other_command c is =
      record {
        is_case = is;
        after = λ frames f. rw (by_command text frames l, ne_eqb (get_or text 0 0) 70 c) f;
      }
