-- Which year comes back: the changes that a script's commands make of it.
use Rattle.std.specs.Prelude.{ℕ, cond, List, [], ◌∷◌, ◌++◌, eqb, get_or}
use Rattle.posts.specs.declared.YearPosts.{YearPosts}
use Rattle.posts.specs.Changes.{Change, joins, leaves}
use Rattle.posts.specs.Reached.{Reached}
use Rattle.input.specs.Script.{numbers_of, from_mark}
use Rattle.figures.specs.Posts.{post_from}

-- the changes of the year after a command on numbers: `Y` (89) begins an empty year, at `J` (74) the post of the first four joins, at `L` (76)
-- the one at the position of the first leaves, any other leaves the year as it is
unfoldable pub after_command : ℕ → List ℕ → List Change → List Change
after_command command numbers changes =
    cond (eqb command 89) []
    (cond (eqb command 74) (changes ++ joins (post_from numbers 0) ∷ [])
    (cond (eqb command 76) (changes ++ leaves (get_or numbers 0 0) ∷ [])
    changes))

-- those after a line: its first byte on the numbers of the words from the first `|` (124) on; a line of fewer than two bytes changes nothing
unfoldable pub after_line : List ℕ → List Change → List Change
after_line [] changes = changes
after_line (x ∷ []) changes = changes
after_line (command ∷ x ∷ label) changes = after_command command (numbers_of (from_mark 124 label)) changes

-- a year handed on: by whatever changes it was reached, what comes back is reached by the changes that come of them
pub record HandedOn (year : YearPosts) (next : List Change → List Change) (r : YearPosts) : Type 0 where
  pub after : (changes : List Change) → Reached changes year → Reached (next changes) r
