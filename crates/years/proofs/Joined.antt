-- A year that a post joins, from its two parts.
use mathlib.Core.Path.{◌≡◌, sym, ◌∙◌}
use Rattle.measures.specs.Refusals.{number_beside}
use Rattle.posts.specs.declared.Post.{Post}
use Rattle.posts.specs.declared.YearPosts.{YearPosts}
use Rattle.posts.specs.declared.Changed.{Changed}
use Rattle.posts.specs.Refusals.{post_refusal}
use Rattle.posts.specs.Year.{posts_of, joined_by, joining}
use Rattle.posts.proofs.Standing.{joining_year}

pub join_accepted : (y : YearPosts) (x : Post) → post_refusal (posts_of y) x ≡ 0 → (r : Changed) → r.year ≡ joined_by y x → number_beside r.refusal ≡ 0
    → (r.year ≡ joining y x) × (number_beside r.refusal ≡ post_refusal (posts_of y) x)
join_accepted y x z r e f = (e ∙ sym (joining_year y x z), f ∙ sym z)
