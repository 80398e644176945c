-- `figures::changes::changed` hands back the year after the command, by its byte.
use mathlib.Core.Path.{subst}
use Rattle.posts.specs.declared.Post.{Post}
use Rattle.posts.specs.Changes.{joins}
use Rattle.posts.specs.Reached.{ChangedBy}
use Rattle.figures.proofs.Handed.{year_begun, post_joined, post_left, year_stays}
use borrow.Author.Rules.{rules}
use Rattle.figures.proofs.changes.changed.Goals as goal
use Rattle.figures.proofs.changes.changed.Goals.{in-89, in-74, in-76}

pub returns-in_default : goal.returns-in_default
returns-in_default g c = year_stays _ _ (search rules) (search rules) (search rules)

pub returns : goal.returns
returns g c =
    elim c.match-command.branch [
      | in-89 w ↦ rw w.change-is (year_begun _ _ w.in-89.is w.none.ensures.empty)
      | in-74 w ↦
          let changed = subst (λ (x : Post). ChangedBy c.args.year (joins x) w.join-change.result) w.post.ensures w.join-change.ensures.change in
          rw w.change-is (post_joined _ _ w.in-74.is changed)
      | in-76 w ↦ rw w.change-is (post_left _ _ w.in-76.is w.leave-change.ensures)
    ]
