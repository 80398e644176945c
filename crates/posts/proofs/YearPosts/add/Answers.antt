-- `posts::YearPosts::add` meets its contract: what it makes of the year and its refusal are what a change promises.
use mathlib.Core.Path.{◌≡◌, sym, ◌∙◌}
use Rattle.std.proofs.Common.{rules, Err}
use Rattle.measures.proofs.Refused.{never_nought}
use Rattle.posts.proofs.Standing.{joining_stays, joining_year}
use Rattle.posts.proofs.Changing.{join_changed}
use Rattle.posts.proofs.YearPosts.add.Goals as goal

pub returns-in_err-check-clause-change : goal.returns-in_err-check-clause-change
returns-in_err-check-clause-change c =
    let e = c.in_err-check.ensures in
    let r : c.from_residual.result ≡ Err c.in_err-check.field-0.0 = search rules in
    let stays = joining_stays c.args.self.now c.args.x (λ z. never_nought c.in_err-check.field-0.0 (e.refusal ∙ z)) in
    rw r (join_changed c.args.self.now c.args.x e.year _ e.refusal (sym stays))

pub returns-clause-change : goal.returns-clause-change
returns-clause-change c =
    let e = c.in_ok-check.ensures in
    join_changed c.args.self.now c.args.x e.year _ e.refusal (c.enter.ensures ∙ sym (joining_year c.args.self.now c.args.x (sym e.refusal)))
