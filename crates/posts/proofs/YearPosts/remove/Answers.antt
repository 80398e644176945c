-- `posts::YearPosts::remove` meets its contract.
use mathlib.Core.Path.{◌≡◌, sym, ◌∙◌, ap}
use Prim.Native.Nat.{◌-◌}
use Rattle.std.proofs.Common.{rules, Err}
use Rattle.posts.specs.declared.YearPosts.{YearPosts}
use Rattle.posts.specs.Changes.{without}
use Rattle.posts.specs.Year.{posts_of}
use Rattle.posts.specs.YearFields.{year_of}
use Rattle.posts.proofs.Changing.{leave_refused, leave_made}
use Rattle.posts.proofs.YearPosts.remove.Goals as goal

pub returns-in_err-check_position : goal.returns-in_err-check_position
returns-in_err-check_position c =
    let r : c.from_residual.result ≡ Err c.in_err-check_position.field-0.0 = search rules in
    rw (r, ← c.self.view_is) (leave_refused (year_of c.self.inside) c.self.invariant c.args.position c.in_err-check_position.field-0.0 c.in_err-check_position.ensures)

pub returns : goal.returns
returns c =
    rw (← c.self.view_is)
    (leave_made (year_of c.self.inside) c.self.invariant c.args.position c.in_ok-check_position.ensures _ c.take_out.ensures.0 (c.take_out.ensures.1 ∙ ap (λ (y : YearPosts). without (c.args.position - 1) (posts_of y)) (sym c.self.view_is)))
