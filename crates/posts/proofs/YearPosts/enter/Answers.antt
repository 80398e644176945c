-- `posts::YearPosts::enter` meets its contract: the invariant is `Entering`, the posts passed compared with the one that joins.
use mathlib.Core.Path.{sym, subst}
use mathlib.Core.Bool.{not}
use lib.ListN.{get_or}
use Rattle.posts.specs.Posts.{h}
use Rattle.posts.specs.Year.{no_post, Held}
use Rattle.posts.specs.YearFields.{year_of}
use Rattle.posts.proofs.Standing.{unrefused_in, joins_stands, held_joined, minutes_few, minutes_within}
use Rattle.posts.proofs.Turns.{minutes_if_most, before_most}
use Rattle.posts.proofs.Moving.{entering_stands, entering_minutes, entering_turn, entered}
use native.Mathlib.Omega.{arith}
use Rattle.posts.proofs.YearPosts.enter.Goals as goal

pub goes_before-ahead-requires : goal.goes_before-ahead-requires
goes_before-ahead-requires c =
    let y = year_of c.self.inside in
    (entering_stands y c.args.x c.self.invariant _ _ c.loop-i.i c.loop-i.invariant c.loop-i-test.true, joins_stands y c.args.x c.self.invariant (unrefused_in c.args.x c.self.view_is c.requires.unrefused))

pub overflow_add-self : goal.overflow_add-self
overflow_add-self c =
    let y = year_of c.self.inside in
    omega (
      arith,
      c.self.invariant.few,
      minutes_few y c.self.invariant,
      before_most y c.self.invariant c.loop-i.i c.loop-i-test.true,
      entering_minutes y c.args.x c.self.invariant (year_of c.loop-i.self-inside) _ c.loop-i.i c.loop-i.invariant,
      minutes_within c.args.x (joins_stands (year_of c.self.inside) c.args.x c.self.invariant (unrefused_in c.args.x c.self.view_is c.requires.unrefused)),
      c.minutes_if.ensures,
      minutes_if_most c.goes_before-ahead.result (h c.args.x),
    )

pub overflow_add-before : goal.overflow_add-before
overflow_add-before c =
    let z = get_or c.loop-i.self-inside.list c.loop-i.i no_post in
    omega (arith, c.self.invariant.few, c.loop-i.invariant.most, minutes_within z (entering_stands (year_of c.self.inside) c.args.x c.self.invariant _ _ c.loop-i.i c.loop-i.invariant c.loop-i-test.true), c.minutes_if-in-loop-i.ensures, minutes_if_most (not c.goes_before-ahead.result) (h z))

pub loop-i-preserved : goal.loop-i-preserved
loop-i-preserved c =
    let z = get_or c.loop-i.self-inside.list c.loop-i.i no_post in
    let few = minutes_within z (entering_stands (year_of c.self.inside) c.args.x c.self.invariant _ _ c.loop-i.i c.loop-i.invariant c.loop-i-test.true) in
    entering_turn (year_of c.self.inside) c.args.x c.self.invariant (year_of c.loop-i.self-inside) _ c.loop-i.i _ _ c.goes_before-ahead.result c.loop-i.invariant c.loop-i-test.true
    c.goes_before-ahead.ensures c.minutes_if.ensures c.minutes_if-in-loop-i.ensures
    (omega (arith, few, c.minutes_if-in-loop-i.ensures, minutes_if_most (not c.goes_before-ahead.result) (h z)))

pub invariant_of-self : goal.invariant_of-self
invariant_of-self c =
    let y = year_of c.self.inside in
    let unrefused = unrefused_in c.args.x c.self.view_is c.requires.unrefused in
    subst Held (sym (entered y c.args.x c.self.invariant unrefused (year_of c.loop-i.self-inside) _ c.loop-i.i _ _ c.loop-i.invariant c.loop-i-test.false c.weighted_week.ensures.0 c.whole_times.ensures.0))
    (held_joined y c.args.x c.self.invariant unrefused)

pub returns : goal.returns
returns c =
    let y = year_of c.self.inside in
    rw (← c.self.view_is)
    (entered y c.args.x c.self.invariant (unrefused_in c.args.x c.self.view_is c.requires.unrefused) (year_of c.loop-i.self-inside) _ c.loop-i.i _ _ c.loop-i.invariant c.loop-i-test.false
    c.weighted_week.ensures.0 c.whole_times.ensures.0)
