-- `posts::YearPosts::take_out` meets its contract.
use native.Mathlib.Omega.{arith}
use Rattle.posts.specs.YearFields.{year_of}
use Rattle.posts.proofs.Standing.{place_in}
use Rattle.posts.proofs.Moving.{leaver_minutes, leaver_weighted, leaver_wholes, taken_out}
use Rattle.posts.proofs.YearPosts.take_out.Goals as goal

pub overflow_sub-self-2 : goal.overflow_sub-self-2
overflow_sub-self-2 c = omega (arith, leaver_minutes (year_of c.self.inside) c.args.at c.self.invariant (place_in c.args.at c.self.view_is c.requires.place))

pub overflow_sub-self-3 : goal.overflow_sub-self-3
overflow_sub-self-3 c = omega (arith, c.weighted_week.ensures.0, leaver_weighted (year_of c.self.inside) c.args.at c.self.invariant (place_in c.args.at c.self.view_is c.requires.place))

pub overflow_sub-self-4 : goal.overflow_sub-self-4
overflow_sub-self-4 c = omega (arith, c.whole_times.ensures.0, leaver_wholes (year_of c.self.inside) c.args.at c.self.invariant (place_in c.args.at c.self.view_is c.requires.place))

pub invariant_of-self : goal.invariant_of-self
invariant_of-self c =
    (taken_out (year_of c.self.inside) c.args.at c.self.invariant (place_in c.args.at c.self.view_is c.requires.place) _ c.self.view_is _ _ _ _ _
    c.lowered-self-inside.ensures c.copy_within.ensures.after c.copy_within-2.ensures.after c.weighted_week.ensures.0 c.whole_times.ensures.0).0

pub returns : goal.returns
returns c =
    rw (← c.self.view_is)
    (taken_out (year_of c.self.inside) c.args.at c.self.invariant (place_in c.args.at c.self.view_is c.requires.place) _ c.self.view_is _ _ _ _ _
    c.lowered-self-inside.ensures c.copy_within.ensures.after c.copy_within-2.ensures.after c.weighted_week.ensures.0 c.whole_times.ensures.0)
