-- `posts::YearPosts::lowered` meets its contract: the invariant is `Leaving`, the posts passed compared with the one that leaves.
use native.Mathlib.Omega.{arith}
use Rattle.posts.specs.YearFields.{year_of}
use Rattle.posts.proofs.Standing.{place_in, place_stands}
use Rattle.posts.proofs.Moving.{leaving_fits, leaving_turn, leaving_end}
use Rattle.posts.proofs.YearPosts.lowered.Goals as goal

pub offset_bounds-self-inside-at : goal.offset_bounds-self-inside-at
offset_bounds-self-inside-at c = omega (arith, c.self.invariant.few, place_in c.args.at c.self.view_is c.requires.place)

pub goes_before-behind-requires : goal.goes_before-behind-requires
goes_before-behind-requires c =
    let y = year_of c.self.inside in
    (place_stands y c.self.invariant c.loop-i.i c.loop-i-test.true, place_stands y c.self.invariant c.args.at (place_in c.args.at c.self.view_is c.requires.place))

pub overflow_sub-ranking : goal.overflow_sub-ranking
overflow_sub-ranking c =
    let inside = place_in c.args.at c.self.view_is c.requires.place in
    leaving_fits (year_of c.self.inside) c.args.at c.self.invariant inside c.loop-i.ranking c.loop-i.i _ c.goes_before-behind.result c.loop-i.invariant c.loop-i-test.true
    c.goes_before-behind.ensures c.minutes_if.ensures

pub loop-i-preserved : goal.loop-i-preserved
loop-i-preserved c =
    let inside = place_in c.args.at c.self.view_is c.requires.place in
    leaving_turn (year_of c.self.inside) c.args.at c.self.invariant inside c.loop-i.ranking c.loop-i.i _ c.goes_before-behind.result c.loop-i.invariant c.loop-i-test.true
    c.goes_before-behind.ensures c.minutes_if.ensures

pub returns : goal.returns
returns c =
    let inside = place_in c.args.at c.self.view_is c.requires.place in
    rw (← c.self.view_is)
    (leaving_end (year_of c.self.inside) c.args.at c.self.invariant inside c.loop-i.ranking c.loop-i.i c.loop-i.invariant c.loop-i-test.false)
