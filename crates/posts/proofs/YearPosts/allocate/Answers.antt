-- `posts::YearPosts::allocate` meets its contract: the invariant is `Upto`, the parts, the pay and its way of the posts passed.
use mathlib.Core.Path.{sym, ◌∙◌, ap}
use native.Mathlib.Nat.{le_trans, le_of_eq}
use native.Mathlib.Omega.{arith}
use lib.ListN.{get_or}
use Rattle.posts.specs.declared.YearPosts.{YearPosts}
use Rattle.posts.specs.Posts.{parts}
use Rattle.posts.specs.Year.{posts_of}
use Rattle.posts.specs.YearFields.{year_of}
use Rattle.posts.proofs.Standing.{place_stands, minutes_few, minutes_some}
use Rattle.posts.proofs.Turns.{upto_start, upto_turn, upto_end, part_most}
use Rattle.posts.proofs.YearPosts.allocate.Goals as goal

pub loop-i-init : goal.loop-i-init
loop-i-init c = upto_start (year_of c.self.inside) c.self.invariant

pub pay_for-earned-requires : goal.pay_for-earned-requires
pay_for-earned-requires c =
    let y = year_of c.self.inside in
    let g = c.loop-i-test.true in
    let part = c.part_of-part.ensures ∙ ap (λ (z : YearPosts). get_or (parts (posts_of z)) c.loop-i.i 0) (sym c.self.view_is) in (
      place_stands y c.self.invariant c.loop-i.i g,
      le_trans (le_of_eq part) (part_most y c.self.invariant c.loop-i.i g),
      minutes_some y c.self.invariant (omega arith),
      omega (arith, c.self.invariant.few, minutes_few y c.self.invariant),
    )

pub loop-i-preserved : goal.loop-i-preserved
loop-i-preserved c =
    upto_turn (year_of c.self.inside) c.self.invariant _ _ _ c.loop-i.i _ _ _ _ c.loop-i.invariant c.loop-i-test.true (c.part_of-part.ensures ∙ ap (λ (z : YearPosts). get_or (parts (posts_of z)) c.loop-i.i 0) (sym c.self.view_is))
    c.pay_for-earned.ensures.0 c.pay_for-earned.ensures.2 c.pay_for-earned.ensures.1 c.either_way-allocation.ensures

pub returns : goal.returns
returns c =
    let e = upto_end (year_of c.self.inside) c.self.invariant _ _ _ c.loop-i.i c.loop-i.invariant c.loop-i-test.false in
    rw (← c.self.view_is) (record { parts = e.0; aggregate = e.1; way = e.2 })
