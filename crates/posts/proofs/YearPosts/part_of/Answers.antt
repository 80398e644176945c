-- `posts::YearPosts::part_of` meets its contract.
use mathlib.Core.Path.{refl, ◌∙◌, ap, ap₂}
use Prim.Native.Nat.{ℕ, ◌-◌, min}
use native.Mathlib.Omega.{arith}
use lib.ListN.{get_or}
use borrow.Author.Tests.{lt-ltb, le-ltb}
use Rattle.posts.specs.Year.{no_post}
use Rattle.posts.specs.YearFields.{year_of}
use Rattle.posts.proofs.Standing.{place_in, place_stands, minutes_few, minutes_within}
use Rattle.posts.proofs.Turns.{part_is, before_most}
use Rattle.posts.proofs.YearPosts.part_of.Goals as goal

pub offset_bounds-self-inside-i : goal.offset_bounds-self-inside-i
offset_bounds-self-inside-i c = omega (arith, c.self.invariant.few, place_in c.args.i c.self.view_is c.requires.place)

pub in_parts-all-requires : goal.in_parts-all-requires
in_parts-all-requires c =
    let y = year_of c.self.inside in
    let inside = place_in c.args.i c.self.view_is c.requires.place in
    let few = minutes_within (get_or y.list c.args.i no_post) (place_stands y c.self.invariant c.args.i inside) in
    (omega (arith, few), omega (arith, c.self.invariant.few, minutes_few y c.self.invariant))

pub returns-then-is_whole_time : goal.returns-then-is_whole_time
returns-then-is_whole_time c =
    let inside = place_in c.args.i c.self.view_is c.requires.place in
    rw (← c.self.view_is)
    (part_is (year_of c.self.inside) c.self.invariant c.args.i _ inside
    (rw (lt-ltb _ _ c.if-self-gt0.true, ← c.is_whole_time.ensures, c.if-is_whole_time.true) c.in_parts-all.ensures))

pub returns-else-is_whole_time : goal.returns-else-is_whole_time
returns-else-is_whole_time c =
    let inside = place_in c.args.i c.self.view_is c.requires.place in
    rw (← c.self.view_is)
    (part_is (year_of c.self.inside) c.self.invariant c.args.i _ inside
    (rw (lt-ltb _ _ c.if-self-gt0.true, ← c.is_whole_time.ensures, c.if-is_whole_time.false) refl))

pub in_parts-taken-requires : goal.in_parts-taken-requires
in_parts-taken-requires c =
    let y = year_of c.self.inside in
    let inside = place_in c.args.i c.self.view_is c.requires.place in
    let few = minutes_few y c.self.invariant in
    (omega (arith, c.self.invariant.few, few, before_most y c.self.invariant c.args.i inside), omega (arith, c.self.invariant.few, few))

pub returns : goal.returns
returns c =
    let y = year_of c.self.inside in
    let inside = place_in c.args.i c.self.view_is c.requires.place in
    rw (← c.self.view_is)
    (part_is y c.self.invariant c.args.i _ inside
    (rw (le-ltb _ _ c.if-self-gt0.false) (c.min.ensures ∙ ap₂ min c.in_parts-all.ensures (c.saturating_sub.ensures ∙ ap (λ (taken : ℕ). y.weighted - taken) c.in_parts-taken.ensures))))
