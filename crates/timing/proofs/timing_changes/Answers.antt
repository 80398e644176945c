-- `timing::timing_changes` meets its contract.
use Rattle.std.proofs.Common.{◌/◌, length, refl}
use Rattle.posts.specs.Call.{posts_in}
use Rattle.posts.specs.Year.{posts_of}
use Rattle.timing.specs.Timing.{bytes_of_replacement, aggregates_of}
use Rattle.timing.proofs.Changing.{sum_begun, sum_more, sum_ended}
use Rattle.timing.proofs.timing_changes.Goals as goal

pub loop-i-init : goal.loop-i-init
unfolding aggregates_of posts_in
loop-i-init c =
    let all = sum_begun c.args.replacements.now (length c.args.replacements.now / bytes_of_replacement) (posts_of c.joined_by-year.result) in
    rw (← c.joined_by-year.ensures) all

pub loop-i-preserved : goal.loop-i-preserved
loop-i-preserved c =
    let l = c.loop-i in
    let more = sum_more _ _ _ l.i (posts_of l.year) l.sum l.invariant c.loop-i-test.true _ _ _ in
    more c.with_replacement-year.ensures c.aggregate_of-sum.ensures refl

pub returns : goal.returns
returns c = let l = c.loop-i in sum_ended _ _ _ l.i (posts_of l.year) l.sum l.invariant c.loop-i-test.false
