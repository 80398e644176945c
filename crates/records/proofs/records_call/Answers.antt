-- `records::records_call` meets its contract.
use mathlib.Core.Path.{◌≡◌}
use Rattle.std.proofs.Common.{rules, Err}
use Rattle.posts.proofs.ReadingLaws.{year_of_none, lengths_refused, posts_refused, lent_room, lent_accepted}
use Rattle.records.proofs.Calling.{one_refused, one_more, all_read, records_given}
use Rattle.records.proofs.records_call.Goals as goal

pub returns-in_err-check_lengths : goal.returns-in_err-check_lengths
returns-in_err-check_lengths c =
    let r : c.from_residual.result ≡ Err c.in_err-check_lengths.field-0.0 = search rules in
    rw r (records_given c.args.list.now c.args.places.now _ _ (lengths_refused c.args.list.now c.args.places.now _ c.in_err-check_lengths.ensures))

pub loop-x-init : goal.loop-x-init
loop-x-init c = rw c.none-year.ensures.empty year_of_none

pub returns-in_err-add : goal.returns-in_err-add
returns-in_err-add c =
    let r : c.from_residual-in_err-add.result ≡ Err c.in_err-add.field-0.0 = search rules in
    let one = one_refused c.args.list.now c.loop-x.x-index c.loop-x.year c.loop-x-test.true c.loop-x.invariant _ c.in_err-add.ensures.refusal in
    rw r (records_given c.args.list.now c.args.places.now _ _ (posts_refused c.args.list.now c.args.places.now c.in_ok-check_lengths.ensures _ one))

pub loop-x-preserved : goal.loop-x-preserved
loop-x-preserved c =
    one_more c.args.list.now c.loop-x.x-index c.loop-x.year c.loop-x-test.true c.loop-x.invariant c.in_ok-add.ensures.refusal _ c.add.ensures.year

pub allocate_into-requires : goal.allocate_into-requires
allocate_into-requires c =
    record { room = lent_room c.args.list.now c.args.places.now c.in_ok-check_lengths.ensures c.loop-x.year (all_read _ c.loop-x.x-index _ c.loop-x-test.false c.loop-x.invariant) }

pub returns : goal.returns
returns c =
    records_given c.args.list.now c.args.places.now _ _
    (lent_accepted c.args.list.now c.args.places.now c.in_ok-check_lengths.ensures c.loop-x.year (all_read _ c.loop-x.x-index _ c.loop-x-test.false c.loop-x.invariant) c.allocate_into.result _ c.allocate_into.ensures.aggregate c.allocate_into.ensures.places)
