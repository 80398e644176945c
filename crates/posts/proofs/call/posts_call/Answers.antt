-- `posts::call::posts_call` meets its contract.
use mathlib.Core.Path.{◌≡◌, sym}
use native.Mathlib.Omega.{arith}
use Rattle.std.proofs.Common.{rules, Err}
use Rattle.posts.specs.Call.{posts_in}
use Rattle.posts.proofs.ReadingLaws.{lengths_few, lengths_refused, posts_refused, lent_room, lent_accepted}
use Rattle.posts.proofs.Calling.{call_uneven, call_given, call_room}
use Rattle.posts.proofs.call.posts_call.Goals as goal

pub returns-then-length-ne0 : goal.returns-then-length-ne0
returns-then-length-ne0 c = call_uneven c.args.bytes.now c.args.places.now c.if-length-ne0.true

pub returns-in_err-check_lengths : goal.returns-in_err-check_lengths
returns-in_err-check_lengths c =
    let r : c.from_residual.result ≡ Err c.in_err-check_lengths.field-0.0 = search rules in
    let bytes = c.args.bytes.now in
    let places = c.args.places.now in
    let even = c.if-length-ne0.false in
    rw r (call_given bytes places even _ _ (lengths_refused (posts_in bytes) places _ (call_room bytes places even _ c.in_err-check_lengths.ensures)))

pub read_posts-requires : goal.read_posts-requires
read_posts-requires c = (lengths_few _ _ (sym c.in_ok-check_lengths.ensures), omega arith)

pub returns-in_err-year : goal.returns-in_err-year
unfolding posts_in
returns-in_err-year c =
    let r : c.from_residual-in_err-year.result ≡ Err c.in_err-year.field-0.0 = search rules in
    let bytes = c.args.bytes.now in
    let places = c.args.places.now in
    let even = c.if-length-ne0.false in
    let room = call_room bytes places even _ c.in_ok-check_lengths.ensures in
    rw r (call_given bytes places even _ _ (posts_refused (posts_in bytes) places room _ c.in_err-year.ensures))

pub allocate_into-requires : goal.allocate_into-requires
unfolding posts_in
allocate_into-requires c =
    let bytes = c.args.bytes.now in
    let places = c.args.places.now in
    let room = call_room bytes places c.if-length-ne0.false _ c.in_ok-check_lengths.ensures in
    record { room = lent_room (posts_in bytes) places room _ c.in_ok-year.ensures }

pub returns : goal.returns
unfolding posts_in
returns c =
    let bytes = c.args.bytes.now in
    let places = c.args.places.now in
    let even = c.if-length-ne0.false in
    let room = call_room bytes places even _ c.in_ok-check_lengths.ensures in
    call_given bytes places even _ _
    (lent_accepted (posts_in bytes) places room _ c.in_ok-year.ensures c.allocate_into.result _ c.allocate_into.ensures.aggregate c.allocate_into.ensures.places)
