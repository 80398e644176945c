-- `running::lines::offer` hands back the case with the frames of the words.
use native.Mathlib.Omega.{arith}
use lib.Dec.{eqb}
use Prim.Native.Nat.{◌<◌}
use lib.ListN.{length, drop}
use borrow.Author.Rules.{rules}
use borrow.Author.Tests.{tests}
use Rattle.std.proofs.lemmas.Iterator.Consumers.{YieldsList-turn, YieldsList-end}
use Rattle.std.proofs.lemmas.Iterator.Splits.{YieldsList-from_slice_split}
use Rattle.std.proofs.lemmas.List.{length_push}
use Rattle.running.proofs.Offered.{offered_more, offered_all, offered_no_word, words_split, after_first}
use Rattle.running.proofs.lines.offer.Goals as goal
use Rattle.running.proofs.lines.offer.Goals.{in_default, in-len1-up+in-None}

pub loop-word-preserved : goal.loop-word-preserved
loop-word-preserved c =
    let rest = after_first c.args.frames.now in
    let words = YieldsList-from_slice_split _ (λ x. eqb x 32) (drop 1 c.args.frames.now) (cc) (cc) (cc) (λ x b q k. search (rules, tests)) in
    let at = YieldsList-turn words c.loop-word.yielded _ c.loop-word.yielded_by _ _ c.in-Some.word c.in-Some.is c.next.ensures.steps in
    rw (length_push c.loop-word.yielded c.in-Some.word) (offered_more c.loop-word.invariant c.in-Some.word.now at c.list-case.ensures)

pub returns : goal.returns
returns c =
    elim c.if-frames-lt1.branch [
      | in_default w ↦ rw w.case-is (offered_no_word c.args.frames.now (omega arith) c.requires)
      | in-len1-up+in-None w ↦
          let some : 0 < length c.args.frames.now = omega arith in
          let rest = after_first c.args.frames.now in
          let words = YieldsList-from_slice_split _ (λ x. eqb x 32) (drop 1 c.args.frames.now) (cc) (cc) (cc) (λ x b q k. search (rules, tests)) in
          let end = YieldsList-end words w.loop-word.yielded _ w.loop-word.yielded_by _ _ w.in-None.is w.next.ensures.steps in
          rw w.case-is (offered_all w.loop-word.invariant end.1 c.args.frames.now (words_split c.args.frames.now some))
    ]
