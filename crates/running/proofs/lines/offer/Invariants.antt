-- `running::lines::offer` hands back the case with the frames of the words: each turn's has those so far.
use lib.ListN.{length, drop}
use Rattle.running.proofs.Offered.{Offering, split_words}
use Rattle.running.proofs.lines.offer.Given as goal

abbrev pub invariant-loop-word : goal.invariant-loop-word
invariant-loop-word l = Offering l.initial.case (split_words (drop 1 l.frames)) (length l.yielded) l.case
