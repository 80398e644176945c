-- `benefits::final_pay` meets its contract: the pays are compared from the last year.
use mathlib.Core.Path.{sym}
use Rattle.measures.proofs.Amounts.{is_higher, at_most, above}
use Rattle.benefits.proofs.Highest.{best_1, best_2, best_3}
use Rattle.benefits.proofs.final_pay.Goals as goal

pub returns-then-le : goal.returns-then-le
returns-then-le c =
    let earlier = is_higher c.args.f.pay3 c.args.f.pay2 c.max.ensures in
    sym (best_1 _ (rw (← earlier) (at_most c.if-le.ensures)))

pub returns-then-le-2 : goal.returns-then-le-2
returns-then-le-2 c =
    let earlier = is_higher c.args.f.pay3 c.args.f.pay2 c.max.ensures in
    sym (best_2 _ (rw (← earlier) (above c.if-le.ensures)) (at_most c.if-le-2.ensures))

pub returns : goal.returns
returns c =
    let earlier = is_higher c.args.f.pay3 c.args.f.pay2 c.max.ensures in
    sym (best_3 _ (rw (← earlier) (above c.if-le.ensures)) (above c.if-le-2.ensures))
