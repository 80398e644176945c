-- `section::SectionState::pension` meets its contract: without a pay frame of the section there is nothing.
use Rattle.section.proofs.Section.{not_1995, not_2008, no_pay_frame}
use Rattle.section.proofs.SectionState.pension.Goals as goal

pub returns-in_default-clause-pension : goal.returns-in_default-clause-pension
returns-in_default-clause-pension c = let pay = c.in-Some-FinalPay in rw (← c.self.view_is) (not_1995 _ _ _ _ pay.is (rw pay.is at pay.field-0-is) c.if-section-eq1.false)

pub returns-in_default-2-clause-pension : goal.returns-in_default-2-clause-pension
returns-in_default-2-clause-pension c = let pay = c.in-Some-Average in rw (← c.self.view_is) (not_2008 _ _ _ _ pay.is (rw pay.is at pay.field-0-is) c.if-section-eq2.false)

pub returns-in_default-3-clause-pension : goal.returns-in_default-3-clause-pension
returns-in_default-3-clause-pension c = rw (← c.self.view_is) (no_pay_frame _ _ c.in_default.is)
