-- `averages::pays_within` meets its contract: a test for each pay.
use Rattle.std.proofs.Common.{rules, leb, [], ◌∷◌, List}
use Rattle.std.proofs.lemmas.Iterator.{YieldsList-from_slice}
use Rattle.std.proofs.lemmas.Iterator.Search.{all_from_yields_List}
use Rattle.measures.proofs.Tests.{tests}
use Rattle.measures.specs.Limits.{highest_pay}
use Rattle.measures.specs.declared.Pence.{Pence}
use Rattle.averages.specs.declared.TenPays.{TenPays}
use Rattle.averages.proofs.pays_within.Goals as goal

abbrev pays : TenPays → List Pence
pays t =
    t.pay10 ∷ t.pay9 ∷ t.pay8 ∷ t.pay7 ∷ t.pay6 ∷ t.pay5 ∷ t.pay4 ∷ t.pay3 ∷ t.pay2 ∷ t.pay1 ∷ []

pub returns : goal.returns
returns c =
    all_from_yields_List (λ (pay : Pence). leb pay.0 highest_pay) _ _ _ c.all.ensures.ran (YieldsList-from_slice (pays c.args.t) cc) (λ x b q k. search (rules, tests))
