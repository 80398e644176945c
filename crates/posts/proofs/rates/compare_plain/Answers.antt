-- `posts::rates::compare_plain` meets its contract: without a supplement document 01's products decide, on equal contracts the pays.
use mathlib.Core.Path.{◌∙◌}
use Rattle.posts.proofs.Standing.{stands_worked}
use Rattle.posts.proofs.Pays.{equal_contracts, plain_products}
use Rattle.posts.proofs.rates.compare_plain.Goals as goal
use Rattle.posts.proofs.rates.compare_plain.Goals.{then-x-y, else-x-y}

-- the pays or the products, as they meet
pub returns : goal.returns
returns c =
    let x = c.args.x in
    let y = c.args.y in
    let k = stands_worked x c.requires.0 in
    let l = stands_worked y c.requires.1 in
    c.compare_pays.ensures.pays
    ∙ elim c.if-x-y.branch [
      | then-x-y w ↦ rw w.own-is (equal_contracts x y k l c.requires.2 c.requires.3 w.if-x-y.true)
      | else-x-y w ↦ rw w.own-is (plain_products x y k l c.requires.2 c.requires.3 w.pay_times.ensures.0 w.pay_times-else-x-y.ensures.0)
    ]
