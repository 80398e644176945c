-- `figures::years::posts_in` meets its contract.
use Rattle.std.proofs.Common.{arith}
use Rattle.figures.proofs.Numbers.{posts_made}
use Rattle.std.proofs.Common.{rules}
use Rattle.figures.proofs.years.posts_in.Goals as goal

pub returns : goal.returns
returns c =
    posts_made _ _ c.args.numbers _ (omega (arith, c.from_fn.ensures.items.long)) (λ k x q h. search rules) 0 17 (omega (arith, c.from_fn.ensures.items.long)) c.from_fn.ensures.items.each
