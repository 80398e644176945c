-- `posts::Post::pay_for` meets its contract.
use mathlib.Core.Path.{sym, ◌∙◌, ap, ap₂}
use Prim.Native.Nat.{ℕ, ◌*◌}
use native.Mathlib.Nat.{le_trans, le_of_eq, mul-le-mul}
use native.Mathlib.Omega.{arith}
use Rattle.measures.specs.Rounding.{rounded, way}
use Rattle.posts.proofs.Standing.{standing, under_some, pay_full, pay_none, pay_cut, pay_most_for, part_fits, worth_fits}
use Rattle.posts.proofs.Post.pay_for.Goals as goal

pub returns-then-part-all : goal.returns-then-part-all
returns-then-part-all c =
    let x = standing c.args.self c.requires.0 in
    let e = pay_full c.args.self c.args.part c.args.total.0 c.requires.0 c.requires.2 (c.if-part-all.true ∙ c.in_parts-all.ensures) in
    (c.unrounded.ensures.0 ∙ sym e.0, c.unrounded.ensures.1 ∙ sym e.1, omega (arith, c.unrounded.ensures.0))

pub returns-then-part-eq0 : goal.returns-then-part-eq0
returns-then-part-eq0 c =
    let e = pay_none c.args.self c.args.part c.args.total.0 c.requires.0 c.requires.2 c.if-part-eq0.true in
    (c.unrounded-then-part-eq0.ensures.0 ∙ sym e.0, c.unrounded-then-part-eq0.ensures.1 ∙ sym e.1, omega (arith, c.unrounded-then-part-eq0.ensures.0))

pub rounded_product-requires : goal.rounded_product-requires
rounded_product-requires c =
    let x = c.args.self in
    let part = c.args.part in
    let H = c.args.total.0 in
    let under = c.under_parts-under.ensures ∙ ap (λ (n : ℕ). n * H) c.weighted_week.ensures.0 in record {
      factors = (omega (arith, c.rate_over.ensures.1), omega (arith, c.requires.1, part_fits x part H c.requires.0 c.requires.2 c.requires.3));
      divisor = (
        omega (arith, under, under_some x part H c.requires.0 c.requires.2),
        omega (arith, c.under_parts-under.ensures, mul-le-mul c.weighted_week.ensures.1 c.requires.3),
      );
      quotient = rw (c.rate_over.ensures.0, under) (worth_fits x part H c.requires.0 c.requires.2 c.requires.1);
    }

pub returns : goal.returns
returns c =
    let x = c.args.self in
    let part = c.args.part in
    let H = c.args.total.0 in
    let under = c.under_parts-under.ensures ∙ ap (λ (n : ℕ). n * H) c.weighted_week.ensures.0 in
    let cut = pay_cut x part H c.requires.0 c.requires.2 (λ g. c.if-part-all.false (g ∙ sym c.in_parts-all.ensures)) in
    let product = ap (λ (n : ℕ). n * part) c.rate_over.ensures.0 ∙ sym cut in
    let e = c.in_pence.ensures.0 ∙ c.rounded_product.ensures.0 ∙ ap₂ rounded product under in (
      e,
      c.in_pence.ensures.1 ∙ c.rounded_product.ensures.1 ∙ ap₂ way product under,
      le_trans (le_of_eq e) (pay_most_for x part H c.requires.0 c.requires.2 c.requires.1),
    )
