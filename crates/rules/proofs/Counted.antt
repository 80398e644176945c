-- The count of upward roundings is at most 161: three a year of 50 years, and eleven at the end.
use Prim.Native.Nat.{ℕ, ◌+◌, ◌*◌, ◌≤◌}
use mathlib.Core.Path.{◌≡◌, subst}
use mathlib.Core.List.{List, [], ◌∷◌}
use mathlib.Core.Option.{Option, none, some}
use native.Mathlib.Omega.{arith}
use lib.ListN.{length}
use Rattle.measures.specs.Rounding.{upward}
use Rattle.measures.proofs.Rounding.{upward_most}
use Rattle.measures.proofs.Tests.{both_sides}
use Rattle.posts.specs.Posts.{aggregate_pay, aggregate_way}
use Rattle.benefits.specs.Steps.{after_year, final_pay, section_pension_way}
use Rattle.benefits.proofs.Counts.{after_year_ups_most, charge_ups_most}
use Rattle.averages.specs.Averages.{average_pay, average_way, pension2008_way}
use Rattle.rules.specs.declared.Amounts.{Amounts}
use Rattle.std.specs.Prelude.{Ok}
use Rattle.rules.specs.Rules.{WorkedYear, SectionPay, of1995, of2008, Frames, begun, most_years, has_section}
use Rattle.rules.specs.Working.{year_ups, ups_from, section_ups, reduction2015, reduction1995, reduction_lump_sum, reduction_ups, debit_for, debit_way, debit_ups, charge_ups_of, ups_of, amounts_of, answer_of}
use Rattle.rules.proofs.Largest.{answered}

-- aggregate, revaluation and 54th
pub year_ups_most : (pension : ℕ) (y : WorkedYear) → year_ups pension y ≤ 3
unfolding year_ups
year_ups_most pension y = omega (arith, upward_most (aggregate_way y.posts), after_year_ups_most pension y.year.revaluation (aggregate_pay y.posts))

pub ups_from_most : (pension : ℕ) (ys : List WorkedYear) → ups_from pension ys ≤ 3 * length ys
unfolding ups_from
ups_from_most pension [] = omega arith
ups_from_most pension (y ∷ ys) = omega (arith, year_ups_most pension y, ups_from_most (after_year pension y.year.revaluation (aggregate_pay y.posts)) ys)

-- the 1995 Section's pension and the five of its charge; or the 2008 Section's average and pension
pay_most : (o : Option SectionPay) → section_ups o + charge_ups_of o ≤ 6
unfolding section_ups charge_ups_of
pay_most none = omega arith
pay_most (some (of1995 f)) = omega (arith, upward_most (section_pension_way (final_pay f) f.days), charge_ups_most f)
pay_most (some (of2008 t)) = omega (arith, upward_most (average_way t), upward_most (pension2008_way (average_pay t) t.days))

reduction_ups_most : (k : Frames) → reduction_ups k ≤ 3
unfolding reduction_ups
reduction_ups_most k = omega (arith, upward_most (reduction2015 k), upward_most (reduction1995 k), upward_most (reduction_lump_sum k))

debit_ups_most : (k : Frames) → debit_ups k ≤ 2
unfolding debit_ups
debit_ups_most k =
    let one = upward (debit_way (debit_for 1 k.debits)) in
    let section = both_sides (λ (n : ℕ). n ≤ 1) (has_section k) one 0 (upward_most (debit_way (debit_for 1 k.debits))) (omega arith) in
    omega (arith, upward_most (debit_way (debit_for 0 k.debits)), section)

-- the most upward roundings that a case can have
abbrev pub most_ups : ℕ
most_ups = 161

pub ups_most : (k : Frames) → length k.years ≤ most_years → ups_of k ≤ most_ups
unfolding ups_of
ups_most k few = omega (arith, ups_from_most 0 k.years, pay_most k.pay, reduction_ups_most k, debit_ups_most k)

-- of the amounts given
pub worked_ups : (k : Frames) (a : Amounts) → length k.years ≤ most_years → answer_of (begun k) ≡ Ok a → a.ups ≤ most_ups
unfolding amounts_of
worked_ups k a few e = subst (λ (b : Amounts). b.ups ≤ most_ups) (answered k a e).is (ups_most k few)
