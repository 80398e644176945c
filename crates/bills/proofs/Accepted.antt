-- What the numbers of a change of employer that is not refused keep to.
use mathlib.Core.Path.{◌≡◌}
use mathlib.Core.Bool.{true, ◌&&◌}
use native.Mathlib.Omega.{arith}
use lib.Dec.{eqb}
use Rattle.measures.specs.Refusals.{unless, first_refusal}
use Rattle.measures.proofs.Tests.{passed, parts, neither}
use Rattle.benefits.specs.declared.FinalPay.{FinalPay}
use Rattle.benefits.specs.Steps.{final_year, final_pay_refusal}
use Rattle.benefits.proofs.Accepted.{accepted_final_pay}
use Rattle.bills.specs.declared.Change.{Change}
use Rattle.bills.specs.Employers.{parts_within, days_within, change_refusal}
use Rattle.bills.specs.Bounds.{ChangeBounds}

pub accepted_change : (f : FinalPay) (c : Change) → change_refusal f c ≡ 0 → ChangeBounds f c
unfolding change_refusal parts_within days_within
accepted_change f c e =
    let both = neither (first_refusal (final_pay_refusal f) (unless (parts_within c) 9)) _ e in
    let nine = neither (final_pay_refusal f) (unless (parts_within c) 9) both.0 in
    let within : parts_within c ≡ true = passed (parts_within c) 9 (omega arith) nine.1 in
    let days : (days_within c && eqb (final_year f) 1) ≡ true = passed _ 26 (omega arith) both.1 in
    record {
      final_pay = accepted_final_pay f nine.0;
      old_pay = search parts;
      old_days = search parts;
      new_pay = search parts;
      new_days = search parts;
      price_increase = search parts;
    }
