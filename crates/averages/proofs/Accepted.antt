-- Ten pays that are not refused: how large their numbers, their average and the pension are.
use Prim.Native.Nat.{ℕ, ◌+◌, ◌≤◌}
use mathlib.Core.Path.{◌≡◌}
use mathlib.Core.Bool.{true, ◌&&◌}
use mathlib.Core.List.{List, [], ◌∷◌}
use native.Mathlib.Nat.{mul-le-mul}
use native.Mathlib.Omega.{arith}
use lib.Dec.{leb, ltb}
use lib.ListN.{length}
use borrow.Author.Tests.{leb-true}
use Rattle.measures.specs.Limits.{highest_pay}
use Rattle.measures.proofs.Rounding.{rounded_bound, upward_most}
use Rattle.measures.proofs.Tests.{passed, and_left, and_right, both_sides}
use Rattle.benefits.specs.Limits.{most_days}
use Rattle.averages.specs.declared.TenPays.{TenPays}
use Rattle.averages.specs.declared.Three.{Three}
use Rattle.averages.specs.Averages.{pays_of, threes, three, better, best_of, best_three, average, average_pay, average_way, averaged, full_service2008, pension2008, pays_within, ten_pays_refusal}
use Rattle.averages.specs.Bounds.{TenPaysBounds, AveragePayBounds}
use Rattle.averages.proofs.Best.{AllAtMost}

all_within : (pays : List ℕ) → pays_within pays ≡ true → AllAtMost highest_pay pays
all_within [] e = tt
all_within (pay ∷ pays) e =
    let one = leb pay highest_pay in
    (leb-true _ _ (and_left one (pays_within pays) e), all_within pays (and_right one (pays_within pays) e))

pub accepted_ten_pays : (t : TenPays) → ten_pays_refusal t ≡ 0 → TenPaysBounds t
unfolding ten_pays_refusal
accepted_ten_pays t e =
    let days = leb t.days most_days in
    let held : (pays_within (pays_of t) && days) ≡ true = passed (pays_within (pays_of t) && days) 27 (omega arith) e in
    let from10 = all_within (pays_of t) (and_left (pays_within (pays_of t)) days held) in
    let from5 = from10.1.1.1.1.1 in
    record {
      pay10 = from10.0;
      pay9 = from10.1.0;
      pay8 = from10.1.1.0;
      pay7 = from10.1.1.1.0;
      pay6 = from10.1.1.1.1.0;
      pay5 = from5.0;
      pay4 = from5.1.0;
      pay3 = from5.1.1.0;
      pay2 = from5.1.1.1.0;
      pay1 = from5.1.1.1.1.0;
      days = leb-true _ _ (and_right (pays_within (pays_of t)) days held);
    }

-- ---- the average

all_threes : (most : ℕ) (pays : List ℕ) → AllAtMost most pays → AllAtMost (most + most + most) (threes pays)
unfolding threes
all_threes most [] a = tt
all_threes most (x ∷ []) a = tt
all_threes most (x ∷ y ∷ []) a = tt
all_threes most (x ∷ y ∷ z ∷ later) a = (omega (arith, a.0, a.1.0, a.1.1.0), all_threes most (y ∷ z ∷ later) a.1)

best_bound : (most s : ℕ) (ss : List ℕ) → AllAtMost most (s ∷ ss) → (best_of (s ∷ ss)).sum.0 ≤ most
unfolding best_of better
best_bound most s [] a = a.0
best_bound most s (r ∷ later) a = both_sides (λ (best : Three). best.sum.0 ≤ most) (ltb (best_of (r ∷ later)).sum.0 s) (three s (length (r ∷ later) + 1)) (best_of (r ∷ later)) a.0 (best_bound most r later a.1)

pub average_pay_limit : (t : TenPays) → TenPaysBounds t → average_pay t ≤ highest_pay
unfolding average_pay average best_three threes
average_pay_limit t b = rounded_bound _ highest_pay 3 (omega arith) (best_bound _ _ _ (all_threes highest_pay (pays_of t) (b.pay10, (b.pay9, (b.pay8, (b.pay7, (b.pay6, (b.pay5, (b.pay4, (b.pay3, (b.pay2, (b.pay1, tt))))))))))))

pub averaged_bounds : (t : TenPays) → TenPaysBounds t → AveragePayBounds (averaged t)
unfolding averaged
averaged_bounds t b = record { pay = average_pay_limit t b; days = b.days; ups = upward_most (average_way t) }

-- ---- the pension: 16,425 days of 21,900 are three quarters

pub pension2008_limit : (pay days : ℕ) → pay ≤ highest_pay → days ≤ most_days → pension2008 pay days ≤ 750000000
unfolding pension2008
pension2008_limit pay days h d = rounded_bound _ 750000000 full_service2008 (omega arith) (omega (arith, mul-le-mul h d))
