-- Members of the 2008 Section, by computation, so that nothing above is empty.
use Prim.Native.Nat.{ℕ}
use mathlib.Core.Path.{◌≡◌, refl}
use Rattle.measures.specs.Rounding.{rounded}
use Rattle.averages.specs.declared.TenPays.{TenPays}
use Rattle.averages.specs.Averages.{threes, three, better, best_of, best_three, average, average_pay, pension2008}

-- pays in pence, oldest first, and days
abbrev ten_pays : ℕ → ℕ → ℕ → ℕ → ℕ → ℕ → ℕ → ℕ → ℕ → ℕ → ℕ → TenPays
ten_pays a b c d e f g h i j days =
    record {
      pay10 = record { 0 = a };
      pay9 = record { 0 = b };
      pay8 = record { 0 = c };
      pay7 = record { 0 = d };
      pay6 = record { 0 = e };
      pay5 = record { 0 = f };
      pay4 = record { 0 = g };
      pay3 = record { 0 = h };
      pay2 = record { 0 = i };
      pay1 = record { 0 = j };
      days = days;
    }

-- £40,000, £41,000 and £42,000 are the best three
abbrev pub peak : TenPays
peak = ten_pays 3000000 3100000 3200000 4000000 4100000 4200000 3900000 3800000 3700000 3600000 7300

-- the first three years and the last three are equal
abbrev two_peaks : TenPays
two_peaks = ten_pays 3000000 3000000 3000000 0 0 0 0 3000000 3000000 3000000 7300

-- two pence in three years, the first
abbrev two_pence : TenPays
two_pence = ten_pays 1 1 0 0 0 0 0 0 0 0 16425

-- a penny in the last of the ten years
abbrev one_penny : TenPays
one_penny = ten_pays 0 0 0 0 0 0 0 0 0 1 16425

-- every number at its limit
abbrev highest : TenPays
highest = ten_pays 1000000000 1000000000 1000000000 1000000000 1000000000 1000000000 1000000000 1000000000 1000000000 1000000000 16425

-- what they come to
pub record Shown : Type 0 where
  pub best : best_three peak ≡ three 12300000 5
  pub pay : average_pay peak ≡ 4100000
  pub pension : pension2008 (average_pay peak) 7300 ≡ 1366667
  pub latest : best_three two_peaks ≡ three 9000000 1
  pub first_years : best_three two_pence ≡ three 2 8
  pub rounded_up : average_pay two_pence ≡ 1
  pub rounded_down : average_pay one_penny ≡ 0
  pub pension_rounded_up : pension2008 (average_pay two_pence) 16425 ≡ 1
  pub largest : pension2008 (average_pay highest) 16425 ≡ 750000000

pub pensions_shown : Shown
unfolding rounded threes better best_of best_three average average_pay pension2008
pensions_shown =
    record {
      best = refl;
      pay = refl;
      pension = refl;
      latest = refl;
      first_years = refl;
      rounded_up = refl;
      rounded_down = refl;
      pension_rounded_up = refl;
      largest = refl;
    }
