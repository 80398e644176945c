-- Limits of document 01 on the numbers of the steps.
use Rattle.std.specs.Prelude.{ℕ}
use Rattle.measures.specs.Limits.{highest_pay}

-- "revaluation above 2,000"
abbrev pub highest_revaluation : ℕ
highest_revaluation = 2000

-- "allowance above 1,000"
abbrev pub highest_allowance : ℕ
highest_allowance = 1000

-- "days above 16,425"
abbrev pub most_days : ℕ
most_days = 16425

-- of an 04: "factor 0 or above 10,000"
abbrev pub highest_charge_factor : ℕ
highest_charge_factor = 10000

-- of an 05: "a factor above 1,000"
abbrev pub highest_early_factor : ℕ
highest_early_factor = 1000

-- "pot above 1,000,000,000": the number of the highest pay
abbrev pub highest_pot : ℕ
highest_pot = highest_pay

-- of an abatement: "an amount above 1,000,000,000,000"; the steps on a final pay, an excess and their pension take no more either
abbrev pub highest_amount : ℕ
highest_amount = 1000000000000
