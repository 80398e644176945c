-- "Figures to hold against it. Starred ones are theorems, together": a field for each, in minutes, months and pence.
use Rattle.std.specs.Prelude.{◌*◌, ◌≡◌, [], ◌∷◌, pos, negsuc}
use Rattle.calendar.specs.Dates.{date_of, months_early}
use Rattle.posts.specs.Posts.{post_of, parts, aggregate_pay}
use Rattle.benefits.specs.declared.FinalPay.{FinalPay}
use Rattle.benefits.specs.Steps.{charge, pension_debit, lump_debit, abatement}

-- "Pays £30,000, £31,000, £32,000, £40,000, allowances 65, all controlled, 7,300 days, 20.20"
abbrev pub charged : FinalPay
charged =
    record {
      pay4 = record { 0 = 3000000 };
      pay3 = record { 0 = 3100000 };
      pay2 = record { 0 = 3200000 };
      pay1 = record { 0 = 4000000 };
      allowance3 = 65;
      allowance2 = 65;
      allowance1 = 65;
      controls = 7;
      days = 7300;
      factor = 2020;
    }

-- the figures together
pub record Starred : Type 0 where
  -- "No posts: 0."
  pub no_posts : aggregate_pay [] ≡ 0
  -- "20 h at £10,000 and 20 h at £12,000 of 37.5 h: £20,750."
  pub two_posts : aggregate_pay (post_of 1200 2250 1000000 0 ∷ post_of 1200 2250 1200000 0 ∷ []) ≡ 2075000
  -- "25 h £26,000, 15 h £12,000 of 37.5: £36,000."
  pub uneven_posts : aggregate_pay (post_of 1500 2250 2600000 0 ∷ post_of 900 2250 1200000 0 ∷ []) ≡ 3600000
  -- "20 h £53,000 of 37.5, 19 h £47,500 of 40: £99,794.87."
  pub differing_weeks : aggregate_pay (post_of 1200 2250 5300000 0 ∷ post_of 1140 2400 4750000 0 ∷ []) ≡ 9979487
  -- "Twice 20 h £10,000 of 37.5: £18,750, the second cut."
  pub equal_rates : aggregate_pay (post_of 1200 2250 1000000 0 ∷ post_of 1200 2250 1000000 0 ∷ []) ≡ 1875000
  pub second_cut : parts (post_of 1200 2250 1000000 0 ∷ post_of 1200 2250 1000000 0 ∷ []) ≡ 1200 * 2400 ∷ 1050 * 2400 ∷ []
  -- "37.5 h £20,000 and 5 h £9,000, both of 37.5: £20,000."
  pub whole_time : aggregate_pay (post_of 2250 2250 2000000 0 ∷ post_of 300 2250 900000 0 ∷ []) ≡ 2000000
  -- "Born 1 April 1970, out 1 November 2025, age 60: 53 months."
  pub early_at_60 : months_early (date_of 1970 4 1) (date_of 2025 11 1) 60 ≡ pos 53
  -- "Born 1 November 1967, age 67: out 17 October 2030, 49; 1 November 2034, 0; 1 December 2034, −1."
  pub early_at_67 : months_early (date_of 1967 11 1) (date_of 2030 10 17) 67 ≡ pos 49
  pub at_pension_age : months_early (date_of 1967 11 1) (date_of 2034 11 1) 67 ≡ pos 0
  pub one_month_late : months_early (date_of 1967 11 1) (date_of 2034 12 1) 67 ≡ negsuc 0
  -- "charge £34,336."
  pub final_pay_charge : charge charged ≡ 3433600
  -- "Pot £10,000, 20.20: debit £495.05, lump £1,485.15."
  pub debit_of_pension : pension_debit 1000000 2020 ≡ 49505
  pub debit_of_lump_sum : lump_debit (pension_debit 1000000 2020) ≡ 148515
  -- "Pension £10,000, earned £6,000, previous £20,000: new pay £18,000 abates £2,000, £30,000 £4,000, £16,000 0."
  pub abated_in_part : abatement 1000000 600000 2000000 1800000 ≡ 200000
  pub abated_in_full : abatement 1000000 600000 2000000 3000000 ≡ 400000
  pub not_abated : abatement 1000000 600000 2000000 1600000 ≡ 0
