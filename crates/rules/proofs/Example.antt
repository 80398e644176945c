-- The printed case of document 01 with the byte that request 2.5 adds, by computation: its frames come to 66,667 pence of 2015 pension, one rounding
-- of which went up (the 54th of 3,600,000 is 66,666 2/3), so that nothing above is empty.
-- Beside it a case of the 2008 Section, and what each step adds to the count.
use Prim.Native.Nat.{ℕ}
use mathlib.Core.Path.{◌≡◌, refl}
use mathlib.Core.List.{List, [], ◌∷◌}
use mathlib.Core.Option.{none, some}
use Rattle.measures.specs.Rounding.{rounded, way, upward}
use Rattle.measures.specs.declared.Way.{Way}
use Rattle.measures.specs.Tries.{tried, after}
use Rattle.fields.specs.Fields.{one_at, two_at, four_at}
use Rattle.calendar.specs.Dates.{is_leap, month_length, completing_day, completed_months, months_early, date_stands, is_before, dates_refusal}
use Rattle.posts.specs.declared.Post.{Post}
use Rattle.posts.specs.Posts.{post_of, counted, counted_together, aggregate_pay, aggregate_way}
use Rattle.posts.specs.Refusals.{post_stands, post_refusal}
use Rattle.posts.specs.Call.{post_at}
use Rattle.benefits.specs.Steps.{revalued, revalued_way, accrued, accrued_way, after_year, after_year_ups, final_pay, final_year, section_pension, section_pension_way, lump_sum, reduced, reduced_way, pension_debit, pension_debit_way, lump_debit, controlled, raised, raised_way, allowed_from, allowed_from_way, allowed3, allowed3_way, allowed2, allowed2_way, allowed1, allowed1_way, allowed_in, allowed_ups, excess, excess_pension, excess_pension_way, charge_from, charge_product_way, charge_from_ups, charge, charge_ups, pays_within, terms_within, final_pay_refusal}
use Rattle.benefits.specs.declared.FinalPay.{FinalPay}
use Rattle.averages.specs.declared.TenPays.{TenPays}
use Rattle.averages.specs.Averages.{threes, better, best_of, best_three, average, average_pay, average_way, pension2008, pension2008_way, ten_pays_refusal}
use Rattle.frames.specs.Frames.{date_at, member_in, year_in, final_pay_in, factor_in, debit_in, ten_pays_in, frame_length, frame_of, decoded}
use Rattle.frames.specs.Limits.{member_refusal, year_stands, scheme_stands, has_lump_sum, factor_refusal, debit_refusal}
use Rattle.std.specs.Prelude.{Ok, Err}
use Rattle.rules.specs.declared.NumberedLine.{NumberedLine}
use Rattle.rules.specs.Rules.{WorkedYear, of1995, of2008, last_of, before_pay, has_section, in_section, in_order, is_next, year_refusal, open_posts, after_factor, after_debit, fields_refusal, refusal_of, add_post, keep, refusal_of_decoded, keep_decoded, decoded_all, kept}
use Rattle.rules.specs.Working.{early, pension_from, pension_of, own_pay, pension1995, factor_for, reduced_if, gross2015, gross1995, gross_lump_sum, debit_for, debit_of, debit2015, debit1995, debit_lump_sum, charge_of, year_ups, ups_from, section_ups, reduced_if_way, reduction2015, reduction1995, reduction_lump_sum, reduction_ups, debit_way, debit_ups, charge_ups_of, ups_of, pay_there, factors_there, debits_fit, closing_of, amounts_of, worked_unless, answer_of, amounts_given}

abbrev pub printed : List (List ℕ)
printed =
    (1 ∷ 7 ∷ 178 ∷ 4 ∷ 1 ∷ 7 ∷ 245 ∷ 4 ∷ 1 ∷ 0 ∷ 67 ∷ 0 ∷ [])
    ∷ (2 ∷ 7 ∷ 223 ∷ 0 ∷ 0 ∷ [])
    ∷ (3 ∷ 5 ∷ 220 ∷ 8 ∷ 202 ∷ 0 ∷ 39 ∷ 172 ∷ 64 ∷ 0 ∷ 0 ∷ 0 ∷ 0 ∷ [])
    ∷ (3 ∷ 3 ∷ 132 ∷ 8 ∷ 202 ∷ 0 ∷ 18 ∷ 79 ∷ 128 ∷ 0 ∷ 0 ∷ 0 ∷ 0 ∷ [])
    ∷ []

pub printed_case : answer_of (kept (decoded_all printed)) ≡ Ok (record { net_2015 = record { 0 = 66667 }; net_1995 = record { 0 = 0 }; net_lump_sum = record { 0 = 0 }; charge = record { 0 = 0 }; ups = 1 })
unfolding rounded way upward tried after one_at two_at four_at is_leap month_length completing_day completed_months months_early date_stands is_before dates_refusal counted counted_together aggregate_pay aggregate_way post_stands post_refusal post_at revalued revalued_way accrued accrued_way after_year after_year_ups lump_debit date_at member_in year_in frame_length frame_of decoded member_refusal year_stands last_of before_pay has_section in_section in_order is_next year_refusal open_posts fields_refusal refusal_of add_post keep refusal_of_decoded keep_decoded kept early pension_from pension_of own_pay pension1995 factor_for reduced_if gross2015 gross1995 gross_lump_sum debit_for debit_of debit2015 debit1995 debit_lump_sum charge_of year_ups ups_from section_ups reduced_if_way reduction2015 reduction1995 reduction_lump_sum reduction_ups debit_way debit_ups charge_ups_of ups_of pay_there factors_there debits_fit closing_of amounts_of worked_unless answer_of
printed_case = refl

-- Request 2.7, scenario E of source document 001: 16 h of 40 at £32,000 with £4,000, in full £36,000; 25 h of 37.5 at £26,000 with £2,000, of which
-- 1,348 22/41 minutes count, at £41,000 for 2,250. Together 6,057,333.33 pence (down), whose 54th is 112,173 (up).
abbrev pub supplements : List (List ℕ)
supplements =
    (1 ∷ 7 ∷ 178 ∷ 4 ∷ 1 ∷ 7 ∷ 245 ∷ 4 ∷ 1 ∷ 0 ∷ 67 ∷ 0 ∷ [])
    ∷ (2 ∷ 7 ∷ 223 ∷ 0 ∷ 0 ∷ [])
    ∷ (3 ∷ 5 ∷ 220 ∷ 8 ∷ 202 ∷ 0 ∷ 39 ∷ 172 ∷ 64 ∷ 0 ∷ 3 ∷ 13 ∷ 64 ∷ [])
    ∷ (3 ∷ 3 ∷ 192 ∷ 9 ∷ 96 ∷ 0 ∷ 48 ∷ 212 ∷ 0 ∷ 0 ∷ 6 ∷ 26 ∷ 128 ∷ [])
    ∷ []

pub supplement_case : answer_of (kept (decoded_all supplements)) ≡ Ok (record { net_2015 = record { 0 = 112173 }; net_1995 = record { 0 = 0 }; net_lump_sum = record { 0 = 0 }; charge = record { 0 = 0 }; ups = 1 })
unfolding rounded way upward tried after one_at two_at four_at is_leap month_length completing_day completed_months months_early date_stands is_before dates_refusal counted counted_together aggregate_pay aggregate_way post_stands post_refusal post_at revalued revalued_way accrued accrued_way after_year after_year_ups lump_debit date_at member_in year_in frame_length frame_of decoded member_refusal year_stands last_of before_pay has_section in_section in_order is_next year_refusal open_posts fields_refusal refusal_of add_post keep refusal_of_decoded keep_decoded kept early pension_from pension_of own_pay pension1995 factor_for reduced_if gross2015 gross1995 gross_lump_sum debit_for debit_of debit2015 debit1995 debit_lump_sum charge_of year_ups ups_from section_ups reduced_if_way reduction2015 reduction1995 reduction_lump_sum reduction_ups debit_way debit_ups charge_ups_of ups_of pay_there factors_there debits_fit closing_of amounts_of worked_unless answer_of
supplement_case = refl

-- Request 2.4: born on 1 April 1970, out at 63 in the 2008 Section, 48 months early in the 2015 Scheme and 24 months early to 65. The best three
-- years average 4,100,000; × 7,300/21,900 is 1,366,667 (up); × 0.800 is 1,093,334 (up); less a debit of 49,505 (up).
abbrev pub ten_pays_case : List (List ℕ)
ten_pays_case =
    (1 ∷ 7 ∷ 178 ∷ 4 ∷ 1 ∷ 7 ∷ 241 ∷ 4 ∷ 1 ∷ 2 ∷ 67 ∷ 65 ∷ [])
    ∷ (8 ∷ 0 ∷ 45 ∷ 198 ∷ 192 ∷ 0 ∷ 47 ∷ 77 ∷ 96 ∷ 0 ∷ 48 ∷ 212 ∷ 0 ∷ 0 ∷ 61 ∷ 9 ∷ 0 ∷ 0 ∷ 62 ∷ 143 ∷ 160 ∷ 0
    ∷ 64 ∷ 22 ∷ 64 ∷ 0 ∷ 59 ∷ 130 ∷ 96 ∷ 0 ∷ 57 ∷ 251 ∷ 192 ∷ 0 ∷ 56 ∷ 117 ∷ 32 ∷ 0 ∷ 54 ∷ 238 ∷ 128 ∷ 28 ∷ 132 ∷ [])
    ∷ (5 ∷ 0 ∷ 0 ∷ 48 ∷ 3 ∷ 132 ∷ 0 ∷ 0 ∷ [])
    ∷ (5 ∷ 1 ∷ 0 ∷ 24 ∷ 3 ∷ 32 ∷ 0 ∷ 0 ∷ [])
    ∷ (6 ∷ 1 ∷ 0 ∷ 15 ∷ 66 ∷ 64 ∷ 7 ∷ 228 ∷ [])
    ∷ []

pub ten_pays_case_lem : answer_of (kept (decoded_all ten_pays_case)) ≡ Ok (record { net_2015 = record { 0 = 0 }; net_1995 = record { 0 = 1043829 }; net_lump_sum = record { 0 = 0 }; charge = record { 0 = 0 }; ups = 3 })
unfolding rounded way upward tried after one_at two_at four_at is_leap month_length completing_day completed_months months_early date_stands is_before dates_refusal reduced reduced_way pension_debit pension_debit_way lump_debit threes better best_of best_three average average_pay average_way pension2008 pension2008_way ten_pays_refusal date_at member_in ten_pays_in factor_in debit_in frame_length frame_of decoded member_refusal scheme_stands has_lump_sum factor_refusal debit_refusal last_of before_pay has_section in_section in_order after_factor after_debit fields_refusal refusal_of keep refusal_of_decoded keep_decoded kept early pension_from pension_of own_pay pension1995 factor_for reduced_if gross2015 gross1995 gross_lump_sum debit_for debit_of debit2015 debit1995 debit_lump_sum charge_of year_ups ups_from section_ups reduced_if_way reduction2015 reduction1995 reduction_lump_sum reduction_ups debit_way debit_ups charge_ups_of ups_of pay_there factors_there debits_fit closing_of amounts_of worked_unless answer_of
ten_pays_case_lem = refl

-- ---- Request 2.6: what is counted, step by step

-- pays of years 4 to 1 with allowances of one half
abbrev halves : ℕ → ℕ → ℕ → ℕ → ℕ → ℕ → FinalPay
halves pay4 pay3 pay2 pay1 controls days =
    record {
      pay4 = record { 0 = pay4 };
      pay3 = record { 0 = pay3 };
      pay2 = record { 0 = pay2 };
      pay1 = record { 0 = pay1 };
      allowance3 = 500;
      allowance2 = 500;
      allowance1 = 500;
      controls = controls;
      days = days;
      factor = 100;
    }

-- six years without pay, then those of years 4 to 1
abbrev last_pays : ℕ → ℕ → ℕ → ℕ → TenPays
last_pays pay4 pay3 pay2 pay1 =
    record {
      pay10 = record { 0 = 0 };
      pay9 = record { 0 = 0 };
      pay8 = record { 0 = 0 };
      pay7 = record { 0 = 0 };
      pay6 = record { 0 = 0 };
      pay5 = record { 0 = 0 };
      pay4 = record { 0 = pay4 };
      pay3 = record { 0 = pay3 };
      pay2 = record { 0 = pay2 };
      pay1 = record { 0 = pay1 };
      days = 10950;
    }

-- A case in which every step goes up that can: the 54th of 135, 3 × 1.1667 and an aggregate of 3.5; the 1995 pension of 1.5; reductions to 3.6, 1.8
-- and 5.7; both debits of 100/199; allowed years 3 and 1 of 1.5, the excess pension of a half, its product of 1.5.
-- Allowed year 2 is exact, 4/54 goes down.
abbrev pub every_step : List (List ℕ)
every_step =
    (1 ∷ 7 ∷ 178 ∷ 4 ∷ 1 ∷ 7 ∷ 233 ∷ 4 ∷ 1 ∷ 1 ∷ 67 ∷ 60 ∷ [])
    ∷ (2 ∷ 7 ∷ 223 ∷ 0 ∷ 0 ∷ [])
    ∷ (3 ∷ 8 ∷ 202 ∷ 8 ∷ 202 ∷ 0 ∷ 0 ∷ 0 ∷ 135 ∷ 0 ∷ 0 ∷ 0 ∷ 0 ∷ [])
    ∷ (2 ∷ 7 ∷ 224 ∷ 6 ∷ 131 ∷ [])
    ∷ (3 ∷ 0 ∷ 1 ∷ 0 ∷ 2 ∷ 0 ∷ 0 ∷ 0 ∷ 1 ∷ 0 ∷ 0 ∷ 0 ∷ 0 ∷ [])
    ∷ (3 ∷ 0 ∷ 3 ∷ 0 ∷ 4 ∷ 0 ∷ 0 ∷ 0 ∷ 3 ∷ 0 ∷ 0 ∷ 0 ∷ 0 ∷ [])
    ∷ (4 ∷ 0 ∷ 0 ∷ 0 ∷ 1 ∷ 0 ∷ 0 ∷ 0 ∷ 3 ∷ 0 ∷ 0 ∷ 0 ∷ 1 ∷ 0 ∷ 0 ∷ 0 ∷ 1 ∷ 1 ∷ 244 ∷ 1 ∷ 244 ∷ 1 ∷ 244 ∷ 7 ∷ 57 ∷ 8 ∷ 0 ∷ 150 ∷ [])
    ∷ (5 ∷ 0 ∷ 0 ∷ 144 ∷ 3 ∷ 132 ∷ 0 ∷ 0 ∷ [])
    ∷ (5 ∷ 1 ∷ 0 ∷ 60 ∷ 3 ∷ 132 ∷ 3 ∷ 182 ∷ [])
    ∷ (6 ∷ 0 ∷ 0 ∷ 0 ∷ 0 ∷ 1 ∷ 0 ∷ 199 ∷ [])
    ∷ (6 ∷ 1 ∷ 0 ∷ 0 ∷ 0 ∷ 1 ∷ 0 ∷ 199 ∷ [])
    ∷ []

pub every_step_case : answer_of (kept (decoded_all every_step)) ≡ Ok (record { net_2015 = record { 0 = 3 }; net_1995 = record { 0 = 1 }; net_lump_sum = record { 0 = 3 }; charge = record { 0 = 5 }; ups = 13 })
unfolding rounded way upward tried after one_at two_at four_at is_leap month_length completing_day completed_months months_early date_stands is_before dates_refusal counted counted_together aggregate_pay aggregate_way post_stands post_refusal post_at revalued revalued_way accrued accrued_way after_year after_year_ups final_pay final_year section_pension section_pension_way lump_sum reduced reduced_way pension_debit pension_debit_way lump_debit controlled raised raised_way allowed_from allowed_from_way allowed3 allowed3_way allowed2 allowed2_way allowed1 allowed1_way allowed_in allowed_ups excess excess_pension excess_pension_way charge_from charge_product_way charge_from_ups charge charge_ups pays_within terms_within final_pay_refusal date_at member_in year_in final_pay_in factor_in debit_in frame_length frame_of decoded member_refusal year_stands scheme_stands has_lump_sum factor_refusal debit_refusal last_of before_pay has_section in_section in_order is_next year_refusal open_posts after_factor after_debit fields_refusal refusal_of add_post keep refusal_of_decoded keep_decoded kept early pension_from pension_of own_pay pension1995 factor_for reduced_if gross2015 gross1995 gross_lump_sum debit_for debit_of debit2015 debit1995 debit_lump_sum charge_of year_ups ups_from section_ups reduced_if_way reduction2015 reduction1995 reduction_lump_sum reduction_ups debit_way debit_ups charge_ups_of ups_of pay_there factors_there debits_fit closing_of amounts_of worked_unless answer_of
every_step_case = refl

-- "nought for a refused one"
pub refused_count : (r : NumberedLine) → (amounts_given (Err r)).ups ≡ 0
unfolding amounts_given
refused_count r = refl

-- an April year with these posts
abbrev year_with : ℕ → List Post → WorkedYear
year_with r posts = record { year = record { april = 2015; revaluation = r }; posts = posts }

pub record CountsShown : Type 0 where
  -- one rounding a year: 8.4 goes down, 3.5 up; a whole-time post, two posts in full and no posts are exact
  pub sum_down : aggregate_way (post_of 5 6 8 0 ∷ post_of 2 3 4 0 ∷ post_of 1 2 1 0 ∷ []) ≡ Way.Down
  pub sum_up : aggregate_way (post_of 1 2 1 0 ∷ post_of 3 4 3 0 ∷ []) ≡ Way.Up
  pub whole_time_exact : aggregate_way (post_of 6 6 7 0 ∷ post_of 1 6 5 0 ∷ []) ≡ Way.Exact
  pub in_full_exact : aggregate_way (post_of 1 4 5 0 ∷ post_of 2 4 7 0 ∷ []) ≡ Way.Exact
  pub none_exact : aggregate_way [] ≡ Way.Exact
  -- the 54th of 27 and of 26; 5 revalued to 5.5
  pub accrued_up : year_ups 0 (year_with 0 (post_of 6 6 27 0 ∷ [])) ≡ 1
  pub accrued_down : year_ups 0 (year_with 0 (post_of 6 6 26 0 ∷ [])) ≡ 0
  pub revalued_up : year_ups 5 (year_with 1000 []) ≡ 1
  -- the aggregate of 3.5, and its 54th down
  pub aggregate_up : year_ups 0 (year_with 0 (post_of 1 2 1 0 ∷ post_of 3 4 3 0 ∷ [])) ≡ 1
  -- allowed 3 and allowed 1 go from 1.5 to 2, allowed 2 is exact, the excess pension goes from a half to 1; final pay is that of year 3
  pub all_controlled : charge_ups (halves 1 3 1 1 7 14600) ≡ 3
  pub year_3_controlled : charge_ups (halves 1 3 1 1 1 14600) ≡ 2
  pub each_year : charge_ups (halves 1 1 1 1 7 0) ≡ 3
  pub none_controlled : charge_ups (halves 1 1 1 1 0 0) ≡ 0
  pub section_up : section_ups (some (of1995 (halves 1 3 1 1 7 14600))) ≡ 1
  -- of eight averages the one taken: 2/3 up and its pension a half up; 1 exact
  pub average_up : section_ups (some (of2008 (last_pays 0 1 1 0))) ≡ 2
  pub average_exact : section_ups (some (of2008 (last_pays 1 1 1 0))) ≡ 1
  -- a half of 1; not early, nothing is rounded
  pub reduced_up : reduced_if_way 1 500 1 ≡ Way.Up
  pub unreduced : reduced_if_way 0 500 1 ≡ Way.Exact
  -- 100/199 and 100/201; without its 06
  pub debit_up : debit_way (some (record { scheme = 0; pot = record { 0 = 1 }; factor = 199 })) ≡ Way.Up
  pub debit_down : debit_way (some (record { scheme = 0; pot = record { 0 = 1 }; factor = 201 })) ≡ Way.Down
  pub no_debit_lem : debit_way none ≡ Way.Exact

pub counts_shown : CountsShown
unfolding rounded way upward counted counted_together aggregate_pay aggregate_way revalued_way accrued_way after_year_ups year_ups final_pay final_year section_pension section_pension_way controlled raised raised_way allowed_from allowed_from_way allowed3 allowed3_way allowed2 allowed2_way allowed1 allowed1_way allowed_in allowed_ups excess excess_pension excess_pension_way charge_product_way charge_from_ups charge_ups threes better best_of best_three average average_pay average_way pension2008_way section_ups reduced_way reduced_if_way pension_debit_way debit_way
counts_shown =
    record {
      sum_down = refl;
      sum_up = refl;
      whole_time_exact = refl;
      in_full_exact = refl;
      none_exact = refl;
      accrued_up = refl;
      accrued_down = refl;
      revalued_up = refl;
      aggregate_up = refl;
      all_controlled = refl;
      year_3_controlled = refl;
      each_year = refl;
      none_controlled = refl;
      section_up = refl;
      average_up = refl;
      average_exact = refl;
      reduced_up = refl;
      unreduced = refl;
      debit_up = refl;
      debit_down = refl;
      no_debit_lem = refl;
    }
