-- The printed case of document 01 as a text, by computation: its line has 66,667 pence and one rounding that went up.
use Rattle.std.specs.Prelude.{Ok}
use Prim.Native.Nat.{ℕ}
use mathlib.Core.Path.{◌≡◌, refl}
use mathlib.Core.List.{List, [], ◌∷◌}
use Rattle.measures.specs.Rounding.{rounded, way, upward}
use Rattle.fields.specs.Fields.{one_at, two_at, four_at}
use Rattle.calendar.specs.Dates.{is_leap, month_length, completing_day, completed_months, months_early, date_stands, is_before, dates_refusal}
use Rattle.posts.specs.Posts.{counted, counted_together, aggregate_pay, aggregate_way}
use Rattle.posts.specs.Refusals.{post_stands, post_refusal}
use Rattle.posts.specs.Call.{post_at}
use Rattle.benefits.specs.Steps.{revalued, revalued_way, accrued, accrued_way, after_year, after_year_ups, lump_debit}
use Rattle.frames.specs.Frames.{date_at, member_in, year_in, frame_length, frame_of, decoded}
use Rattle.frames.specs.Limits.{member_refusal, year_stands}
use Rattle.rules.specs.Outcomes.{Outcome}
use Rattle.rules.specs.Rules.{last_of, before_pay, has_section, in_section, in_order, is_next, year_refusal, open_posts, fields_refusal, refusal_of, add_post, keep, refusal_of_decoded, keep_decoded}
use Rattle.rules.specs.Working.{early, pension_from, pension_of, own_pay, pension1995, factor_for, reduced_if, gross2015, gross1995, gross_lump_sum, debit_for, debit_of, debit2015, debit1995, debit_lump_sum, charge_of, year_ups, ups_from, section_ups, reduced_if_way, reduction2015, reduction1995, reduction_lump_sum, reduction_ups, debit_way, debit_ups, charge_ups_of, ups_of, pay_there, factors_there, debits_fit, closing_of, amounts_of, worked_unless, answer_of}
use Rattle.fields.specs.Digits.{digit_of}
use Rattle.texts.specs.Text.{character_then, lines_of, byte_then, bytes_of, line_bytes, decoded_line, frames_of, read_from, work_text}
use Rattle.texts.specs.Printed.{character_of, digits_of, printed_of}

-- "Input:", its four lines of characters; it "gains two zero digits on its first line", and its "posts gain eight zero digits each"
abbrev pub printed_text : List ℕ
printed_text =
    48 ∷ 49 ∷ 48 ∷ 55 ∷ 66 ∷ 50 ∷ 48 ∷ 52 ∷ 48 ∷ 49 ∷ 48 ∷ 55 ∷ 70 ∷ 53 ∷ 48 ∷ 52 ∷ 48 ∷ 49 ∷ 48 ∷ 48 ∷ 52 ∷ 51 ∷ 48 ∷ 48 ∷ 10
    ∷ 48 ∷ 50 ∷ 48 ∷ 55 ∷ 68 ∷ 70 ∷ 48 ∷ 48 ∷ 48 ∷ 48 ∷ 10
    ∷ 48 ∷ 51 ∷ 48 ∷ 53 ∷ 68 ∷ 67 ∷ 48 ∷ 56 ∷ 67 ∷ 65 ∷ 48 ∷ 48 ∷ 50 ∷ 55 ∷ 65 ∷ 67 ∷ 52 ∷ 48 ∷ 48 ∷ 48 ∷ 48 ∷ 48 ∷ 48 ∷ 48 ∷ 48 ∷ 48 ∷ 10
    ∷ 48 ∷ 51 ∷ 48 ∷ 51 ∷ 56 ∷ 52 ∷ 48 ∷ 56 ∷ 67 ∷ 65 ∷ 48 ∷ 48 ∷ 49 ∷ 50 ∷ 52 ∷ 70 ∷ 56 ∷ 48 ∷ 48 ∷ 48 ∷ 48 ∷ 48 ∷ 48 ∷ 48 ∷ 48 ∷ 48 ∷ 10
    ∷ []

-- "Output (66 digits; 66,667 pence)", "(0001 in the printed case)", with its 0A
abbrev pub printed_line : List ℕ
printed_line =
    56 ∷ 48 ∷ 48 ∷ 48 ∷ 48 ∷ 48 ∷ 48 ∷ 48 ∷ 48 ∷ 48 ∷ 48 ∷ 48 ∷ 48 ∷ 49 ∷ 48 ∷ 52 ∷ 54 ∷ 66 ∷ 48 ∷ 48 ∷ 48 ∷ 48
    ∷ 48 ∷ 48 ∷ 48 ∷ 48 ∷ 48 ∷ 48 ∷ 48 ∷ 48 ∷ 48 ∷ 48 ∷ 48 ∷ 48 ∷ 48 ∷ 48 ∷ 48 ∷ 48 ∷ 48 ∷ 48 ∷ 48 ∷ 48 ∷ 48 ∷ 48
    ∷ 48 ∷ 48 ∷ 48 ∷ 48 ∷ 48 ∷ 48 ∷ 48 ∷ 48 ∷ 48 ∷ 48 ∷ 48 ∷ 48 ∷ 48 ∷ 48 ∷ 48 ∷ 48 ∷ 48 ∷ 48 ∷ 48 ∷ 48 ∷ 48 ∷ 48
    ∷ 48 ∷ 48 ∷ 48 ∷ 49 ∷ 10 ∷ []

-- the outcome of the printed text
abbrev pub printed_outcome : Outcome
printed_outcome = Ok (record { net_2015 = record { 0 = 66667 }; net_1995 = record { 0 = 0 }; net_lump_sum = record { 0 = 0 }; charge = record { 0 = 0 }; ups = 1 })

pub printed_text_lem : work_text printed_text ≡ printed_outcome
unfolding rounded way upward one_at two_at four_at is_leap month_length completing_day completed_months months_early date_stands is_before dates_refusal counted counted_together aggregate_pay aggregate_way post_stands post_refusal post_at revalued revalued_way accrued accrued_way after_year after_year_ups lump_debit date_at member_in year_in frame_length frame_of decoded member_refusal year_stands last_of before_pay has_section in_section in_order is_next year_refusal open_posts fields_refusal refusal_of add_post keep refusal_of_decoded keep_decoded early pension_from pension_of own_pay pension1995 factor_for reduced_if gross2015 gross1995 gross_lump_sum debit_for debit_of debit2015 debit1995 debit_lump_sum charge_of year_ups ups_from section_ups reduced_if_way reduction2015 reduction1995 reduction_lump_sum reduction_ups debit_way debit_ups charge_ups_of ups_of pay_there factors_there debits_fit closing_of amounts_of worked_unless answer_of character_then lines_of digit_of byte_then bytes_of line_bytes decoded_line frames_of read_from work_text
printed_text_lem = refl

pub printed_line_lem : printed_of printed_outcome ≡ printed_line
unfolding character_of digits_of printed_of
printed_line_lem = refl
