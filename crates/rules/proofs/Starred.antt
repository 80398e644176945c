-- The starred figures of document 01, together, by computation.
use mathlib.Core.Path.{refl}
use Rattle.measures.specs.Rounding.{rounded}
use Rattle.calendar.specs.Dates.{is_leap, month_length, completing_day, completed_months, months_early}
use Rattle.posts.specs.Posts.{counted, counted_together, aggregate_pay}
use Rattle.benefits.specs.Steps.{final_pay, final_year, section_pension, pension_debit, lump_debit, controlled, raised, allowed_from, allowed3, allowed2, allowed1, allowed_in, excess, excess_pension, charge_from, charge, enhancement, abatement}
use Rattle.rules.specs.Starred.{Starred}

pub starred : Starred
unfolding rounded counted counted_together aggregate_pay is_leap month_length completing_day completed_months months_early final_pay final_year section_pension pension_debit lump_debit controlled raised allowed_from allowed3 allowed2 allowed1 allowed_in excess excess_pension charge_from charge enhancement abatement
starred =
    record {
      no_posts = refl;
      two_posts = refl;
      uneven_posts = refl;
      differing_weeks = refl;
      equal_rates = refl;
      second_cut = refl;
      whole_time = refl;
      early_at_60 = refl;
      early_at_67 = refl;
      at_pension_age = refl;
      one_month_late = refl;
      final_pay_charge = refl;
      debit_of_pension = refl;
      debit_of_lump_sum = refl;
      abated_in_part = refl;
      abated_in_full = refl;
      not_abated = refl;
    }
