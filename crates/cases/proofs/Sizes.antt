-- How large the numbers of a case are: each frame that is not refused keeps each part within its bounds.
use mathlib.Core.Bool.{Bool, true, false, cond}
use mathlib.Core.List.{List, [], ◌∷◌}
use mathlib.Core.Path.{◌≡◌, refl, sym, subst}
use native.Mathlib.Omega.{arith}
use lib.Dec.{eqb}
use borrow.Author.Tests.{eqb-true}
use Rattle.std.specs.Prelude.{Ok, Err}
use Rattle.measures.specs.Refusals.{unless}
use Rattle.measures.specs.Tries.{tried, after}
use Rattle.measures.proofs.Tests.{both_sides, neither}
use Rattle.posts.specs.Year.{no_posts, joined_by}
use Rattle.posts.proofs.Standing.{joining_year}
use Rattle.averages.specs.Averages.{averaged}
use Rattle.frames.specs.declared.Frame.{Frame}
use Rattle.frames.specs.Frames.{Decoded}
use Rattle.years.specs.Years.{post_fields, pension_now, ups_now, with_year, with_post, Within}
use Rattle.years.proofs.Years as years
use Rattle.section.specs.Section.{pay_fields, with_pay, ten_pays_fields, with_ten_pays, SectionBounds}
use Rattle.section.proofs.Section as section
use Rattle.factors.specs.Factors.{factors_for, dated_for, with_factor, dated_by, DatedBounds}
use Rattle.factors.proofs.Factors as factors
use Rattle.debits.specs.Debits.{with_debit, DebitsBounds}
use Rattle.debits.proofs.Debits as debits
use Rattle.cases.specs.declared.Case.{Case}
use Rattle.cases.specs.State.{start, in_order_at, stage_number, case_fields, case_refusal, case_next, refusal_of_case, next_of_case, after_all, Bounds}
use Rattle.cases.specs.Running.{IsCase}

-- of each part, and for the years what keeps them so
record PartsWithin (c : Case) : Type 0 where
  years : Within c.years
  section : SectionBounds c.section
  dated : DatedBounds c.factors.dated
  debits : DebitsBounds c.debits

start_within : PartsWithin start
unfolding start
start_within =
    record {
      years = years.none_within;
      section = section.none_within;
      dated = record { factor2015 = record { pension = omega arith; lump = omega arith }; factor1995 = record { pension = omega arith; lump = omega arith } };
      debits = record { pension1995 = omega arith; ups2015 = omega arith; ups1995 = omega arith };
    }

-- after a frame that is not refused
frame_within : (c : Case) (f : Frame) → PartsWithin c → 0 ≡ case_fields c f → PartsWithin (case_next c f)
unfolding case_fields case_next post_fields with_year with_post pay_fields with_pay ten_pays_fields with_ten_pays factors_for dated_for with_factor dated_by with_debit
frame_within c (Frame.Member m) b e =
    record {
      years = b.years;
      section = b.section;
      dated = record { factor2015 = record { pension = omega arith; lump = omega arith }; factor1995 = record { pension = omega arith; lump = omega arith } };
      debits = b.debits;
    }
frame_within c (Frame.Year y) b e =
    record {
      years = years.year_within c.years y (record { amount = record { 0 = pension_now c.years }; ups = ups_now c.years }) no_posts b.years e (refl, refl) refl;
      section = b.section;
      dated = b.dated;
      debits = b.debits;
    }
frame_within c (Frame.Post x) b e =
    record {
      years = years.post_within c.years x (joined_by c.years.posts x) b.years (sym (joining_year c.years.posts x (sym e)));
      section = b.section;
      dated = b.dated;
      debits = b.debits;
    }
frame_within c (Frame.FinalPay f) b e =
    record { years = b.years; section = section.pay_within f (sym e); dated = b.dated; debits = b.debits }
frame_within c (Frame.Factor f) b e =
    record {
      years = b.years;
      section = b.section;
      dated = factors.dated_within c.member.section c.factors f e c.factors.dated _ _ b.dated refl refl;
      debits = b.debits;
    }
frame_within c (Frame.Debit d) b e =
    record {
      years = b.years;
      section = b.section;
      dated = b.dated;
      debits = debits.debit_within c.member.section c.debits d _ _ b.debits (sym e) refl refl;
    }
frame_within c (Frame.TenPays t) b e =
    record { years = b.years; section = section.average_within t (averaged t) (sym e) refl; dated = b.dated; debits = b.debits }

-- after a frame as it is offered, refused or not
tried_within : (c : Case) (d : Decoded) → PartsWithin c → PartsWithin (tried refusal_of_case next_of_case c d)
unfolding tried refusal_of_case next_of_case case_refusal
tried_within c (Err n) b = both_sides PartsWithin (eqb n 0) c c b b
tried_within c (Ok f) b = by (eqb (case_refusal c f) 0) refl
  where
    by : (t : Bool) → eqb (case_refusal c f) 0 ≡ t → PartsWithin (cond t (case_next c f) c)
    by true e = frame_within c f b (sym (neither (unless (in_order_at (stage_number c.stage) c.member.section f) 4) (case_fields c f) (eqb-true _ _ e)).1)
    by false e = b

all_within : (ds : List Decoded) (c : Case) → PartsWithin c → PartsWithin (after refusal_of_case next_of_case c ds)
unfolding after
all_within [] c b = b
all_within (d ∷ ds) c b = all_within ds (tried refusal_of_case next_of_case c d) (tried_within c d b)

after_bounds : (ds : List Decoded) → Bounds (after_all ds)
unfolding after_all
after_bounds ds =
    let b = all_within ds start start_within in record { years = b.years.0; section = b.section; dated = b.dated; debits = b.debits }

pub case_bounds : (c : Case) → IsCase c → Bounds c
case_bounds c is = subst Bounds (sym is.is) (after_bounds is.frames)
