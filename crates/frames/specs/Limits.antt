-- "Running case, fields": the refusals of a frame by its own fields and the member's section.
use Rattle.std.specs.Prelude.{ℕ, Bool, ◌&&◌, ◌||◌, not, cond, leb, eqb}
use Rattle.measures.specs.Refusals.{within, unless, first_refusal}
use Rattle.benefits.specs.Limits.{highest_revaluation, highest_early_factor, highest_pot}
use Rattle.calendar.specs.Dates.{dates_refusal}
use Rattle.frames.specs.declared.Member.{Member}
use Rattle.frames.specs.declared.Year.{Year}
use Rattle.frames.specs.declared.Factor.{Factor}
use Rattle.frames.specs.declared.Debit.{Debit}

-- "60 for the 1995 Section (public scheme rule)"; of the 2008 Section "Pension age is 65"; "0 for section 0, 60 for 1, 65 for 2"
abbrev pub section_pension_age : ℕ → ℕ
section_pension_age section = cond (eqb section 1) 60 (cond (eqb section 2) 65 0)

-- "5, year outside 1900 to 2100, month outside 1 to 12, a day that doesn't fit its Gregorian month, retirement before birth, section above 1,
-- pension age outside 55 to 75."; "refusal 5 now begins at section 3"; "with 28, after 5, when the byte isn't that of the section"
unfoldable pub member_refusal : Member → ℕ
member_refusal m =
    first_refusal (first_refusal (dates_refusal m.birth m.retirement m.pension_age) (unless (leb m.section 2) 5))
    (unless (eqb m.section_pension_age (section_pension_age m.section)) 28)

-- "6, an April year outside 2015 to 2100, [..] revaluation above 2,000," turned round
unfoldable pub year_stands : Year → Bool
year_stands y = within 2015 2100 y.april && leb y.revaluation highest_revaluation

-- "section 1 (0 none, 1 the 1995)"; "Section 2 joins the member frame."
abbrev pub is_section : ℕ → Bool
is_section section = not (eqb section 0)

-- "scheme above 1 or scheme 1 without section 1," turned round; "10 and 11 refuse scheme 1 only for section 0"
unfoldable pub scheme_stands : ℕ → ℕ → Bool
scheme_stands scheme section = eqb scheme 0 || (eqb scheme 1 && is_section section)

-- a lump sum goes with scheme 1 in the 1995 Section; in the 2008 Section "there is no lump sum"
unfoldable pub has_lump_sum : ℕ → ℕ → Bool
has_lump_sum scheme section = eqb scheme 1 && eqb section 1

-- "10, scheme above 1 or scheme 1 without section 1, months 0 or above 600, a factor above 1,000, lump factor not 0 for scheme 0";
-- of section 2 "its lump factor 0 by refusal 10"
unfoldable pub factor_refusal : Factor → ℕ → ℕ
factor_refusal f section =
    unless (scheme_stands f.scheme section && within 1 600 f.months.0 && leb f.pension highest_early_factor
    && leb f.lump highest_early_factor && (has_lump_sum f.scheme section || eqb f.lump 0)) 10

-- "11, scheme as in 10, pot above 1,000,000,000, factor 0"
unfoldable pub debit_refusal : Debit → ℕ → ℕ
debit_refusal d section =
    unless (scheme_stands d.scheme section && leb d.pot.0 highest_pot && leb 1 d.factor) 11
