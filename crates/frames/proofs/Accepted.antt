-- What the fields of a frame that is not refused keep to.
use Prim.Native.Nat.{ℕ, ◌≤◌}
use mathlib.Core.Bool.{Bool, true, false, ◌&&◌, ◌||◌, not}
use mathlib.Core.Path.{◌≡◌, refl}
use native.Mathlib.Omega.{arith}
use lib.Dec.{leb, eqb}
use borrow.Author.Tests.{eqb-true, eqb-false, not-true}
use Rattle.measures.specs.Refusals.{within, unless}
use Rattle.measures.proofs.Tests.{passed, parts, neither}
use Rattle.benefits.specs.Limits.{highest_revaluation, highest_early_factor, highest_pot}
use Rattle.calendar.specs.Dates.{dates_refusal}
use Rattle.calendar.specs.Ranges.{Accepted}
use Rattle.calendar.proofs.AcceptedDates.{accepted, accepted_age}
use Rattle.frames.specs.declared.Member.{Member}
use Rattle.frames.specs.declared.Year.{Year}
use Rattle.frames.specs.declared.Factor.{Factor}
use Rattle.frames.specs.declared.Debit.{Debit}
use Rattle.frames.specs.Limits.{section_pension_age, member_refusal, year_stands, scheme_stands, has_lump_sum, factor_refusal, debit_refusal}

-- a member without refusals 5 and 28
pub record MemberGood (m : Member) : Type 0 where
  pub dates : Accepted m.birth m.retirement
  pub section : m.section ≤ 2
  pub age_from : 55 ≤ m.pension_age
  pub age_to : m.pension_age ≤ 75
  pub age_of_section : m.section_pension_age ≡ section_pension_age m.section

pub member_good : (m : Member) → member_refusal m ≡ 0 → MemberGood m
unfolding member_refusal
member_good m e =
    let refusals = neither _ (unless (eqb m.section_pension_age (section_pension_age m.section)) 28) e in
    let none = neither (dates_refusal m.birth m.retirement m.pension_age) _ refusals.0 in
    let section : leb m.section 2 ≡ true = passed _ 5 (omega arith) none.1 in
    let age = accepted_age _ _ _ none.0 in
    record {
      dates = accepted _ _ _ none.0;
      section = search parts;
      age_from = age.0;
      age_to = age.1;
      age_of_section = eqb-true _ _ (passed _ 28 (omega arith) refusals.1);
    }

-- a year whose own fields stand
pub record YearGood (y : Year) : Type 0 where
  pub april_from : 2015 ≤ y.april
  pub april_to : y.april ≤ 2100
  pub revaluation : y.revaluation ≤ highest_revaluation

pub year_good : (y : Year) → year_stands y ≡ true → YearGood y
unfolding year_stands
year_good y e = record { april_from = search parts; april_to = search parts; revaluation = search parts }

-- a scheme that stands beside the member's section
pub record SchemeGood (scheme section : ℕ) : Type 0 where
  pub known : scheme ≤ 1
  pub own : scheme ≡ 1 → 1 ≤ section

pub scheme_good : (scheme section : ℕ) → scheme_stands scheme section ≡ true → SchemeGood scheme section
unfolding scheme_stands
scheme_good scheme section e = by (eqb scheme 0) refl e
  where
    by : (t : Bool) → eqb scheme 0 ≡ t → (t || (eqb scheme 1 && not (eqb section 0))) ≡ true → SchemeGood scheme section
    by true q e =
        let none : scheme ≡ 0 = eqb-true _ _ q in
        record { known = omega arith; own = λ one. omega arith }
    by false q e =
        let one : scheme ≡ 1 = search parts in
        let own : not (eqb section 0) ≡ true = search parts in
        record { known = omega arith; own = λ _. omega (arith, eqb-false section 0 (not-true (eqb section 0) own)) }

-- a factor frame without refusal 10
pub record FactorGood (f : Factor) (section : ℕ) : Type 0 where
  pub scheme : SchemeGood f.scheme section
  pub months_from : 1 ≤ f.months.0
  pub months_to : f.months.0 ≤ 600
  pub pension : f.pension ≤ highest_early_factor
  pub lump : f.lump ≤ highest_early_factor
  pub no_lump : has_lump_sum f.scheme section ≡ false → f.lump ≡ 0

pub factor_good : (f : Factor) (section : ℕ) → factor_refusal f section ≡ 0 → FactorGood f section
unfolding factor_refusal
factor_good f section e =
    let held : (scheme_stands f.scheme section && within 1 600 f.months.0 && leb f.pension highest_early_factor && leb f.lump highest_early_factor && (has_lump_sum f.scheme section || eqb f.lump 0)) ≡ true = passed _ 10 (omega arith) e in
    let lumped : (has_lump_sum f.scheme section || eqb f.lump 0) ≡ true = search parts in
    record {
      scheme = scheme_good _ _ (search parts);
      months_from = search parts;
      months_to = search parts;
      pension = search parts;
      lump = search parts;
      no_lump = λ none. eqb-true _ _ (rw none at lumped);
    }

-- a debit frame without refusal 11
pub record DebitGood (d : Debit) (section : ℕ) : Type 0 where
  pub scheme : SchemeGood d.scheme section
  pub pot : d.pot.0 ≤ highest_pot
  pub factor : 1 ≤ d.factor

pub debit_good : (d : Debit) (section : ℕ) → debit_refusal d section ≡ 0 → DebitGood d section
unfolding debit_refusal
debit_good d section e =
    let held : (scheme_stands d.scheme section && leb d.pot.0 highest_pot && leb 1 d.factor) ≡ true = passed _ 11 (omega arith) e in
    record { scheme = scheme_good _ _ (search parts); pot = search parts; factor = search parts }
