-- The running case beside the frames kept: what it holds of them, and that each frame keeps it so. Each part of it has its own laws, in its own crate.
use mathlib.Core.Path.{◌≡◌, refl}
use mathlib.Core.Bool.{true, ◌&&◌, not}
use mathlib.Core.List.{[], ◌∷◌, ◌++◌}
use mathlib.Core.Option.{some}
use native.Mathlib.Omega.{arith}
use borrow.Author.Tests.{eqb-true}
use Rattle.measures.specs.Lists.{All}
use Rattle.measures.specs.Refusals.{unless, first_refusal}
use Rattle.measures.proofs.Tests.{clash, passed, neither, and_left, and_right}
use Rattle.measures.proofs.Lists.{all_end}
use Rattle.posts.specs.declared.Post.{Post}
use Rattle.posts.specs.Refusals.{post_refusal}
use Rattle.benefits.specs.declared.FinalPay.{FinalPay}
use Rattle.benefits.specs.Steps.{final_pay_refusal}
use Rattle.averages.specs.declared.TenPays.{TenPays}
use Rattle.averages.specs.Averages.{ten_pays_refusal}
use Rattle.frames.specs.declared.Member.{Member}
use Rattle.frames.specs.declared.Year.{Year}
use Rattle.frames.specs.declared.Factor.{Factor}
use Rattle.frames.specs.declared.Debit.{Debit}
use Rattle.frames.specs.declared.Frame.{Frame}
use Rattle.frames.specs.Limits.{member_refusal, factor_refusal, debit_refusal}
use Rattle.rules.specs.Rules.{SectionPay, of1995, of2008, Frames, Kept, nothing, begun, non_empty, last_of, before_pay, in_section, in_order, year_refusal, open_posts, after_factor, after_debit, fields_refusal, refusal_of, new_year, with_pay, keep}
use Rattle.rules.proofs.Ends.{nonempty_end}
use Rattle.section.specs.declared.SectionState.{SectionState}
use Rattle.section.specs.Section.{pay_fields, ten_pays_fields}
use Rattle.years.proofs.Years.{HoldsYears, years_none, GoodYears, good_none, year_agrees, post_agrees, year_kept, year_good_kept, add_nonempty, post_kept, post_good_kept, years_bounds}
use Rattle.section.proofs.Section.{HoldsSection, section_none, pay_kept, ten_pays_kept, GoodPay, section_bounds}
use Rattle.factors.proofs.Factors.{HoldsFactors, factors_for_lem, GoodFactor, factor_agrees, factor_kept, factors_bounds}
use Rattle.debits.proofs.Debits.{HoldsDebits, debits_none, GoodDebit, debit_agrees, debit_kept, debits_bounds}
use Rattle.cases.specs.declared.order.Stage.{Stage}
use Rattle.cases.specs.declared.Case.{Case}
use Rattle.cases.specs.State.{start, stage_number, in_order_at, case_fields, case_refusal, at_section, case_next, Bounds}
use Rattle.cases.proofs.Stages.{stage_of, order_agrees, stage_in_years, stage_after_pay, stage_after_factor, stage_after_debit}

pub record Holds (c : Case) (k : Frames) : Type 0 where
  pub stage : stage_number c.stage ≡ stage_of k
  pub member : c.member ≡ k.member
  pub years : HoldsYears c.years k.years
  pub section : HoldsSection c.section k.pay
  pub factors : HoldsFactors c.factors k.member k.factors
  pub debits : HoldsDebits c.debits k.debits

-- what holds of frames none of which was refused
pub record Good (k : Frames) : Type 0 where
  pub member : member_refusal k.member ≡ 0
  pub years : GoodYears k.years
  pub pay : GoodPay k.member.section k.pay
  pub factors : All (GoodFactor k.member.section) k.factors
  pub debits : All (GoodDebit k.member.section) k.debits

abbrev pub Represents : Case → Kept → Type 0
Represents c nothing = c ≡ start
Represents c (begun k) = Holds c k × Good k

-- ---- the refusals agree

fields_agree : (c : Case) (k : Frames) (f : Frame) → Holds c k → case_fields c f ≡ fields_refusal k f
unfolding case_fields fields_refusal pay_fields ten_pays_fields
fields_agree c k (Frame.Member m) h = refl
fields_agree c k (Frame.Year y) h = year_agrees c.years k.years h.years y
fields_agree c k (Frame.Post x) h = post_agrees c.years k.years h.years x
fields_agree c k (Frame.FinalPay f) h = refl
fields_agree c k (Frame.Factor f) h = rw h.member (factor_agrees c.factors k.member k.factors h.factors k.member.section f)
fields_agree c k (Frame.Debit d) h = rw h.member (debit_agrees c.debits k.debits h.debits k.member.section d)
fields_agree c k (Frame.TenPays t) h = refl

begun_agrees : (c : Case) (k : Frames) (f : Frame) → Holds c k → case_refusal c f ≡ refusal_of (begun k) f
unfolding case_refusal refusal_of
begun_agrees c k f h = rw (fields_agree c k f h, h.stage, h.member, order_agrees k f) refl

pub frame_agrees : (c : Case) (k : Kept) (f : Frame) → Represents c k → case_refusal c f ≡ refusal_of k f
unfolding case_refusal refusal_of start in_order_at case_fields
frame_agrees c nothing (Frame.Member m) h = rw h refl
frame_agrees c nothing (Frame.Year y) h = rw h refl
frame_agrees c nothing (Frame.Post x) h = rw h refl
frame_agrees c nothing (Frame.FinalPay f) h = rw h refl
frame_agrees c nothing (Frame.Factor f) h = rw h refl
frame_agrees c nothing (Frame.Debit d) h = rw h refl
frame_agrees c nothing (Frame.TenPays t) h = rw h refl
frame_agrees c (begun k) f h = begun_agrees c k f h.0

-- ---- a frame without refusal advances both

keeps_member : (c : Case) (m : Member) → c ≡ start → member_refusal m ≡ 0 → Represents (case_next c (Frame.Member m)) (keep nothing (Frame.Member m))
unfolding case_next keep stage_of start
keeps_member c m h r = rw h (
  record { stage = refl; member = refl; years = years_none; section = section_none; factors = factors_for_lem m; debits = debits_none },
  record { member = r; years = good_none; pay = tt; factors = tt; debits = tt },
)

module _ (c : Case) (k : Frames) (h : Holds c k) (g : Good k) where
  keeps_year : (y : Year) → before_pay k ≡ true → year_refusal k.years y ≡ 0 → Represents (case_next c (Frame.Year y)) (keep (begun k) (Frame.Year y))
  unfolding case_next keep
  keeps_year y e r = (
    record {
      stage = stage_in_years k e (k.years ++ new_year y ∷ []) (nonempty_end k.years (new_year y));
      member = h.member;
      years = year_kept c.years k.years y h.years;
      section = h.section;
      factors = h.factors;
      debits = h.debits;
    },
    record { member = g.member; years = year_good_kept k.years y r g.years; pay = g.pay; factors = g.factors; debits = g.debits },
  )

  keeps_post : (x : Post) → (before_pay k && non_empty k.years) ≡ true → post_refusal (open_posts k.years) x ≡ 0 → Represents (case_next c (Frame.Post x)) (keep (begun k) (Frame.Post x))
  unfolding case_next keep
  keeps_post x e r =
      let some_year : non_empty k.years ≡ true = and_right (before_pay k) _ e in (
        record {
          stage = stage_in_years k (and_left _ (non_empty k.years) e) _ (add_nonempty k.years x some_year);
          member = h.member;
          years = post_kept k.years x r c.years some_year h.years;
          section = h.section;
          factors = h.factors;
          debits = h.debits;
        },
        record { member = g.member; years = post_good_kept k.years x r g.years; pay = g.pay; factors = g.factors; debits = g.debits },
      )

  -- of either section
  keeps_section : (s : SectionState) (p : SectionPay) → before_pay k ≡ true → HoldsSection s (some p) → GoodPay k.member.section (some p) → Represents (at_section c Stage.Pay s) (begun (with_pay k p))
  keeps_section s p e held good = (
    record { stage = stage_after_pay k e p; member = h.member; years = h.years; section = held; factors = h.factors; debits = h.debits },
    record { member = g.member; years = g.years; pay = good; factors = g.factors; debits = g.debits },
  )

  keeps_pay : (f : FinalPay) → (before_pay k && in_section 1 k) ≡ true → final_pay_refusal f ≡ 0 → Represents (case_next c (Frame.FinalPay f)) (keep (begun k) (Frame.FinalPay f))
  unfolding case_next keep in_section
  keeps_pay f e r = keeps_section _ (of1995 f) (and_left _ (in_section 1 k) e) (pay_kept c.section f) (eqb-true _ _ (and_right (before_pay k) _ e), r)

  keeps_ten_pays : (t : TenPays) → (before_pay k && in_section 2 k) ≡ true → ten_pays_refusal t ≡ 0 → Represents (case_next c (Frame.TenPays t)) (keep (begun k) (Frame.TenPays t))
  unfolding case_next keep in_section
  keeps_ten_pays t e r = keeps_section _ (of2008 t) (and_left _ (in_section 2 k) e) (ten_pays_kept c.section t) (eqb-true _ _ (and_right (before_pay k) _ e), r)

  keeps_factor : (f : Factor) → not (non_empty k.debits) ≡ true → factor_refusal f k.member.section ≡ 0 → Represents (case_next c (Frame.Factor f)) (keep (begun k) (Frame.Factor f))
  unfolding case_next keep
  keeps_factor f e r = (
    record {
      stage = stage_after_factor k f e;
      member = h.member;
      years = h.years;
      section = h.section;
      factors = factor_kept c.factors k.member k.factors h.factors f;
      debits = h.debits;
    },
    record { member = g.member; years = g.years; pay = g.pay; factors = all_end _ k.factors f g.factors r; debits = g.debits },
  )

  keeps_debit : (d : Debit) → debit_refusal d k.member.section ≡ 0 → Represents (case_next c (Frame.Debit d)) (keep (begun k) (Frame.Debit d))
  unfolding case_next keep
  keeps_debit d r = (
    record {
      stage = stage_after_debit k d;
      member = h.member;
      years = h.years;
      section = h.section;
      factors = h.factors;
      debits = debit_kept c.debits k.debits h.debits d;
    },
    record { member = g.member; years = g.years; pay = g.pay; factors = g.factors; debits = all_end _ k.debits d g.debits r },
  )

-- a frame without refusal stands in its order, and its fields stand
order_stands : (k : Frames) (f : Frame) → first_refusal (unless (in_order k f) 4) (fields_refusal k f) ≡ 0 → (in_order k f ≡ true) × (fields_refusal k f ≡ 0)
order_stands k f r = let n = neither (unless (in_order k f) 4) (fields_refusal k f) r in (passed (in_order k f) 4 (omega arith) n.0, n.1)

frame_keeps_begun : (c : Case) (k : Frames) (f : Frame) → Holds c k → Good k → in_order k f ≡ true → fields_refusal k f ≡ 0 → Represents (case_next c f) (keep (begun k) f)
unfolding in_order fields_refusal
frame_keeps_begun c k (Frame.Member m) h g o r = clash (cc)
frame_keeps_begun c k (Frame.Year y) h g o r = keeps_year c k h g y o r
frame_keeps_begun c k (Frame.Post x) h g o r = keeps_post c k h g x o r
frame_keeps_begun c k (Frame.FinalPay f) h g o r = keeps_pay c k h g f o r
frame_keeps_begun c k (Frame.Factor f) h g o r = keeps_factor c k h g f o (neither _ (unless (after_factor (last_of k.factors) f) 10) r).0
frame_keeps_begun c k (Frame.Debit d) h g o r = keeps_debit c k h g d (neither _ (unless (after_debit (last_of k.debits) d) 11) r).0
frame_keeps_begun c k (Frame.TenPays t) h g o r = keeps_ten_pays c k h g t o r

pub frame_keeps : (c : Case) (k : Kept) (f : Frame) → Represents c k → refusal_of k f ≡ 0 → Represents (case_next c f) (keep k f)
unfolding refusal_of
frame_keeps c nothing (Frame.Member m) h r = keeps_member c m h r
frame_keeps c nothing (Frame.Year y) h r = clash (omega arith)
frame_keeps c nothing (Frame.Post x) h r = clash (omega arith)
frame_keeps c nothing (Frame.FinalPay f) h r = clash (omega arith)
frame_keeps c nothing (Frame.Factor f) h r = clash (omega arith)
frame_keeps c nothing (Frame.Debit d) h r = clash (omega arith)
frame_keeps c nothing (Frame.TenPays t) h r = clash (omega arith)
frame_keeps c (begun k) f h r = let o = order_stands k f r in frame_keeps_begun c k f h.0 h.1 o.0 o.1

-- ---- how large the numbers of a case are

pub represented_bounds : (c : Case) (k : Kept) → Represents c k → Bounds c
unfolding start
represented_bounds c nothing h =
    rw h
    (record {
      years = years_bounds _ [] years_none good_none;
      section = section_bounds _ _ section_none 0 tt;
      dated = record { factor2015 = record { pension = omega arith; lump = omega arith }; factor1995 = record { pension = omega arith; lump = omega arith } };
      debits = debits_bounds _ [] debits_none 0 tt;
    })
represented_bounds c (begun k) (h, g) =
    record {
      years = years_bounds c.years k.years h.years g.years;
      section = section_bounds c.section k.pay h.section k.member.section g.pay;
      dated = factors_bounds c.factors k.member k.factors h.factors k.member.section g.factors;
      debits = debits_bounds c.debits k.debits h.debits k.member.section g.debits;
    }
