-- Demand 3 over the frames kept: no rival working gives more than the amounts of the steps.
use Prim.Native.Nat.{ℕ, ◌+◌, ◌≤◌}
use mathlib.Core.Path.{◌≡◌, refl, ap₂, subst}
use mathlib.Core.Bool.{Bool, true, false, ◌&&◌, cond}
use mathlib.Core.List.{List, [], ◌∷◌, map}
use mathlib.Core.Option.{Option, none, some}
use native.Mathlib.Nat.{le_refl}
use native.Mathlib.Omega.{arith}
use lib.Dec.{leb, ltb, eqb}
use lib.ListN.{length}
use lib.IntN.{ℤ, ◌+ℤ◌}
use lib.Signed.{◌≤ℤ◌}
use borrow.Author.Tests.{leb-true, eqb-true}
use Rattle.measures.specs.Lists.{All}
use Rattle.measures.specs.Refusals.{unless, first_refusal}
use Rattle.measures.proofs.Tests.{clash, both_sides, passed, neither, and_left, and_right}
use Rattle.measures.proofs.Integers.{less, less_mono, less_both}
use Rattle.posts.specs.Posts.{HasMinutes, aggregate, aggregate_pay}
use Rattle.posts.proofs.Aggregate.{optimal, parts_allowed}
use Rattle.benefits.specs.Steps.{after_year, final_pay, final_year, reduced}
use Rattle.benefits.proofs.Monotone.{after_year_mono, section_pension_mono, lump_sum_mono, reduced_mono}
use Rattle.benefits.proofs.Highest.{final_highest, final_latest}
use Rattle.averages.specs.declared.Three.{Three}
use Rattle.averages.specs.Averages.{threes, three, better, best_of, best_three, average, average_pay}
use Rattle.averages.proofs.Best.{AllAtMost, average_most, pension2008_mono}
use Rattle.rules.specs.declared.Amounts.{Amounts}
use Rattle.std.specs.Prelude.{Ok, Err}
use Rattle.rules.specs.Outcomes.{Outcome}
use Rattle.rules.specs.Rules.{WorkedYear, SectionPay, of1995, of2008, Frames, begun, has_section, in_section}
use Rattle.rules.specs.Working.{early2015, early1995, pension_from, pension_of, own_aggregates, own_parts, rival_aggregates, candidates, own_pay, pension1995, pension_factor, lump_factor, reduced_if, factor2015, factor1995, gross2015, gross1995, gross_lump_sum, debit2015, debit1995, debit_lump_sum, pay_there, factors_there, debits_fit, closing_of, amounts_of, worked_unless, answer_of}
use Rattle.rules.specs.Rivals.{Choice, RivalParts, no_years, year, Picked, none as noPick, here, later, Allowed, net2015, net1995, net_lump_sum, Given, AtMost, LargestOf}

-- every post of a year has contracted minutes, and no more than whole-time ones
abbrev pub WorkedPosts : WorkedYear → Type 0
WorkedPosts y = All HasMinutes y.posts

-- ---- the steps rise with the amounts

pension_mono : {a b : ℕ} (ys : List WorkedYear) (qs : List (List ℕ)) → All WorkedPosts ys → RivalParts ys qs → a ≤ b → pension_from a ys (rival_aggregates ys qs) ≤ pension_from b ys (own_aggregates ys)
unfolding pension_from
pension_mono {a = a} {b = b} [] [] w no_years g = g
pension_mono {a = a} {b = b} (y ∷ ys) (q ∷ qs) w (year r rs) g =
    pension_mono {a = after_year a y.year.revaluation (aggregate y.posts q)} {b = after_year b y.year.revaluation (aggregate_pay y.posts)} ys qs w.1 rs
    (after_year_mono g (le_refl y.year.revaluation) (optimal y.posts q w.0 r))
pension_mono {a = a} {b = b} [] (q ∷ qs) w r g = elim r [ ]
pension_mono {a = a} {b = b} (y ∷ ys) [] w r g = elim r [ ]

reduced_if_mono : (months factor : ℕ) {a b : ℕ} → a ≤ b → reduced_if months factor a ≤ reduced_if months factor b
unfolding reduced_if
reduced_if_mono months factor {a} {b} g = by (eqb months 0)
  where
    by : (t : Bool) → cond t a (reduced a factor) ≤ cond t b (reduced b factor)
    by true = g
    by false = reduced_mono factor g

pension1995_mono : (o : Option SectionPay) {a b : ℕ} → a ≤ b → pension1995 o a ≤ pension1995 o b
unfolding pension1995
pension1995_mono none g = omega arith
pension1995_mono (some (of1995 f)) g = section_pension_mono f.days g
pension1995_mono (some (of2008 t)) g = pension2008_mono t.days g

if_mono : (t : Bool) {a b : ℕ} → a ≤ b → cond t a 0 ≤ cond t b 0
if_mono true g = g
if_mono false g = omega arith

-- ---- no candidate is above our own pay

-- one of a list is at most what all of it is
picked_most : (most : ℕ) {pays : List ℕ} {pay : ℕ} → Picked pays pay → AllAtMost most pays → pay ≤ most
picked_most most noPick a = omega arith
picked_most most here a = a.0
picked_most most (later p) a = picked_most most p a.1

pay_most : (o : Option SectionPay) (pay : ℕ) → Picked (candidates o) pay → pay ≤ own_pay o
unfolding own_pay
pay_most none pay p = picked_most 0 p tt
pay_most (some (of1995 f)) pay p = picked_most (final_pay f) p (final_highest f 3, (final_highest f 2, (final_highest f 1, tt)))
pay_most (some (of2008 t)) pay p = picked_most (average_pay t) p (average_most t)

-- ---- our own choice is allowed

own_parts_lem : (ys : List WorkedYear) → All WorkedPosts ys → RivalParts ys (own_parts ys)
own_parts_lem [] w = no_years
own_parts_lem (y ∷ ys) w = year (parts_allowed y.posts w.0) (own_parts_lem ys w.1)

-- the average of the best three years is one of the averages
best_picked : (s : ℕ) (ss : List ℕ) → Picked (map average (s ∷ ss)) (average (best_of (s ∷ ss)).sum.0)
unfolding best_of better
best_picked s [] = here
best_picked s (r ∷ more) =
    both_sides (λ (best : Three). Picked (map average (s ∷ r ∷ more)) (average best.sum.0)) (ltb (best_of (r ∷ more)).sum.0 s)
    (three s (length (r ∷ more) + 1)) (best_of (r ∷ more)) here (later (best_picked r more))

own_pay_lem : (o : Option SectionPay) → Picked (candidates o) (own_pay o)
unfolding own_pay average_pay best_three threes
own_pay_lem none = noPick
own_pay_lem (some (of2008 t)) = best_picked _ _
own_pay_lem (some (of1995 f)) = subst (Picked (candidates (some (of1995 f)))) (final_latest f).highest (by (eqb (final_year f) 3) (eqb (final_year f) 2))
  where
    by : (a b : Bool) → Picked (candidates (some (of1995 f))) (cond a f.pay3.0 (cond b f.pay2.0 f.pay1.0))
    by true b = here
    by false true = later here
    by false false = later (later here)

-- ---- a closing without refusal has every debit covered

record Covered (k : Frames) : Type 0 where
  of2015 : debit2015 k ≤ gross2015 k (own_aggregates k.years)
  of1995 : debit1995 k ≤ gross1995 k (own_pay k.pay)
  of_lump_sum : debit_lump_sum k ≤ gross_lump_sum k (own_pay k.pay)

covered : (k : Frames) → closing_of (begun k) ≡ 0 → Covered k
unfolding closing_of debits_fit
covered k e =
    let rest = (neither (unless (pay_there k) 12) (first_refusal (unless (factors_there k) 13) (unless (debits_fit k) 14)) e).1 in
    let t = passed (debits_fit k) 14 (omega arith) (neither (unless (factors_there k) 13) (unless (debits_fit k) 14) rest).1 in
    let one = leb (debit2015 k) (gross2015 k (own_aggregates k.years)) in
    let two = leb (debit1995 k) (gross1995 k (own_pay k.pay)) in
    let three = leb (debit_lump_sum k) (gross_lump_sum k (own_pay k.pay)) in
    record {
      of2015 = leb-true _ _ (and_left one two (and_left (one && two) three t));
      of1995 = leb-true _ _ (and_right one two (and_left (one && two) three t));
      of_lump_sum = leb-true _ _ (and_right (one && two) three t);
    }

pub record Answered (k : Frames) (a : Amounts) : Type 0 where
  pub unrefused : closing_of (begun k) ≡ 0
  pub is : amounts_of k ≡ a

pub answered : (k : Frames) (a : Amounts) → answer_of (begun k) ≡ Ok a → Answered k a
unfolding answer_of worked_unless
answered k a e = by (eqb (closing_of (begun k)) 0) refl e
  where
    by : (t : Bool) → eqb (closing_of (begun k)) 0 ≡ t → cond {A = Outcome} t (Ok (amounts_of k)) (Err (record { number = closing_of (begun k); line = 0 })) ≡ Ok a → Answered k a
    by true q e = record { unrefused = eqb-true _ 0 q; is = cc }
    by false q e = clash (cc)

-- ---- the amounts given are the largest

module _ (k : Frames) (w : All WorkedPosts k.years) (f : Covered k) where
  gives : Given k (amounts_of k)
  unfolding amounts_of net2015 net1995 net_lump_sum
  gives =
      record {
        allowed = record { parts = own_parts_lem k.years w; pay = own_pay_lem k.pay };
        pension2015 = less _ _ f.of2015;
        pension1995 = less _ _ f.of1995;
        lump_sum = less _ _ f.of_lump_sum;
        charge = refl;
      }

  at_most : (choice : Choice) → Allowed k choice → AtMost k (amounts_of k) choice
  unfolding amounts_of net2015 net1995 net_lump_sum gross2015 gross1995 gross_lump_sum pension_of
  at_most choice r =
      record {
        pensions =
            subst (λ (z : ℤ). (net2015 k choice +ℤ net1995 k choice) ≤ℤ z) (ap₂ ◌+ℤ◌ gives.pension2015 gives.pension1995)
            (less_both _ _ (debit2015 k) _ _ (debit1995 k)
            (reduced_if_mono (early2015 k.member) (pension_factor (factor2015 k)) (pension_mono k.years choice.parts w r.parts (le_refl 0)))
            (if_mono (has_section k) (reduced_if_mono (early1995 k.member) (pension_factor (factor1995 k)) (pension1995_mono k.pay pays))));
        lump_sum =
            subst (λ (z : ℤ). net_lump_sum k choice ≤ℤ z) gives.lump_sum
            (less_mono _ _ (debit_lump_sum k)
            (if_mono (in_section 1 k) (reduced_if_mono (early1995 k.member) (lump_factor (factor1995 k)) (lump_sum_mono (pension1995_mono k.pay pays)))));
      }
    where
      pays : choice.pay ≤ own_pay k.pay
      pays = pay_most k.pay choice.pay r.pay

pub largest_kept : (k : Frames) (a : Amounts) → All WorkedPosts k.years → answer_of (begun k) ≡ Ok a → LargestOf k a
largest_kept k a w e =
    let g = answered k a e in
    let f = covered k g.unrefused in
    subst (LargestOf k) g.is (record { given = gives k w f; rivals = at_most k w f })
