-- "Rival workings (demand 3)."
use Rattle.std.specs.Prelude.{ℕ, ◌≡◌, List, [], ◌∷◌, ℤ, pos, ◌+ℤ◌, ◌-ℤ◌, ◌≤ℤ◌}
use Rattle.posts.specs.Posts.{Rival}
use Rattle.rules.specs.declared.Amounts.{Amounts}
use Rattle.rules.specs.Rules.{WorkedYear, Frames, Kept, nothing, begun}
use Rattle.rules.specs.Working.{own_aggregates, own_parts, rival_aggregates, own_pay, candidates, gross2015, gross1995, gross_lump_sum, debit2015, debit1995, debit_lump_sum, charge_of}

-- what a working picks: the parts of each year's posts, and the pay of the section
pub record Choice : Type 0 where
  pub parts : List (List ℕ)
  pub pay : ℕ

-- "The picks of one year are free of those of other years and of the final pay."
pub data RivalParts : List WorkedYear → List (List ℕ) → Type 0 where
  no_years : RivalParts [] []
  year : {y : WorkedYear} {q : List ℕ} {ys : List WorkedYear} {qs : List (List ℕ)} → Rival y.posts q → RivalParts ys qs → RivalParts (y ∷ ys) (q ∷ qs)

-- one of the candidates; 0 where there is none to pick
pub data Picked : List ℕ → ℕ → Type 0 where
  none : Picked [] 0
  here : {pay : ℕ} {pays : List ℕ} → Picked (pay ∷ pays) pay
  later : {pay next other : ℕ} {pays : List ℕ} → Picked (next ∷ pays) pay → Picked (other ∷ next ∷ pays) pay

-- a working that the paper lets a rival pick
pub record Allowed (k : Frames) (choice : Choice) : Type 0 where
  pub parts : RivalParts k.years choice.parts
  pub pay : Picked (candidates k.pay) choice.pay

-- our own working
abbrev pub own_choice : Frames → Choice
own_choice k = record { parts = own_parts k.years; pay = own_pay k.pay }

-- Its net 2015 pension: "Then it goes through the same steps with its own parts and final pay, [..] the factors and debits the same;
-- a net below zero stays so."
unfoldable pub net2015 : Frames → Choice → ℤ
net2015 k choice = pos (gross2015 k (rival_aggregates k.years choice.parts)) -ℤ pos (debit2015 k)

-- its net pension of the section, in the 1995 place
unfoldable pub net1995 : Frames → Choice → ℤ
net1995 k choice = pos (gross1995 k choice.pay) -ℤ pos (debit1995 k)

-- its net lump sum
unfoldable pub net_lump_sum : Frames → Choice → ℤ
net_lump_sum k choice = pos (gross_lump_sum k choice.pay) -ℤ pos (debit_lump_sum k)

-- "the amounts the case gives, which are those of the steps above": the 2015 pension by our own aggregates, in which "a post in full counts
-- p + s" (2.7), and the rest by our own working, which is itself allowed
pub record Given (k : Frames) (a : Amounts) : Type 0 where
  pub allowed : Allowed k (own_choice k)
  pub pension2015 : pos (gross2015 k (own_aggregates k.years)) -ℤ pos (debit2015 k) ≡ pos a.net_2015.0
  pub pension1995 : net1995 k (own_choice k) ≡ pos a.net_1995.0
  pub lump_sum : net_lump_sum k (own_choice k) ≡ pos a.net_lump_sum.0
  pub charge : a.charge.0 ≡ charge_of k.pay

-- "Its net 2015 plus net 1995 pension is at most the same sum of the amounts the case gives, [..] and its net lump sum at most the one given."
pub record NetsAtMost (of2015 of1995 of_lump_sum : ℤ) (a : Amounts) : Type 0 where
  pub pensions : (of2015 +ℤ of1995) ≤ℤ (pos a.net_2015.0 +ℤ pos a.net_1995.0)
  pub lump_sum : of_lump_sum ≤ℤ pos a.net_lump_sum.0

-- of the nets of a choice
abbrev pub AtMost : Frames → Amounts → Choice → Type 0
AtMost k a choice = NetsAtMost (net2015 k choice) (net1995 k choice) (net_lump_sum k choice) a

-- the amounts given are those of the steps, and no rival has more
pub record LargestOf (k : Frames) (a : Amounts) : Type 0 where
  pub given : Given k a
  pub rivals : (choice : Choice) → Allowed k choice → AtMost k a choice

-- without a frame no amounts are given, so that none are the largest
abbrev pub LargestOfNone : Amounts → Type 0
LargestOfNone a = ⊥

-- of the frames kept
abbrev pub Largest : Kept → Amounts → Type 0
Largest nothing a = LargestOfNone a
Largest (begun k) a = LargestOf k a
