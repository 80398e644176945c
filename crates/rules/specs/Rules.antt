-- The frames kept, and when a next frame is refused after them: "Order", "When each part declines", the running case.
use Rattle.std.specs.Prelude.{ℕ, ◌+◌, Bool, true, false, ◌&&◌, ◌||◌, not, List, [], ◌∷◌, ◌++◌, ltb, eqb, length, Ok, Err}
use Rattle.std.proofs.Math.Option.{Option, none, some}
use Rattle.measures.specs.Refusals.{unless, first_refusal}
use Rattle.measures.specs.Tries.{tried, after, meant}
use Rattle.posts.specs.declared.Post.{Post}
use Rattle.posts.specs.Refusals.{post_refusal}
use Rattle.benefits.specs.declared.FinalPay.{FinalPay}
use Rattle.benefits.specs.Steps.{final_pay_refusal}
use Rattle.averages.specs.declared.TenPays.{TenPays}
use Rattle.averages.specs.Averages.{ten_pays_refusal}
use Rattle.frames.specs.declared.Member.{Member}
use Rattle.frames.specs.declared.Year.{Year}
use Rattle.frames.specs.declared.Factor.{Factor}
use Rattle.frames.specs.declared.Debit.{Debit}
use Rattle.frames.specs.declared.Frame.{Frame}
use Rattle.frames.specs.Frames.{Decoded, decoded}
use Rattle.frames.specs.Limits.{member_refusal, year_stands, is_section, factor_refusal, debit_refusal}

-- ---- the frames kept

-- an 02 with the 03s kept after it, in their order
pub record WorkedYear : Type 0 where
  pub year : Year
  pub posts : List Post

-- the pay frame of the member's section: an 04, or "a frame 08 in the place of 04"
pub data SectionPay : Type 0 where
  of1995 : FinalPay → SectionPay
  of2008 : TenPays → SectionPay

-- an 01 and the frames kept after it, those of each kind in the order in which they came
pub record Frames : Type 0 where
  pub member : Member
  pub years : List WorkedYear
  pub pay : Option SectionPay
  pub factors : List Factor
  pub debits : List Debit

-- no frame kept yet, or an 01 and what came after it
pub data Kept : Type 0 where
  nothing : Kept
  begun : Frames → Kept

-- ---- lists and options

-- whether there is one
abbrev pub given : {A : Type 0} → Option A → Bool
given none = false
given (some x) = true

-- whether there are any
abbrev pub non_empty : {A : Type 0} → List A → Bool
non_empty [] = false
non_empty (x ∷ xs) = true

-- the last of a list: "the previous 05", "the previous 06", the year before
unfoldable pub last_of : {A : Type 0} → List A → Option A
last_of [] = none
last_of (x ∷ []) = some x
last_of (x ∷ y ∷ xs) = last_of (y ∷ xs)

-- ---- 4, kind out of order: "Order: one 01; any 02, each followed by its 03s; at most one 04, only with section 1; 05s; 06s."
-- "a frame 08 in the place of 04"; "4 is given when 04 or 08 stands with another section"

-- no 06, 05, 04 or 08 is kept yet
unfoldable pub before_pay : Frames → Bool
before_pay k = not (non_empty k.debits) && not (non_empty k.factors) && not (given k.pay)

-- the member has a section
unfoldable pub has_section : Frames → Bool
has_section k = is_section k.member.section

-- the member has this section and no other
unfoldable pub in_section : ℕ → Frames → Bool
in_section section k = eqb k.member.section section

-- whether a frame stands in its place after those kept
unfoldable pub in_order : Frames → Frame → Bool
in_order k (Frame.Member m) = false
in_order k (Frame.Year y) = before_pay k
in_order k (Frame.Post x) = before_pay k && non_empty k.years
in_order k (Frame.FinalPay f) = before_pay k && in_section 1 k
in_order k (Frame.Factor f) = not (non_empty k.debits)
in_order k (Frame.Debit d) = true
in_order k (Frame.TenPays t) = before_pay k && in_section 2 k

-- ---- the fields of a frame, after the frames kept

-- "6, [..] a later one not the next"
unfoldable pub is_next : Option WorkedYear → ℕ → Bool
is_next none april = true
is_next (some y) april = eqb april (y.year.april + 1)

-- the years that a case has at most
abbrev pub most_years : ℕ
most_years = 50

-- "6, an April year outside 2015 to 2100, a later one not the next, revaluation above 2,000, a 51st year."
unfoldable pub year_refusal : List WorkedYear → Year → ℕ
year_refusal years y = unless (year_stands y && is_next (last_of years) y.april && ltb (length years) most_years) 6

-- the posts kept of the year that a next 03 joins
abbrev pub kept_posts : Option WorkedYear → List Post
kept_posts none = []
kept_posts (some y) = y.posts

-- of the last year
unfoldable pub open_posts : List WorkedYear → List Post
open_posts years = kept_posts (last_of years)

-- "10, [..] not after the previous 05 by scheme then months."
unfoldable pub after_factor : Option Factor → Factor → Bool
after_factor none f = true
after_factor (some g) f = ltb g.scheme f.scheme || (eqb g.scheme f.scheme && ltb g.months.0 f.months.0)

-- "11, [..] not after the previous 06 by scheme."
unfoldable pub after_debit : Option Debit → Debit → Bool
after_debit none d = true
after_debit (some e) d = ltb e.scheme d.scheme

-- the refusal of a frame's fields, by its kind
unfoldable pub fields_refusal : Frames → Frame → ℕ
fields_refusal k (Frame.Member m) = member_refusal m
fields_refusal k (Frame.Year y) = year_refusal k.years y
fields_refusal k (Frame.Post x) = post_refusal (open_posts k.years) x
fields_refusal k (Frame.FinalPay f) = final_pay_refusal f
fields_refusal k (Frame.Factor f) =
    first_refusal (factor_refusal f k.member.section) (unless (after_factor (last_of k.factors) f) 10)
fields_refusal k (Frame.Debit d) =
    first_refusal (debit_refusal d k.member.section) (unless (after_debit (last_of k.debits) d) 11)
fields_refusal k (Frame.TenPays t) = ten_pays_refusal t

-- ---- the refusal of a frame

-- "A frame is tried for 3, 4, fields": 4, then the fields, after the frames kept; 0 for none. The first is an 01.
unfoldable pub refusal_of : Kept → Frame → ℕ
refusal_of nothing (Frame.Member m) = member_refusal m
refusal_of nothing (Frame.Year y) = 4
refusal_of nothing (Frame.Post x) = 4
refusal_of nothing (Frame.FinalPay f) = 4
refusal_of nothing (Frame.Factor f) = 4
refusal_of nothing (Frame.Debit d) = 4
refusal_of nothing (Frame.TenPays t) = 4
refusal_of (begun k) f = first_refusal (unless (in_order k f) 4) (fields_refusal k f)

-- ---- a frame without refusal joins those kept

-- the frames kept with other years
abbrev pub with_years : Frames → List WorkedYear → Frames
with_years k years = record { member = k.member; years = years; pay = k.pay; factors = k.factors; debits = k.debits }

-- with the pay frame of the section
abbrev pub with_pay : Frames → SectionPay → Frames
with_pay k p = record { member = k.member; years = k.years; pay = some p; factors = k.factors; debits = k.debits }

-- with a final pay
abbrev pub with_final_pay : Frames → FinalPay → Frames
with_final_pay k f = with_pay k (of1995 f)

-- with ten pays
abbrev pub with_ten_pays : Frames → TenPays → Frames
with_ten_pays k t = with_pay k (of2008 t)

-- with other factors
abbrev pub with_factors : Frames → List Factor → Frames
with_factors k factors = record { member = k.member; years = k.years; pay = k.pay; factors = factors; debits = k.debits }

-- with other debits
abbrev pub with_debits : Frames → List Debit → Frames
with_debits k debits = record { member = k.member; years = k.years; pay = k.pay; factors = k.factors; debits = debits }

-- an 02 without 03s yet
abbrev pub new_year : Year → WorkedYear
new_year y = record { year = y; posts = [] }

-- an 03 joins the last year
unfoldable pub add_post : List WorkedYear → Post → List WorkedYear
add_post [] x = []
add_post (y ∷ []) x = record { year = y.year; posts = y.posts ++ x ∷ [] } ∷ []
add_post (y ∷ z ∷ ys) x = y ∷ add_post (z ∷ ys) x

-- the frames kept with one more; before the 01 nothing is kept
unfoldable pub keep : Kept → Frame → Kept
keep nothing (Frame.Member m) = begun (record { member = m; years = []; pay = none; factors = []; debits = [] })
keep nothing (Frame.Year y) = nothing
keep nothing (Frame.Post x) = nothing
keep nothing (Frame.FinalPay f) = nothing
keep nothing (Frame.Factor f) = nothing
keep nothing (Frame.Debit d) = nothing
keep nothing (Frame.TenPays t) = nothing
keep (begun k) (Frame.Member m) = begun k
keep (begun k) (Frame.Year y) = begun (with_years k (k.years ++ new_year y ∷ []))
keep (begun k) (Frame.Post x) = begun (with_years k (add_post k.years x))
keep (begun k) (Frame.FinalPay f) = begun (with_final_pay k f)
keep (begun k) (Frame.Factor f) = begun (with_factors k (k.factors ++ f ∷ []))
keep (begun k) (Frame.Debit d) = begun (with_debits k (k.debits ++ d ∷ []))
keep (begun k) (Frame.TenPays t) = begun (with_ten_pays k t)

-- ---- frames as they are offered

-- "A frame is tried for 3, 4, fields": bytes that are no frame have their refusal already
unfoldable pub refusal_of_decoded : Kept → Decoded → ℕ
refusal_of_decoded k (Ok f) = refusal_of k f
refusal_of_decoded k (Err number) = number

-- nothing is kept of bytes that are no frame
unfoldable pub keep_decoded : Kept → Decoded → Kept
keep_decoded k (Ok f) = keep k f
keep_decoded k (Err number) = k

-- raw frames decoded, each by itself
abbrev pub decoded_all : List (List ℕ) → List Decoded
decoded_all [] = []
decoded_all (bytes ∷ raws) = decoded bytes ∷ decoded_all raws

-- The frames meant, as document 01 defines them, by kind: "those of the list, in order, for which the rules name no refusal, each tried after
-- the frames so kept before it"
unfoldable pub kept : List Decoded → Kept
kept ds = after refusal_of_decoded keep_decoded nothing ds

-- the refusal of each frame of a list, 0 for none, "each tried after the frames so kept before it"
unfoldable pub refusals_from : Kept → List Decoded → List ℕ
refusals_from k [] = []
refusals_from k (d ∷ ds) = refusal_of_decoded k d ∷ refusals_from (tried refusal_of_decoded keep_decoded k d) ds

-- the frames meant as a list
unfoldable pub frames_meant : List Decoded → List Decoded
frames_meant ds = meant refusal_of_decoded keep_decoded nothing ds
