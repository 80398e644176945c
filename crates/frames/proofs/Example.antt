-- Request 2.5 by computation: each section with each of four ages, causes of 5 beside another age, and frames of other lengths; of
-- request 2.7 posts of other lengths.
use Prim.Native.Nat.{ℕ}
use mathlib.Core.Path.{◌≡◌, refl}
use mathlib.Core.List.{List, [], ◌∷◌}
use Rattle.fields.specs.Fields.{one_at, two_at, four_at}
use Rattle.calendar.specs.Dates.{is_leap, month_length, date_stands, is_before, dates_refusal}
use Rattle.posts.specs.Posts.{post_of}
use Rattle.posts.specs.Call.{post_at}
use Rattle.frames.specs.declared.Frame.{Frame}
use Rattle.std.specs.Prelude.{Ok, Err}
use Rattle.frames.specs.Frames.{date_at, member_in, frame_length, frame_of, Decoded, decoded}
use Rattle.frames.specs.Limits.{member_refusal}

-- born on 1 April 1970, out at 67: the refusal by section, pension age and the section's pension age
abbrev pub refusal_at : ℕ → ℕ → ℕ → ℕ
refusal_at section age sectionAge = member_refusal (member_in (1 ∷ 7 ∷ 178 ∷ 4 ∷ 1 ∷ 7 ∷ 245 ∷ 4 ∷ 1 ∷ section ∷ age ∷ sectionAge ∷ []))

-- with 0, 60, 65 and 255
abbrev pub ages_of : ℕ → List ℕ
ages_of section = refusal_at section 67 0 ∷ refusal_at section 67 60 ∷ refusal_at section 67 65 ∷ refusal_at section 67 255 ∷ []

pub ages_shown : (ages_of 0 ∷ ages_of 1 ∷ ages_of 2 ∷ ages_of 3 ∷ []) ≡ (0 ∷ 28 ∷ 28 ∷ 28 ∷ []) ∷ (28 ∷ 0 ∷ 28 ∷ 28 ∷ []) ∷ (28 ∷ 28 ∷ 0 ∷ 28 ∷ []) ∷ (5 ∷ 5 ∷ 5 ∷ 5 ∷ []) ∷ []
unfolding one_at two_at is_leap month_length date_stands is_before dates_refusal date_at member_in member_refusal
ages_shown = refl

-- pension age 54 and 76, born on 31 April, out a day before birth, each with an age that is not the section's
abbrev pub fives : List ℕ
fives =
    refusal_at 0 54 60
    ∷ refusal_at 1 76 65
    ∷ member_refusal (member_in (1 ∷ 7 ∷ 178 ∷ 4 ∷ 31 ∷ 7 ∷ 245 ∷ 4 ∷ 1 ∷ 1 ∷ 67 ∷ 0 ∷ []))
    ∷ member_refusal (member_in (1 ∷ 7 ∷ 178 ∷ 4 ∷ 2 ∷ 7 ∷ 178 ∷ 4 ∷ 1 ∷ 2 ∷ 67 ∷ 255 ∷ []))
    ∷ []

pub five_before_age : fives ≡ 5 ∷ 5 ∷ 5 ∷ 5 ∷ []
unfolding one_at two_at is_leap month_length date_stands is_before dates_refusal date_at member_in member_refusal
five_before_age = refl

-- the frame of the earlier length, and one of a byte more
abbrev pub other_lengths : List Decoded
other_lengths =
    decoded (1 ∷ 7 ∷ 178 ∷ 4 ∷ 1 ∷ 7 ∷ 245 ∷ 4 ∷ 1 ∷ 0 ∷ 67 ∷ [])
    ∷ decoded (1 ∷ 7 ∷ 178 ∷ 4 ∷ 1 ∷ 7 ∷ 245 ∷ 4 ∷ 1 ∷ 0 ∷ 67 ∷ 0 ∷ 0 ∷ [])
    ∷ []

pub lengths_shown : other_lengths ≡ Err 3 ∷ Err 3 ∷ []
unfolding one_at frame_length frame_of decoded
lengths_shown = refl

-- a post of the earlier length, of a byte less and of a byte more than its length, and a post with its supplement
abbrev pub posts : List Decoded
posts =
    decoded (3 ∷ 5 ∷ 220 ∷ 8 ∷ 202 ∷ 0 ∷ 39 ∷ 172 ∷ 64 ∷ [])
    ∷ decoded (3 ∷ 5 ∷ 220 ∷ 8 ∷ 202 ∷ 0 ∷ 39 ∷ 172 ∷ 64 ∷ 0 ∷ 3 ∷ 13 ∷ [])
    ∷ decoded (3 ∷ 5 ∷ 220 ∷ 8 ∷ 202 ∷ 0 ∷ 39 ∷ 172 ∷ 64 ∷ 0 ∷ 3 ∷ 13 ∷ 64 ∷ 0 ∷ [])
    ∷ decoded (3 ∷ 5 ∷ 220 ∷ 8 ∷ 202 ∷ 0 ∷ 39 ∷ 172 ∷ 64 ∷ 0 ∷ 3 ∷ 13 ∷ 64 ∷ [])
    ∷ []

pub post_lengths_shown : posts ≡ Err 3 ∷ Err 3 ∷ Err 3 ∷ Ok (Frame.Post (post_of 1500 2250 2600000 200000)) ∷ []
unfolding one_at two_at four_at post_at frame_length frame_of decoded
post_lengths_shown = refl
