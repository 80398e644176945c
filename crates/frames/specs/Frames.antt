-- Document 01, "Frames", with the frame of request 2.4, the last byte of 2.5 and the supplement of 2.7: the frame that bytes are.
-- "fields are unsigned, big-endian, widths in bytes"
use Rattle.std.specs.Prelude.{ℕ, ◌+◌, ◌*◌, cond, List, eqb, length, Result, Ok, Err}
use Rattle.fields.specs.Fields.{one_at, two_at, four_at}
use Rattle.calendar.specs.declared.Date.{Date}
use Rattle.posts.specs.declared.Post.{Post}
use Rattle.posts.specs.Limits.{bytes_of_post}
use Rattle.posts.specs.Call.{post_at}
use Rattle.benefits.specs.declared.FinalPay.{FinalPay}
use Rattle.averages.specs.declared.TenPays.{TenPays}
use Rattle.frames.specs.declared.Member.{Member}
use Rattle.frames.specs.declared.Year.{Year}
use Rattle.frames.specs.declared.Factor.{Factor}
use Rattle.frames.specs.declared.Debit.{Debit}
use Rattle.frames.specs.declared.Frame.{Frame}

-- what bytes decode to: a frame, or the number of their refusal
abbrev pub Decoded : Type 0
Decoded = Result Frame ℕ

-- "The first byte is the kind": 0, which is no kind, where there is no byte
abbrev pub kind_of : List ℕ → ℕ
kind_of bytes = one_at bytes 0

-- "year 2, month 1, day 1 each"
unfoldable pub date_at : List ℕ → ℕ → Date
date_at bytes at = record { year = two_at bytes at; month = one_at bytes (at + 2); day = one_at bytes (at + 3) }

-- "01 member: birth and retirement (year 2, month 1, day 1 each), section 1 (0 none, 1 the 1995), pension age 1.";
-- "Section 2 joins the member frame."; "The member frame gains a last byte, the section's pension age"
unfoldable pub member_in : List ℕ → Member
member_in bytes =
    record {
      birth = date_at bytes 1;
      retirement = date_at bytes 5;
      section = one_at bytes 9;
      pension_age = one_at bytes 10;
      section_pension_age = one_at bytes 11;
    }

-- "02 year: April year (that of its 1 April) 2, revaluation 2."
unfoldable pub year_in : List ℕ → Year
year_in bytes = record { april = two_at bytes 1; revaluation = two_at bytes 3 }

-- "03 post: h 2, w 2, p 4."; "A post gains a supplement s of 4 bytes at its end"
abbrev pub post_in : List ℕ → Post
post_in bytes = post_at bytes 1

-- "04 final pay: four pays 4 each (year 4 first), three allowances in thousandths 2 each (year 3 first), controls 1 (bits 0, 1, 2 for years 3, 2, 1),
-- days 2, factor in hundredths 2."
unfoldable pub final_pay_in : List ℕ → FinalPay
final_pay_in bytes =
    record {
      pay4 = record { 0 = four_at bytes 1 };
      pay3 = record { 0 = four_at bytes 5 };
      pay2 = record { 0 = four_at bytes 9 };
      pay1 = record { 0 = four_at bytes 13 };
      allowance3 = two_at bytes 17;
      allowance2 = two_at bytes 19;
      allowance1 = two_at bytes 21;
      controls = one_at bytes 23;
      days = two_at bytes 24;
      factor = two_at bytes 26;
    }

-- "05 factor: scheme 1 (0 the 2015, 1 the 1995), months 2, pension factor 2, lump factor 2, both in thousandths.";
-- of a member of section 2 "Scheme 1 [..] means this section"
unfoldable pub factor_in : List ℕ → Factor
factor_in bytes =
    record { scheme = one_at bytes 1; months = record { 0 = two_at bytes 2 }; pension = two_at bytes 4; lump = two_at bytes 6 }

-- "06 debit: scheme 1, pot 4, factor in hundredths 2."
unfoldable pub debit_in : List ℕ → Debit
debit_in bytes = record { scheme = one_at bytes 1; pot = record { 0 = four_at bytes 2 }; factor = two_at bytes 6 }

-- "Ten pays come in a frame 08 [..]: oldest first, 4 bytes each, then days 2."
unfoldable pub ten_pays_in : List ℕ → TenPays
ten_pays_in bytes =
    record {
      pay10 = record { 0 = four_at bytes 1 };
      pay9 = record { 0 = four_at bytes 5 };
      pay8 = record { 0 = four_at bytes 9 };
      pay7 = record { 0 = four_at bytes 13 };
      pay6 = record { 0 = four_at bytes 17 };
      pay5 = record { 0 = four_at bytes 21 };
      pay4 = record { 0 = four_at bytes 25 };
      pay3 = record { 0 = four_at bytes 29 };
      pay2 = record { 0 = four_at bytes 33 };
      pay1 = record { 0 = four_at bytes 37 };
      days = two_at bytes 41;
    }

-- the bytes of a frame of each kind: the kind's own and its fields'; 0 for an unknown kind
unfoldable pub frame_length : ℕ → ℕ
frame_length kind =
    cond (eqb kind 1) (1 + 4 + 4 + 1 + 1 + 1)
    (cond (eqb kind 2) (1 + 2 + 2)
    (cond (eqb kind 3) (1 + bytes_of_post)
    (cond (eqb kind 4) (1 + 4 * 4 + 3 * 2 + 1 + 2 + 2)
    (cond (eqb kind 5) (1 + 1 + 2 + 2 + 2)
    (cond (eqb kind 6) (1 + 1 + 4 + 2)
    (cond (eqb kind 8) (1 + 10 * 4 + 2)
    0))))))

-- the bytes of the longest frame, the 08
abbrev pub longest_frame : ℕ
longest_frame = 43

-- "A frame is one of six kinds and carries its own fields", with 08 of seven; "3, unknown kind"
unfoldable pub frame_of : ℕ → List ℕ → Decoded
frame_of kind bytes =
    cond (eqb kind 1) (Ok (Frame.Member (member_in bytes)))
    (cond (eqb kind 2) (Ok (Frame.Year (year_in bytes)))
    (cond (eqb kind 3) (Ok (Frame.Post (post_in bytes)))
    (cond (eqb kind 4) (Ok (Frame.FinalPay (final_pay_in bytes)))
    (cond (eqb kind 5) (Ok (Frame.Factor (factor_in bytes)))
    (cond (eqb kind 6) (Ok (Frame.Debit (debit_in bytes)))
    (cond (eqb kind 8) (Ok (Frame.TenPays (ten_pays_in bytes)))
    (Err 3)))))))

-- "3, unknown kind or wrong length"
unfoldable pub decoded : List ℕ → Decoded
decoded bytes = cond (eqb (length bytes) (frame_length (kind_of bytes))) (frame_of (kind_of bytes) bytes) (Err 3)
