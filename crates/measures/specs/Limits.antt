-- Limits of the papers that more than one part of a case has.
use Rattle.std.specs.Prelude.{ℕ, ◌+◌, ◌*◌}

-- "a pay above 1,000,000,000"
abbrev pub highest_pay : ℕ
highest_pay = 1000000000

-- "a supplement above 1,000,000,000" (2.7)
abbrev pub highest_supplement : ℕ
highest_supplement = 1000000000

-- "a 17th post"; "over 16"
abbrev pub most_posts : ℕ
most_posts = 16

-- the most that a post counts: "p + s" (2.7)
abbrev pub highest_counted : ℕ
highest_counted = highest_pay + highest_supplement

-- the highest aggregate pay of a year
abbrev pub highest_aggregate : ℕ
highest_aggregate = most_posts * highest_counted
