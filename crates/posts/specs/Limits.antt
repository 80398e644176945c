-- The limits of posts, and what they bound.
use Rattle.std.specs.Prelude.{ℕ, ◌+◌, ◌*◌}
use Rattle.measures.specs.Limits.{highest_counted, most_posts}

-- one more than that: the shortest list that 21 refuses
abbrev pub too_many_posts : ℕ
too_many_posts = most_posts + 1

-- "8 bytes each", and "a supplement s of 4 bytes at its end" (2.7): "23 goes by 12 bytes"
abbrev pub bytes_of_post : ℕ
bytes_of_post = 12

-- "w above 10,080"
abbrev pub longest_week : ℕ
longest_week = 10080

-- the most contracted minutes of a year's posts together, H
abbrev pub most_minutes : ℕ
most_minutes = most_posts * longest_week

-- the most that a post adds to K
abbrev pub heaviest_week : ℕ
heaviest_week = longest_week * longest_week

-- the most parts of a post
abbrev pub most_parts : ℕ
most_parts = longest_week * most_minutes

-- the most that stands above the line of a rate; below it heaviest_week
abbrev pub highest_rate_over : ℕ
highest_rate_over = highest_counted * longest_week
