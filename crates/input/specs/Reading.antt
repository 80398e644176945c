-- What a reading says of the room that was lent to it. Of the bytes that come in no contract can say anything.
use Rattle.std.specs.Prelude.{ℕ, ◌-◌, ◌<◌, List, ◌≡◌, get_or, IsSome}
use Rattle.io.specs.Counts.{IsPrefixLen}
use Rattle.input.specs.declared.Reading.{Reading}

-- the byte that stands last after a failed read: no digit, and no line feed
abbrev pub failed_mark : ℕ
failed_mark = 0

-- the bytes to work are at the start of the room, and where a read failed the last of them is the mark
pub record ReadInto (room : List ℕ) (r : Reading) : Type 0 where
  pub within : IsPrefixLen r.count room
  pub marked : IsSome r.error → (0 < r.count) × (get_or room (r.count - 1) 10 ≡ failed_mark)
