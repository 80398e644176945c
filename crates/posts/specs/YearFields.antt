-- The posts of a year, which the code has to hold, as contracts see it.
use Rattle.posts.specs.YearHeld.{YearHeld}
use Rattle.posts.specs.declared.YearPosts.TheInside.{Inside}

-- the year that its fields make
abbrev pub year_of : Inside → YearHeld
year_of a = record { list = a.list; ranking = a.ranking; count = a.count; minutes = a.minutes; weighted = a.weighted; wholes = a.wholes }
