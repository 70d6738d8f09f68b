-- What the fields of a finder stand for.
use Rattle.finder.specs.declared.finder.Finder.TheInside.{Inside}
use Rattle.finder.specs.Found.{Found, IsSound}

abbrev pub found : Inside → Found
found a = record { problem = a.problem.now; seat = a.seat; points = a.points }

abbrev pub IsWhole : Inside → Type 0
IsWhole a = IsSound (found a)
