-- Near points of small boxes.
use Rattle.std.specs.Prelude.{pos, negsuc, [], ◌∷◌}
use Rattle.std.proofs.Common.{arith}
use Rattle.std.proofs.lemmas.Int.{ints}
use Rattle.int_model.specs.Boxes.{Box}
use Rattle.dual_climb.specs.Climbs.{IsNear}

-- from 0 to 3, and from -1 to -1
abbrev pub two : Box
two = record { low = pos 0; high = pos 3 } ∷ record { low = negsuc 0; high = negsuc 0 } ∷ []

-- 2.5 and -1
within : IsNear two (pos 40960 ∷ negsuc 16383 ∷ [])
within = (omega (arith, ints), omega (arith, ints), (omega (arith, ints), omega (arith, ints), tt))

-- 2.5 and -1 to one bit more lies outside, and so does 3 as a whole number below 14 bits for the second
outside : IsNear two (pos 40960 ∷ negsuc 16384 ∷ []) → ⊥
outside h = omega (arith, ints, h.2.0)

beyond : IsNear two (pos 49153 ∷ negsuc 16383 ∷ []) → ⊥
beyond h = omega (arith, ints, h.1)

-- a number for each interval
short : IsNear two (pos 0 ∷ []) → ⊥
short h = h.2
