-- Marks of a pool's nodes, and the least level of a node.
use Rattle.std.specs.Prelude.{ℕ, List, Option, Some, None, Bool, false, nat_eq, filter_map}
use Rattle.certs.specs.Levels.{least_level, lesser_level}
use Rattle.certs.specs.declared.level.Level.{Level}
use Rattle.bb_core.specs.Coverage.{Mark as Standing, Closed, Open, Held}
use Rattle.open_pool.specs.declared.slot.Mark.{Mark}
use Rattle.open_pool.specs.declared.slot.Mark.TheVariants.{Open as IsOpen, Claimed as IsClaimed, Closed as IsClosed}

-- a pool doesn't know who holds a claimed node: its number is 0
abbrev pub claimed : Standing
claimed = Held 0

abbrev pub mark_of : Mark → Standing
mark_of IsOpen = Open
mark_of IsClaimed = claimed
mark_of IsClosed = Closed

abbrev pub is_held_by : ℕ → Standing → Bool
is_held_by a Closed = false
is_held_by a Open = false
is_held_by a (Held b) = nat_eq a b

-- the least level of the live scenarios
abbrev pub least_live : List (Option Level) → Level
least_live levels = least_level (filter_map (λ (l : Option Level). l) levels)

-- the lesser of a level, where there is one, and another one
abbrev pub lesser_than : Option Level → Level → Level
lesser_than None b = b
lesser_than (Some a) b = lesser_level a b
