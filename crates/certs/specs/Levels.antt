-- Levels: numbers, and one above them all.
use Rattle.std.specs.Prelude.{◌≤◌, ◌^◌, ℤ, ◌≤ℤ◌, unsigned_abs, Bool, true, false, int_le, if◌then◌else◌, List, [], ◌∷◌, Option, Some, None}
use Rattle.certs.specs.declared.level.Level.{Level}
use Rattle.certs.specs.declared.level.Level.TheVariants.{Value, Inf}

-- the order, with Inf above every number
abbrev pub level_le : Level → Level → Bool
level_le (Value a) (Value b) = int_le a b
level_le (Value a) Inf = true
level_le Inf (Value b) = false
level_le Inf Inf = true

abbrev pub greater_level : Level → Level → Level
greater_level a b = if level_le a b then b else a

abbrev pub lesser_level : Level → Level → Level
lesser_level a b = if level_le a b then a else b

-- the least of the levels, Inf of none
abbrev pub least_level : List Level → Level
least_level [] = Inf
least_level (l ∷ ls) = lesser_level l (least_level ls)

-- the level of a cap: a cap that isn't there is Inf
abbrev pub cap_level : Option ℤ → Level
cap_level None = Inf
cap_level (Some v) = Value v

-- the level is at most the value
abbrev pub AtMost : Level → ℤ → Type 0
AtMost (Value a) v = a ≤ℤ v
AtMost Inf v = ⊥

-- Inf, or a number within ±2^60, as all values are
abbrev pub LevelFits : Level → Type 0
LevelFits (Value a) = unsigned_abs a ≤ 2 ^ 60
LevelFits Inf = Unit {0}
