-- Places for vectors.
use Rattle.std.specs.Prelude.{◌≡◌, ◌≤◌, List, [], ◌∷◌, length, Option, Some, None}
use Rattle.smallvec.specs.SmallVec.{SmallVec}
use Rattle.dual_bounds.specs.Vectors.{Multipliers}

-- the vectors of the places that have one
abbrev pub held : List (Option Multipliers) → List Multipliers
held [] = []
held (None ∷ places) = held places
held (Some v ∷ places) = v ∷ held places

abbrev pub AreTaken : List (Option Multipliers) → Type 0
AreTaken [] = Unit {0}
AreTaken (None ∷ places) = ⊥
AreTaken (Some v ∷ places) = AreTaken places

-- at most two places, each with a vector, and room for two
pub record IsHeld (v : SmallVec (Option Multipliers)) : Type 0 where
  pub few : length v.items ≤ 2
  pub taken : AreTaken v.items
  pub room : v.capacity ≡ 2
