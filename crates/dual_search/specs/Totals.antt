-- The total of a vector over the boxes of some scenarios, and its neighbours.
use Rattle.std.specs.Prelude.{◌≡◌, ◌≢◌, ℕ, ℤ, pos, ◌+ℤ◌, ◌-ℤ◌, ◌<ℤ◌, unsigned_abs, List, [], ◌∷◌}
use Rattle.int_model.specs.Boxes.{Box}
use Rattle.int_model.specs.RowSums.{coefficient}
use Rattle.scenario_changes.specs.Problems.{Problem, program_at}
use Rattle.dual_bounds.specs.Vectors.{Multipliers, KeepsLimits, RowsBelow, program_sum}

-- the sum of a vector's sums for the scenarios, each on its box
abbrev pub total : Problem → List ℕ → List Box → Multipliers → ℤ
total p (s ∷ live) (box ∷ boxes) v = program_sum (program_at p s) v box +ℤ total p live boxes v
total p (s ∷ live) [] v = pos 0
total p [] boxes v = pos 0

-- the multiplier of a row, 0 where it has no entry
abbrev pub multiplier : Multipliers → ℕ → ℤ
multiplier v i = coefficient i v.entries

-- a vector of the same scale, with rows below a count, whose multiplier differs by one in exactly one row
pub record IsNeighbour (rows : ℕ) (v w : Multipliers) : Type 0 where
  pub limits : KeepsLimits w
  pub scale : w.scale ≡ v.scale
  pub rows_below : RowsBelow rows w.entries
  pub row : ℕ
  pub by_one : unsigned_abs (multiplier w row -ℤ multiplier v row) ≡ 1
  pub elsewhere : (i : ℕ) → i ≢ row → multiplier w i ≡ multiplier v i

-- a total greater than that of the start, where some neighbour of the start has a greater one
abbrev pub IsAscended : Problem → List ℕ → List Box → Multipliers → Multipliers → Type 0
IsAscended p live boxes start v = (w : Multipliers) → IsNeighbour p.rows start w → total p live boxes start <ℤ total p live boxes w → total p live boxes start <ℤ total p live boxes v
