-- A point with its row sums.
use Rattle.std.specs.Prelude.{◌≡◌, length}
use Rattle.int_model.specs.Models.{IntegerModel}
use Rattle.dive.specs.declared.moves.Moves.{Moves}

-- a number for each column, and a sum for each row
pub record AreMoves (m : IntegerModel) (v : Moves) : Type 0 where
  pub point : length v.point.items ≡ length m.columns
  pub sums : length v.sums.items ≡ length m.rows
