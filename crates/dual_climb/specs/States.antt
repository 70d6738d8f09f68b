-- The lists of a climb's state are as long as the rows, or the columns.
use Rattle.std.specs.Prelude.{◌≡◌, ℤ, Bool, List, length}
use Rattle.dual_climb.specs.declared.row.Row.{Row}
use Rattle.dual_climb.specs.declared.penalties.PenaltyRange.{PenaltyRange}

pub record IsState (rows : List Row) (multipliers penalties : List ℤ) (ranges : List PenaltyRange) (point : List ℤ) (rests : List Bool) : Type 0 where
  pub each_multiplier : length multipliers ≡ length rows
  pub each_penalty : length penalties ≡ length rows
  pub each_range : length ranges ≡ length rows
  pub each_rest : length rests ≡ length point
