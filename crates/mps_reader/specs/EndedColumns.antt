-- A column at the end of the text.
use Rattle.std.specs.Prelude.{◌≡◌, ℕ, ℤ, List, filter, map}
use Rattle.std.specs.List.{enumerate_from}
use Rattle.mps_reader.specs.MpsLines.{Line, is_one_of, integer_names}
use Rattle.mps_reader.specs.MpsModels.{bound_lines, low_of, high_of, is_implied, cost_of, is_not_zero}
use Rattle.mps_reader.specs.ColumnBounds.{BoundsAgree}
use Rattle.mps_reader.specs.declared.columns.ColumnDraft.{ColumnDraft}
use Rattle.int_model.specs.declared.build.ColumnPart.{ColumnPart}

-- the column's bounds and whether it began in an integer part are what the lines say
pub record IsColumnOf (ls : List Line) (column : ColumnDraft) : Type 0 where
  pub bounds : BoundsAgree column.bounds (bound_lines ls column.name)
  pub marked : column.is_marked ≡ is_one_of (integer_names ls) column.name

-- the part that a column becomes
abbrev pub part_of : List Line → ColumnDraft → ColumnPart
part_of ls column = record {
  name = column.name;
  cost = cost_of ls column.name;
  low = low_of ls column.name;
  high = high_of ls column.name;
  implied = is_implied ls column.name;
}

-- the costs that aren't 0, with the numbers of their columns, which are counted from first
abbrev pub costs_from : ℕ → List Line → List (List ℕ) → List (ℕ × ℤ)
costs_from first ls columns = filter (λ (t : ℕ × ℤ). is_not_zero t.1) (map (λ (c : ℕ × List ℕ). (c.0, cost_of ls c.1)) (enumerate_from first columns))
