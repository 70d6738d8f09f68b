-- The rows, as far as they have been read.
use Rattle.std.specs.Prelude.{◌≡◌, ℕ, Bool, true, false, not, nat_eq, List, [], ◌∷◌, length, map, codes, bytes_eq, Option, Some, None, if◌then◌else◌}
use Rattle.std.specs.Borrow.{Bor}
use Rattle.mps_reader.specs.MpsLines.{Line, field, data_of, free_rows, kept_rows}
use Rattle.mps_reader.specs.MpsModels.{sense_of}
use Rattle.mps_reader.specs.declared.row_draft.RowRole.{RowRole}
use Rattle.mps_reader.specs.declared.row_draft.RowRole.TheVariants.{Objective, Dropped, Kept}
use Rattle.int_model.specs.declared.model.RowSense.{RowSense}

-- the words of the first field
abbrev pub sense_words : List (List ℕ)
sense_words = codes "N" ∷ codes "L" ∷ codes "G" ∷ codes "E" ∷ []

-- the sense of a row, None of a free row
abbrev pub sense_after : List ℕ → Option RowSense
sense_after word = if bytes_eq word (codes "N") then None else Some (sense_of word)

-- the first free row is the objective, and the further ones are dropped
abbrev pub role_with : Bool → Option RowSense → RowRole
role_with has_objective (Some sense) = Kept sense
role_with true None = Dropped
role_with false None = Objective

-- the sense of a row with this role
abbrev pub sense_with : RowRole → Option RowSense
sense_with Objective = None
sense_with Dropped = None
sense_with (Kept sense) = Some sense

abbrev pub role_after : List Line → Line → RowRole
role_after earlier l = role_with (not (nat_eq (length (free_rows earlier)) 0)) (sense_after (field 0 l))

-- the names and the counts are those of the earlier lines
pub record RowsReady (keys : List (Bor (List ℕ))) (count : ℕ) (has_objective : Bool) (earlier : List Line) : Type 0 where
  pub names : map (λ k. k.now) keys ≡ map (field 1) (data_of (codes "ROWS") earlier)
  pub kept : count ≡ length (kept_rows earlier)
  pub objective : has_objective ≡ not (nat_eq (length (free_rows earlier)) 0)
