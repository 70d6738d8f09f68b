-- What is proved of generated problems.
use Rattle.std.specs.Prelude.{◌≡◌, ℕ, ◌≤◌, length, map, Ok}
use Rattle.std.specs.List.{range_with_len}
use Rattle.int_model.specs.Models.{IntegerModel}
use Rattle.scenario_changes.specs.Changes.{ChangeSet}
use Rattle.mps_reader.specs.MpsModels.{model_of}
use Rattle.changes_reader.specs.ChangesText.{changes_of}
use Rattle.changes_reader.specs.Names.{column_names, row_names}
use Rattle.model_gen.specs.Texts.{column_name, row_name, generated_model, generated_changes}

-- the names of a generated problem's columns and rows
pub record HasNames (columns rows : ℕ) (m : IntegerModel) : Type 0 where
  pub columns_named : column_names m ≡ map column_name (range_with_len 0 columns)
  pub rows_named : row_names m ≡ map row_name (range_with_len 0 rows)

-- no line of either text is refused: the model text has a model, with the problem's columns and rows, and the changes
-- text has changes of it, for so many scenarios
pub record IsAccepted (seed columns rows scenarios : ℕ) : Type 0 where
  pub model : IntegerModel
  pub has_model : model_of (generated_model seed columns rows scenarios) ≡ Ok model
  pub named : HasNames columns rows model
  pub changes : ChangeSet
  pub has_changes : changes_of model (generated_changes seed columns rows scenarios) ≡ Ok changes
  pub counted : length changes.scenarios ≡ scenarios

-- so it is for every seed and size
abbrev pub TextsAreAccepted : Type 0
TextsAreAccepted = (seed columns rows scenarios : ℕ) → 1 ≤ columns → columns ≤ 1000 → rows ≤ 1000 → scenarios ≤ 64 → IsAccepted seed columns rows scenarios
