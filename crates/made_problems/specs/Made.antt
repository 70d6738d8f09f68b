-- A problem that was made from a generated one's texts.
use Rattle.std.specs.Prelude.{◌≡◌, ℕ, List, length, Ok}
use Rattle.int_model.specs.Models.{IntegerModel}
use Rattle.scenario_changes.specs.Changes.{ChangeSet}
use Rattle.scenario_changes.specs.Problems.{Scenarios}
use Rattle.mps_reader.specs.MpsModels.{model_of}
use Rattle.changes_reader.specs.ChangesText.{changes_of}
use Rattle.made_problems.specs.Laws.{HasNames}
use Rattle.model_gen.specs.Texts.{generated_model, generated_changes}

-- no line of a model text is refused
pub record HasModel (bytes : List ℕ) : Type 0 where
  pub model : IntegerModel
  pub is : model_of bytes ≡ Ok model

-- no line of a changes text is refused
pub record HasChanges (m : IntegerModel) (bytes : List ℕ) : Type 0 where
  pub changes : ChangeSet
  pub is : changes_of m bytes ≡ Ok changes

-- the problem has the model of the one text, with the generated columns and rows, and the changes of the other for
-- so many scenarios
pub record IsMade (seed columns rows scenarios : ℕ) (p : Scenarios) : Type 0 where
  pub set : ChangeSet
  pub has_model : model_of (generated_model seed columns rows scenarios) ≡ Ok p.model
  pub has_changes : changes_of p.model (generated_changes seed columns rows scenarios) ≡ Ok set
  pub changes : p.changes ≡ set.scenarios
  pub named : HasNames columns rows p.model
  pub counted : length p.changes ≡ scenarios
