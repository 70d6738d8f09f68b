-- What the files of a command mean.
use Rattle.std.specs.Prelude.{◌≡◌, ℕ, ◌<◌, ◌≤◌, List, [], ◌∷◌, ◌++◌, length, Option, Some, None, IfSome, Ok}
use Rattle.desk.specs.Desk.{Files, bytes_of}
use Rattle.int_model.specs.Models.{IntegerModel}
use Rattle.mps_reader.specs.MpsModels.{model_of}
use Rattle.scenario_changes.specs.Changes.{Change, ChangeSet}
use Rattle.scenario_changes.specs.Problems.{Scenarios, problem}
use Rattle.changes_reader.specs.ChangesText.{changes_of}
use Rattle.tree_log.specs.Logs.{IsLogOf}
use Rattle.tree_log.specs.declared.file.LogFile.{LogFile}
use Rattle.tree_check.specs.Checks.{IsAccepted}
use Rattle.command_line.specs.Words.{Inputs}
use Rattle.scenopt.specs.declared.input.Input.{Input}
use Rattle.scenopt.specs.declared.input.Input.TheVariants.{Model, Changes, Log}

-- ---- names

-- the name of the file of a text: a model and changes, and where one is read a log
abbrev pub name_of : Inputs → Option (List ℕ) → Input → Option (List ℕ)
name_of inputs log Model = Some inputs.model
name_of inputs log Changes = inputs.changes
name_of inputs log Log = log

abbrev pub names_of : Option (List ℕ) → List (List ℕ)
names_of None = []
names_of (Some name) = name ∷ []

-- the names that are asked for up to a text
abbrev pub names_to : Inputs → Option (List ℕ) → Input → List (List ℕ)
names_to inputs log Model = inputs.model ∷ []
names_to inputs log Changes = inputs.model ∷ names_of inputs.changes
names_to inputs log Log = (inputs.model ∷ names_of inputs.changes) ++ names_of log

-- ---- texts

-- the most bytes of a file
abbrev pub limit : Input → ℕ
limit Model = 16777216
limit Changes = 16777216
limit Log = 1073741824

-- the bytes of a file that isn't too long, where files are told
pub record HasBytes (files : Option Files) (input : Input) (name bytes : List ℕ) : Type 0 where
  pub told : IfSome files (λ m. bytes ≡ bytes_of m name)
  pub fits : length bytes ≤ limit input

-- a longer file
abbrev pub IsTooLong : Option Files → Input → List ℕ → Type 0
IsTooLong files input name = IfSome files (λ m. limit input < length (bytes_of m name))

-- the model of the text in a file
pub record HasModel (files : Option Files) (name : List ℕ) (m : IntegerModel) : Type 0 where
  pub bytes : List ℕ
  pub has : HasBytes files Model name bytes
  pub is : model_of bytes ≡ Ok m

-- the changes of all scenarios in a file; without a file there is no scenario
abbrev pub HasChanges : Option Files → Option (List ℕ) → IntegerModel → List Change → Type 0
HasChanges files None m scenarios = scenarios ≡ []
HasChanges files (Some name) m scenarios = (bytes : List ℕ) × HasBytes files Changes name bytes × ((set : ChangeSet) × (changes_of m bytes ≡ Ok set) × (scenarios ≡ set.scenarios))

-- the problem of a command's files
pub record HasProblem (files : Option Files) (inputs : Inputs) (p : Scenarios) : Type 0 where
  pub model : HasModel files inputs.model p.model
  pub changes : HasChanges files inputs.changes p.model p.changes

-- the log whose text a file is
pub record HasLog (files : Option Files) (name : List ℕ) (f : LogFile) : Type 0 where
  pub bytes : List ℕ
  pub has : HasBytes files Log name bytes
  pub is : IsLogOf f bytes

-- the file is a log that shows right answers to the problem
pub record Shows (files : Option Files) (name : List ℕ) (p : Scenarios) : Type 0 where
  pub file : LogFile
  pub read : HasLog files name file
  pub accepted : IsAccepted (problem p) file file.answers
