-- What reading a text answers.
use Rattle.std.specs.Prelude.{◌≡◌, ℕ, List, Result, Ok, Err}
use Rattle.int_model.specs.Models.{IntegerModel}
use Rattle.scenario_changes.specs.Changes.{ChangeSet, Fits}
use Rattle.changes_reader.specs.ChangesText.{changes_of}
use Rattle.changes_reader.specs.declared.ChangesError.{ChangesError}
use Rattle.changes_reader.specs.declared.ChangesError.TheVariants.{Line, Memory}

-- the changes of the text, which fit the model; the first line that is refused, and its kind; or want of memory,
-- which may come at any time
abbrev pub IsReading : IntegerModel → List ℕ → Result ChangeSet ChangesError → Type 0
IsReading m bytes (Ok changes) = (changes_of m bytes ≡ Ok changes) × Fits changes m
IsReading m bytes (Err (Line line kind)) = changes_of m bytes ≡ Err (line, kind)
IsReading m bytes (Err Memory) = Unit {0}
