-- How a run ends: its status, and what the desk tells then.
use Rattle.std.specs.Prelude.{◌≡◌, ◌⊎◌, ℕ, ◌≤◌, List, [], ◌++◌, take, Option, Some, None, IsSome, Err, option_map}
use Rattle.desk.specs.Causes.{Rose}
use Rattle.desk.specs.Desk.{View, Files}
use Rattle.std.specs.FinMap as map
use Rattle.int_model.specs.Models.{IntegerModel}
use Rattle.mps_reader.specs.MpsModels.{model_of}
use Rattle.mps_reader.specs.declared.MpsKind.{MpsKind}
use Rattle.scenario_changes.specs.Problems.{Scenarios, problem}
use Rattle.changes_reader.specs.ChangesText.{changes_of}
use Rattle.changes_reader.specs.declared.ChangesKind.{ChangesKind}
use Rattle.tree_log.specs.Logs.{IsLogOf}
use Rattle.tree_log.specs.Readings.{IsReading}
use Rattle.tree_log.specs.declared.file.LogFile.{LogFile}
use Rattle.tree_log.specs.declared.fault.LogKind.{LogKind}
use Rattle.tree_log.specs.declared.fault.LogError.TheVariants.{Line}
use Rattle.tree_check.specs.Checks.{IsRefused}
use Rattle.tree_check.specs.declared.checking.CheckError.{CheckError}
use Rattle.command_line.specs.Words.{Inputs}
use Rattle.scenopt.specs.Messages.{out_of_memory, unwritable, unreadable, too_long, model_line, changes_line, log_line, check_text}
use Rattle.scenopt.specs.Files.{HasBytes, IsTooLong, HasModel, HasProblem, name_of, names_to}
use Rattle.scenopt.specs.declared.input.Input.{Input}
use Rattle.scenopt.specs.declared.input.Input.TheVariants.{Model, Changes, Log}
use Rattle.scenopt.specs.declared.status.Status.{Status}
use Rattle.scenopt.specs.declared.status.Status.TheVariants as status

-- the exit status
abbrev pub status_code : Status → ℕ
status_code status.Done = 0
status_code status.Usage = 1
status_code status.ModelRefused = 2
status_code status.ChangesRefused = 3
status_code status.ReadFault = 4
status_code status.WriteFault = 5
status_code status.Memory = 6
status_code status.Limit = 7
status_code status.LogRefused = 8

-- the status where a text is refused
abbrev pub refused : Input → Status
refused Model = status.ModelRefused
refused Changes = status.ChangesRefused
refused Log = status.LogRefused

-- ---- what a desk's parts become

-- all of a text was added
abbrev pub Adds : Option (List ℕ) → Option (List ℕ) → List ℕ → Type 0
Adds old new text = new ≡ option_map (λ told. told ++ text) old

-- a front of a text was added, perhaps none of it
abbrev pub AddsFront : Option (List ℕ) → Option (List ℕ) → List ℕ → Type 0
AddsFront old new text = (n : ℕ) × (new ≡ option_map (λ told. told ++ take n text) old)

-- What trying to warn a message leaves: all of it was warned, or after a fault a front of it, or for want of memory
-- nothing.
abbrev pub Tries : List ℕ → View → View → Type 0
Tries message old new =
    Adds old.warned new.warned message
    ⊎ (Rose old.write_faults new.write_faults × AddsFront old.warned new.warned message)
    ⊎ (new.warned ≡ old.warned)

-- these names were asked for, in order
abbrev pub AddsNames : View → View → List (List ℕ) → Type 0
AddsNames old new names = new.fetched ≡ option_map (λ told. told ++ names) old.fetched

-- where a name is given, its file is the text; all other files stay
abbrev pub Writes : Option (List ℕ) → List ℕ → View → View → Type 0
Writes None text old new = new.files ≡ old.files
Writes (Some name) text old new = new.files ≡ option_map (λ m. map.insert m name text) old.files

-- a file is as it was or a front of the text; all other files stay
abbrev pub WritesFront : Option (List ℕ) → List ℕ → View → View → Type 0
WritesFront None text old new = ⊥
WritesFront (Some name) text old new = (new.files ≡ old.files) ⊎ ((n : ℕ) × (new.files ≡ option_map (λ m. map.insert m name (take n text)) old.files))

-- ---- refusals

-- why a model is refused, as a message
abbrev pub IsModelRefusal : Option Files → List ℕ → List ℕ → Type 0
IsModelRefusal files name message =
    (IsTooLong files Model name × (message ≡ too_long Model))
    ⊎ ((bytes : List ℕ) × HasBytes files Model name bytes × ((line : ℕ) × (kind : MpsKind) × (model_of bytes ≡ Err (line, kind)) × (message ≡ model_line line kind)))

-- why a file of changes to a model is refused, as a message
abbrev pub IsChangesRefusal : Option Files → Option (List ℕ) → IntegerModel → List ℕ → Type 0
IsChangesRefusal files None m message = ⊥
IsChangesRefusal files (Some name) m message =
    (IsTooLong files Changes name × (message ≡ too_long Changes))
    ⊎ ((bytes : List ℕ) × HasBytes files Changes name bytes × ((line : ℕ) × (kind : ChangesKind) × (changes_of m bytes ≡ Err (line, kind)) × (message ≡ changes_line line kind)))

-- the text is no log, or a log that doesn't show its claims of the problem
abbrev pub IsNoProof : Scenarios → List ℕ → List ℕ → Type 0
IsNoProof p bytes message =
    ((line : ℕ) × (kind : LogKind) × IsReading bytes (Err (Line line kind)) × (message ≡ log_line line kind))
    ⊎ ((f : LogFile) × IsLogOf f bytes × ((e : CheckError) × IsRefused (problem p) f e × (check_text e ≡ Some message)))

-- why a log of a problem is refused, as a message
abbrev pub IsLogRefusal : Option Files → Option (List ℕ) → Scenarios → List ℕ → Type 0
IsLogRefusal files None p message = ⊥
IsLogRefusal files (Some name) p message =
    (IsTooLong files Log name × (message ≡ too_long Log))
    ⊎ ((bytes : List ℕ) × HasBytes files Log name bytes × IsNoProof p bytes message)

-- why a command's text is refused, as a message: the changes only where the model is not, and a log only where neither is
abbrev pub IsRefusal : Option Files → Inputs → Option (List ℕ) → Input → List ℕ → Type 0
IsRefusal files inputs log Model message = IsModelRefusal files inputs.model message
IsRefusal files inputs log Changes message = (m : IntegerModel) × HasModel files inputs.model m × IsChangesRefusal files inputs.changes m message
IsRefusal files inputs log Log message = (p : Scenarios) × HasProblem files inputs p × IsLogRefusal files log p message

-- ---- how a run stops

-- what warning a message that belongs to a status gives: the status where all of it was warned, or else why not
abbrev pub Tells : Status → List ℕ → View → View → Status → Type 0
Tells s message old new result =
    ((result ≡ s) × Adds old.warned new.warned message)
    ⊎ ((result ≡ status.WriteFault) × Rose old.write_faults new.write_faults × AddsFront old.warned new.warned message)
    ⊎ ((result ≡ status.Memory) × (new.warned ≡ old.warned))

-- a text was refused, and the message of that told
abbrev pub Refuses : Input → (List ℕ → Type 0) → View → View → Status → Type 0
Refuses input IsWhy old new result = (message : List ℕ) × IsWhy message × Tells (refused input) message old new result

-- a file couldn't be read, where there is one
pub record Misses (input : Input) (file : Option (List ℕ)) (old new : View) (result : Status) : Type 0 where
  pub named : IsSome file
  pub status : result ≡ status.ReadFault
  pub rose : Rose old.fetch_faults new.fetch_faults
  pub warned : Tries (unreadable input) old new

-- memory was wanting
pub record Lacks (old new : View) (result : Status) : Type 0 where
  pub status : result ≡ status.Memory
  pub warned : Tries out_of_memory old new

-- A run stopped at the text of a file, behind these names: it was refused or couldn't be read, or before all of them
-- were asked for, or behind them, memory was wanting.
abbrev pub Stops : Input → Option (List ℕ) → (List ℕ → Type 0) → List (List ℕ) → View → View → Status → Type 0
Stops input file IsWhy names old new result =
    (AddsNames old new names × (Refuses input IsWhy old new result ⊎ Misses input file old new result))
    ⊎ (Lacks old new result × ((n : ℕ) × AddsNames old new (take n names)))

-- a run stopped at one of a command's texts
abbrev pub StopsAtInput : Inputs → Option (List ℕ) → View → View → Status → Type 0
StopsAtInput inputs log old new result = (input : Input) × Stops input (name_of inputs log input) (IsRefusal old.files inputs log input) (names_to inputs log input) old new result

-- what printing a text gives: the status where all of it was printed, or else why not
abbrev pub Prints : Status → List ℕ → View → View → Status → Type 0
Prints s text old new result =
    ((result ≡ s) × Adds old.printed new.printed text × (new.warned ≡ old.warned))
    ⊎ ((result ≡ status.WriteFault) × Rose old.write_faults new.write_faults × AddsFront old.printed new.printed text × Tries unwritable old new)
    ⊎ (Lacks old new result × (new.printed ≡ old.printed))

-- ---- steps of a run

-- the files and what was printed stay, and no count of faults falls
pub record Stays (old new : View) : Type 0 where
  pub files : new.files ≡ old.files
  pub printed : new.printed ≡ old.printed
  pub fetch_faults : old.fetch_faults ≤ new.fetch_faults
  pub write_faults : old.write_faults ≤ new.write_faults

-- the files and what was fetched and printed are as they were
pub record OnlyWarns (old new : View) : Type 0 where
  pub files : new.files ≡ old.files
  pub printed : new.printed ≡ old.printed
  pub fetched : new.fetched ≡ old.fetched
  pub fetch_faults : new.fetch_faults ≡ old.fetch_faults
  pub write_faults : old.write_faults ≤ new.write_faults

-- these names were asked for, and nothing was said
pub record Fetches (names : List (List ℕ)) (old new : View) : Type 0 where
  pub asked : AddsNames old new names
  pub warned : new.warned ≡ old.warned
