-- What a run of the program does to its desk, by its words and its status.
use Rattle.std.specs.Prelude.{◌≡◌, ◌⊎◌, ◌≤◌, ℕ, List, [], ◌∷◌, Option, Some, None, IsTrue}
use Rattle.desk.specs.Causes.{Rose}
use Rattle.desk.specs.Desk.{View, Files}
use Rattle.scenario_changes.specs.Problems.{Scenarios}
use Rattle.scenario_changes.specs.declared.answer.Answer.{Answer}
use Rattle.certs.specs.declared.tree.Node.{Node}
use Rattle.scen_report.specs.Reports.{report_text}
use Rattle.scen_report.specs.Summaries.{summary_text}
use Rattle.tree_log.specs.HasText.{has_text}
use Rattle.tree_log.specs.Laws.{IsReadable}
use Rattle.tree_log.specs.Logs.{file_of}
use Rattle.tree_log.specs.declared.file.LogFile.{LogFile}
use Rattle.made_problems.specs.Made.{IsMade}
use Rattle.command_line.specs.Words.{Inputs, Order, solve, check, generate, command_of}
use Rattle.scenopt.specs.Messages.{usage, unwritable_log, accepted}
use Rattle.scenopt.specs.Files.{HasProblem, Shows, names_to}
use Rattle.scenopt.specs.Endings.{AddsNames, Writes, WritesFront, Tries, Tells, Lacks, StopsAtInput, Prints}
use Rattle.scenopt.specs.Answered.{IsSolved, log_of, status_of, most_nodes}
use Rattle.scenopt.specs.declared.input.Input.TheVariants.{Changes, Log}
use Rattle.scenopt.specs.declared.status.Status.{Status}
use Rattle.scenopt.specs.declared.status.Status.TheVariants as status

-- the files and what was printed are as they were
pub record IsUntouched (old new : View) : Type 0 where
  pub files : new.files ≡ old.files
  pub printed : new.printed ≡ old.printed

-- ---- solve

-- the log could not be written to its file, and nothing was printed
pub record LosesLog (file : Option (List ℕ)) (log : List ℕ) (old new : View) (result : Status) : Type 0 where
  pub status : result ≡ status.WriteFault
  pub rose : Rose old.write_faults new.write_faults
  pub written : WritesFront file log old new
  pub printed : new.printed ≡ old.printed
  pub warned : Tries unwritable_log old new

-- the log was written to its file, and nothing was said
pub record Keeps (file log : List ℕ) (old new : View) : Type 0 where
  pub written : Writes (Some file) log old new
  pub printed : new.printed ≡ old.printed
  pub warned : new.warned ≡ old.warned
  pub faults : old.write_faults ≤ new.write_faults

-- memory was wanting before anything was written or printed
pub record LacksAll (old new : View) (result : Status) : Type 0 where
  pub lacks : Lacks old new result
  pub untouched : IsUntouched old new

-- the log was written to its file, where one is given, and then the report printed
abbrev pub Delivers : Option (List ℕ) → List ℕ → Status → List ℕ → View → View → Status → Type 0
Delivers file log s report old new result =
    (Writes file log old new × Prints s report old new result)
    ⊎ LosesLog file log old new result

-- where a log is asked for, it is one that can be read again
abbrev pub IsLoggable : Option (List ℕ) → LogFile → Type 0
IsLoggable None f = Unit {0}
IsLoggable (Some name) f = IsTrue (has_text f)

-- the same, where it can be read again if the tree shows the answers
abbrev pub IsReadableIf : Option (List ℕ) → Scenarios → List Answer → List Node → Type 0
IsReadableIf None p answers tree = Unit {0}
IsReadableIf (Some name) p answers tree = IsReadable p answers tree

-- answers and a tree were told, or before that memory was wanting
abbrev pub IsTold : Scenarios → List Answer → List Node → Option (List ℕ) → View → View → Status → Type 0
IsTold p answers tree log old new result =
    (IsReadableIf log p answers tree × Delivers log (log_of p answers tree) (status_of answers) (report_text p answers) old new result)
    ⊎ LacksAll old new result

-- the answers to a problem were delivered, or before that memory was wanting
abbrev pub Reports : Scenarios → ℕ → Option (List ℕ) → View → View → Status → Type 0
Reports p nodes log old new result =
    ((answers : List Answer) × (tree : List Node) × IsSolved p nodes answers tree × IsLoggable log (file_of p answers tree) × Delivers log (log_of p answers tree) (status_of answers) (report_text p answers) old new result)
    ⊎ LacksAll old new result

-- A `solve` stopped at one of its texts, or it reported on the problem of its files.
abbrev pub Solves : Inputs → ℕ → Option (List ℕ) → View → View → Status → Type 0
Solves inputs nodes log old new result =
    (StopsAtInput inputs None old new result × IsUntouched old new)
    ⊎ ((p : Scenarios) × HasProblem old.files inputs p × AddsNames old new (names_to inputs None Changes) × Reports p nodes log old new result)

-- ---- check

-- the file of a log shows right answers to the problem of the files
pub record IsProof (files : Option Files) (inputs : Inputs) (log : List ℕ) : Type 0 where
  pub of : Scenarios
  pub posed : HasProblem files inputs of
  pub shown : Shows files log of

-- A `check` stopped at one of its texts, or it accepted the log.
abbrev pub Checks : Inputs → List ℕ → View → View → Status → Type 0
Checks inputs log old new result =
    (StopsAtInput inputs (Some log) old new result × IsUntouched old new)
    ⊎ (IsProof old.files inputs log × AddsNames old new (names_to inputs (Some log) Log) × (new.files ≡ old.files) × Prints status.Done accepted old new result)

-- ---- gen

-- right answers to the made problem were summed up, or before that memory was wanting
abbrev pub Sums : ℕ → ℕ → ℕ → ℕ → View → View → Status → Type 0
Sums seed columns rows scenarios old new result =
    ((p : Scenarios) × IsMade seed columns rows scenarios p × ((answers : List Answer) × (tree : List Node) × IsSolved p most_nodes answers tree × Prints (status_of answers) (summary_text p answers (seed ∷ columns ∷ rows ∷ scenarios ∷ [])) old new result))
    ⊎ (Lacks old new result × (new.printed ≡ old.printed))

-- a `gen` touches no file
pub record Generates (seed columns rows scenarios : ℕ) (old new : View) (result : Status) : Type 0 where
  pub sums : Sums seed columns rows scenarios old new result
  pub files : new.files ≡ old.files
  pub fetched : new.fetched ≡ old.fetched

-- ---- the program

-- the outcome where the words are no command
pub record RefusesWords (old new : View) (result : Status) : Type 0 where
  pub warned : Tells status.Usage usage old new result
  pub untouched : IsUntouched old new
  pub fetched : new.fetched ≡ old.fetched

-- the outcome of what was asked for
abbrev pub Follows : Option Order → View → View → Status → Type 0
Follows None old new result = RefusesWords old new result
Follows (Some (solve inputs options)) old new result = Solves inputs options.nodes options.log old new result
Follows (Some (check inputs log)) old new result = Checks inputs log old new result
Follows (Some (generate seed columns rows scenarios)) old new result = Generates seed columns rows scenarios old new result

-- the outcome of a run
abbrev pub Runs : List (List ℕ) → View → View → Status → Type 0
Runs words old new result = Follows (command_of words) old new result
