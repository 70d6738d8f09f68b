-- What the program says on standard error.
use Rattle.std.specs.Prelude.{ℕ, List, ◌++◌, codes, decimal, Option, Some, None}
use Rattle.changes_reader.specs.declared.ChangesKind.{ChangesKind}
use Rattle.changes_reader.specs.declared.ChangesKind.TheVariants as changes
use Rattle.mps_reader.specs.declared.MpsKind.{MpsKind}
use Rattle.mps_reader.specs.declared.MpsKind.TheVariants as model
use Rattle.tree_log.specs.declared.fault.LogKind.{LogKind}
use Rattle.tree_log.specs.declared.fault.LogKind.TheVariants as log
use Rattle.tree_check.specs.declared.checking.CheckError.{CheckError}
use Rattle.tree_check.specs.declared.checking.CheckError.TheVariants as check
use Rattle.scenopt.specs.declared.input.Input.{Input}
use Rattle.scenopt.specs.declared.input.Input.TheVariants.{Model, Changes, Log}

-- the usage text
abbrev pub usage : List ℕ
usage = codes "usage: scenopt solve MODEL CHANGES [--workers N] [--nodes K] [--log FILE]\n       scenopt check MODEL CHANGES LOG\n       scenopt gen SEED COLUMNS ROWS SCENARIOS\n"

abbrev pub out_of_memory : List ℕ
out_of_memory = codes "out of memory\n"

-- the report could not be printed
abbrev pub unwritable : List ℕ
unwritable = codes "cannot write output\n"

-- the log could not be written
abbrev pub unwritable_log : List ℕ
unwritable_log = codes "cannot write log\n"

-- what is printed where a log is accepted
abbrev pub accepted : List ℕ
accepted = codes "accepted\n"

-- a file could not be read
abbrev pub unreadable : Input → List ℕ
unreadable Model = codes "cannot read model\n"
unreadable Changes = codes "cannot read changes\n"
unreadable Log = codes "cannot read log\n"

-- a file is longer than the limit
abbrev pub too_long : Input → List ℕ
too_long Model = codes "model: too long\n"
too_long Changes = codes "changes: too long\n"
too_long Log = codes "log: too long\n"

-- the name of a kind
abbrev pub model_kind : MpsKind → List ℕ
model_kind model.Section = codes "Section"
model_kind model.NoEnd = codes "NoEnd"
model_kind model.Fields = codes "Fields"
model_kind model.UnknownRow = codes "UnknownRow"
model_kind model.UnknownColumn = codes "UnknownColumn"
model_kind model.Duplicate = codes "Duplicate"
model_kind model.LongName = codes "LongName"
model_kind model.Continuous = codes "Continuous"
model_kind model.Number = codes "Number"
model_kind model.Fraction = codes "Fraction"
model_kind model.Magnitude = codes "Magnitude"
model_kind model.SecondSet = codes "SecondSet"
model_kind model.TooMany = codes "TooMany"
model_kind model.Unbounded = codes "Unbounded"
model_kind model.NegativeUpper = codes "NegativeUpper"

abbrev pub changes_kind : ChangesKind → List ℕ
changes_kind changes.Header = codes "Header"
changes_kind changes.Word = codes "Word"
changes_kind changes.Fields = codes "Fields"
changes_kind changes.TooMany = codes "TooMany"
changes_kind changes.NoScenario = codes "NoScenario"
changes_kind changes.UnknownColumn = codes "UnknownColumn"
changes_kind changes.UnknownRow = codes "UnknownRow"
changes_kind changes.LongName = codes "LongName"
changes_kind changes.Number = codes "Number"
changes_kind changes.Fraction = codes "Fraction"
changes_kind changes.Magnitude = codes "Magnitude"
changes_kind changes.BadRemoval = codes "BadRemoval"

-- a text that is refused at a line, by the name of its kind
unfoldable pub line_text : List ℕ → ℕ → List ℕ → List ℕ
line_text text line kind = text ++ codes " line " ++ decimal line ++ codes ": " ++ kind ++ codes "\n"

abbrev pub model_line : ℕ → MpsKind → List ℕ
model_line line kind = line_text (codes "model") line (model_kind kind)

abbrev pub changes_line : ℕ → ChangesKind → List ℕ
changes_line line kind = line_text (codes "changes") line (changes_kind kind)

abbrev pub log_kind : LogKind → List ℕ
log_kind log.Spelling = codes "Spelling"
log_kind log.NoEnd = codes "NoEnd"

abbrev pub log_line : ℕ → LogKind → List ℕ
log_line line kind = line_text (codes "log") line (log_kind kind)

-- what is wrong with a log of the problem, and where
unfoldable pub check_text : CheckError → Option (List ℕ)
check_text (check.Shape node) = Some (codes "log node " ++ decimal node ++ codes ": Shape\n")
check_text (check.Level node scenario) = Some (codes "log node " ++ decimal node ++ codes " scenario " ++ decimal scenario ++ codes ": Level\n")
check_text (check.PointWrong scenario) = Some (codes "log scenario " ++ decimal scenario ++ codes ": PointWrong\n")
check_text (check.ClaimWrong scenario) = Some (codes "log scenario " ++ decimal scenario ++ codes ": ClaimWrong\n")
check_text check.Memory = None
