-- Faults of lines.
use Rattle.std.specs.Prelude.{ℕ}
use Rattle.changes_reader.specs.declared.ChangesError.{ChangesError}
use Rattle.changes_reader.specs.declared.ChangesError.TheVariants as text
use Rattle.scenario_changes.specs.declared.error.ChangeError.{ChangeError}
use Rattle.scenario_changes.specs.declared.error.ChangeError.TheVariants.{NoScenario, TooMany, UnknownColumn, UnknownRow, Magnitude, BadRemoval, BadName}
use Rattle.scenario_changes.specs.declared.error.ChangeError.TheVariants as setting
use Rattle.changes_reader.specs.declared.ChangesKind.TheVariants as kind
use Rattle.changes_reader.specs.declared.fault.Fault.{Fault}
use Rattle.changes_reader.specs.declared.fault.Fault.TheVariants.{Refused, Memory}

-- the fault of a line whose setting was refused; a field that can't be a name is too long for one
abbrev pub fault_of : ChangeError → Fault
fault_of NoScenario = Refused kind.NoScenario
fault_of TooMany = Refused kind.TooMany
fault_of UnknownColumn = Refused kind.UnknownColumn
fault_of UnknownRow = Refused kind.UnknownRow
fault_of Magnitude = Refused kind.Magnitude
fault_of BadRemoval = Refused kind.BadRemoval
fault_of BadName = Refused kind.LongName
fault_of setting.Memory = Memory

-- the error of a text whose line has a fault
abbrev pub error_at : ℕ → Fault → ChangesError
error_at line (Refused k) = text.Line line k
error_at line Memory = text.Memory
