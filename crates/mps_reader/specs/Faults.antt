-- Why a line can't be taken, beside the kind of its refusal.
use Rattle.std.specs.Prelude.{◌≡◌, Option, Some}
use Rattle.mps_reader.specs.declared.MpsKind.{MpsKind}
use Rattle.mps_reader.specs.declared.fault.Fault.{Fault}
use Rattle.mps_reader.specs.declared.fault.Fault.TheVariants.{Refused, Memory}

-- a refusal is of the kind that there is; want of memory may come at any time
abbrev pub IsFault : Fault → Option MpsKind → Type 0
IsFault (Refused kind) o = o ≡ Some kind
IsFault Memory o = Unit {0}
