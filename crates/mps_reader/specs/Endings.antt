-- What is answered for a text.
use Rattle.std.specs.Prelude.{◌≡◌, ℕ, Some, Result, Ok, Err, Option}
use Rattle.mps_reader.specs.Faults.{IsFault}
use Rattle.mps_reader.specs.declared.fault.Fault.{Fault}
use Rattle.mps_reader.specs.declared.fault.Fault.TheVariants as fault
use Rattle.mps_reader.specs.declared.MpsKind.{MpsKind}
use Rattle.mps_reader.specs.declared.MpsError.{MpsError}
use Rattle.mps_reader.specs.declared.MpsError.TheVariants as refused
use Rattle.int_model.specs.Models.{IntegerModel}

-- a refusal is answered by its line and kind; want of memory may come at any time
abbrev pub IsRefusedWith : ℕ × MpsKind → Result IntegerModel MpsError → Type 0
IsRefusedWith refusal (Ok m) = ⊥
IsRefusedWith refusal (Err (refused.Line line kind)) = (line ≡ refusal.0) × (kind ≡ refusal.1)
IsRefusedWith refusal (Err refused.Memory) = Unit {0}

abbrev pub IsEndedWith : MpsKind → Result IntegerModel Fault → Type 0
IsEndedWith kind (Ok m) = ⊥
IsEndedWith kind (Err f) = IsFault f (Some kind)

-- the error is this refusal's; want of memory may come at any time
abbrev pub IsErrorOf : Result IntegerModel (ℕ × MpsKind) → MpsError → Type 0
IsErrorOf model (refused.Line line kind) = model ≡ Err (line, kind)
IsErrorOf model refused.Memory = Unit {0}

-- the error is of the kind that there is at this line
abbrev pub IsErrorAt : ℕ → Option MpsKind → MpsError → Type 0
IsErrorAt number o (refused.Line line kind) = (line ≡ number) × (o ≡ Some kind)
IsErrorAt number o refused.Memory = Unit {0}

-- the error of the whole text
abbrev pub error_at : ℕ → Fault → MpsError
error_at line (fault.Refused kind) = refused.Line line kind
error_at line fault.Memory = refused.Memory
