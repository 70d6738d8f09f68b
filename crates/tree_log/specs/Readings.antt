-- What the reading of a text answers.
use Rattle.std.specs.Prelude.{◌≡◌, ℕ, suc, List, length, Result, Ok, Err}
use Rattle.tree_log.specs.Logs.{IsLogOf, IsMisspelledAt, HasNoEnd, whole_lines}
use Rattle.tree_log.specs.declared.file.LogFile.{LogFile}
use Rattle.tree_log.specs.declared.fault.LogError.{LogError}
use Rattle.tree_log.specs.declared.fault.LogError.TheVariants.{Line, Memory}
use Rattle.tree_log.specs.declared.fault.LogKind.TheVariants.{Spelling, NoEnd}

-- line n, counted from 1, is the first misspelled one
pub record IsSpelling (bytes : List ℕ) (line : ℕ) : Type 0 where
  pub place : ℕ
  pub counted : line ≡ suc place
  pub misspelled : IsMisspelledAt bytes place

-- the end is missing behind the last line
pub record IsNoEnd (bytes : List ℕ) (line : ℕ) : Type 0 where
  pub counted : line ≡ suc (length (whole_lines bytes))
  pub missing : HasNoEnd bytes

-- the log whose text the bytes are, or why they are none; want of memory may come at any time
abbrev pub IsReading : List ℕ → Result LogFile LogError → Type 0
IsReading bytes (Ok f) = IsLogOf f bytes
IsReading bytes (Err (Line line Spelling)) = IsSpelling bytes line
IsReading bytes (Err (Line line NoEnd)) = IsNoEnd bytes line
IsReading bytes (Err Memory) = Unit {0}

-- what is read of the text of a log: this log, where there is memory
abbrev pub IsReadAs : LogFile → Result LogFile LogError → Type 0
IsReadAs f (Ok g) = g ≡ f
IsReadAs f (Err (Line line kind)) = ⊥
IsReadAs f (Err Memory) = Unit {0}
