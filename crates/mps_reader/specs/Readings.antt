-- How far a text has been read.
use Rattle.std.specs.Prelude.{◌≡◌, ◌+◌, ℕ, List, length, filter}
use Rattle.std.specs.List.{enumerate_from}
use Rattle.num_text.specs.Lines.{lines_of}
use Rattle.mps_reader.specs.MpsLines.{Line, is_read, under_headers}
use Rattle.mps_reader.specs.MpsModels.{model_from, model_of}
use Rattle.mps_reader.specs.Drafts.{Agrees, section_behind}
use Rattle.mps_reader.specs.declared.draft.Draft.{Draft}

-- the lines that are read of these, counted from number, behind lines with this last header
abbrev pub lines_behind : List ℕ → ℕ → List (List ℕ) → List Line
lines_behind section number rest = under_headers section (filter (λ (l : ℕ × List ℕ). is_read l.1) (enumerate_from number rest))

-- a draft agrees with the lines that were read, and what the text makes is what the rest makes behind them
pub record IsReading (d : Draft) (number : ℕ) (rest : List (List ℕ)) (bytes : List ℕ) : Type 0 where
  pub counted : number + length rest ≡ length (lines_of bytes)
  pub earlier : List Line
  pub agrees : Agrees d earlier
  pub same : model_of bytes ≡ model_from (length (lines_of bytes) + 1) earlier (lines_behind (section_behind earlier) (number + 1) rest)
