-- Which bytes are a log, and where bytes that are none first differ from every log.
use Rattle.std.specs.Prelude.{◌≡◌, ℕ, suc, ◌<◌, List, [], ◌∷◌, length, take, IsTrue}
use Rattle.std.specs.List.{slice_split}
use Rattle.num_text.specs.Lines.{is_line_feed}
use Rattle.scenario_changes.specs.Problems.{Scenarios}
use Rattle.scenario_changes.specs.declared.answer.Answer.{Answer}
use Rattle.certs.specs.declared.tree.Node.{Node}
use Rattle.tree_log.specs.HasText.{has_text}
use Rattle.tree_log.specs.LogText.{log_text}
use Rattle.tree_log.specs.declared.file.LogFile.{LogFile}

-- the bytes are the text of this log file
pub record IsLogOf (f : LogFile) (bytes : List ℕ) : Type 0 where
  pub fits : IsTrue (has_text f)
  pub text : bytes ≡ log_text f

-- the lists but the last
abbrev pub all_but_last : List (List ℕ) → List (List ℕ)
all_but_last [] = []
all_but_last (l ∷ []) = []
all_but_last (l ∷ k ∷ more) = l ∷ all_but_last (k ∷ more)

-- the lines that end with a line feed; bytes after the last line feed are no line
abbrev pub whole_lines : List ℕ → List (List ℕ)
whole_lines bytes = all_but_last (slice_split is_line_feed bytes)

-- some log text begins with these lines
pub record BeginsLog (lines : List (List ℕ)) : Type 0 where
  pub whole : LogFile
  pub fits : IsTrue (has_text whole)
  pub front : take (length lines) (whole_lines (log_text whole)) ≡ lines

-- line n, counted from 0, is the first that no log text has after the lines before it
pub record IsMisspelledAt (bytes : List ℕ) (n : ℕ) : Type 0 where
  pub there : n < length (whole_lines bytes)
  pub before : BeginsLog (take n (whole_lines bytes))
  pub here : BeginsLog (take (suc n) (whole_lines bytes)) → ⊥

-- whole lines that begin a log text, in bytes that are none
pub record HasNoEnd (bytes : List ℕ) : Type 0 where
  pub begun : BeginsLog (whole_lines bytes)
  pub open_end : (f : LogFile) → IsLogOf f bytes → ⊥

-- the log file of the answers to a problem and a tree
abbrev pub file_of : Scenarios → List Answer → List Node → LogFile
file_of p answers nodes = record { columns = length p.model.columns; rows = length p.model.rows; answers = answers; tree = nodes }
