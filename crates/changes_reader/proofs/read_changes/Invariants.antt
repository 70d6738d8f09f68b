use Rattle.std.proofs.Common.{◌≡◌, ◌≤◌, ◌+◌, length}
use Rattle.scenario_changes.specs.Changes.{Fits}
use Rattle.changes_reader.specs.ChangesText.{changes_of, read_from}
use Rattle.changes_reader.proofs.Runs.{run}
use Rattle.changes_reader.proofs.FieldLemmas.{AllLack}
use Rattle.num_text.specs.Lines.{is_line_feed}
use Rattle.changes_reader.proofs.read_changes.Given as goal

abbrev pub invariant-loop-line : goal.invariant-loop-line
invariant-loop-line l = record {
  few : l.number + length l.line-iterator ≤ 16777216;
  whole_lines : AllLack is_line_feed l.line-iterator;
  fits : Fits l.changes l.model;
  rest : changes_of l.model l.bytes ≡ run l.model l.is_first l.changes (read_from (l.number + 1) l.line-iterator);
}
