use Rattle.changes_reader.specs.Names.{row_names}
use Rattle.changes_reader.specs.Tables.{AreNumbersFrom}
use Rattle.changes_reader.proofs.tables.row_numbers.Given as goal

abbrev pub invariant-loop-i : goal.invariant-loop-i
invariant-loop-i l = AreNumbersFrom l.i (row_names l.model) l.numbers.entries
