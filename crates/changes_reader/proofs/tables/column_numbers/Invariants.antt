use Rattle.changes_reader.specs.Names.{column_names}
use Rattle.changes_reader.specs.Tables.{AreNumbersFrom}
use Rattle.changes_reader.proofs.tables.column_numbers.Given as goal

abbrev pub invariant-loop-j : goal.invariant-loop-j
invariant-loop-j l = AreNumbersFrom l.j (column_names l.model) l.numbers.entries
