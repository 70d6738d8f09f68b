-- The columns, as far as they have been read.
use Rattle.mps_reader.specs.MpsLines.{Line}
use Rattle.mps_reader.specs.ColumnBounds.{with_line}
use Rattle.mps_reader.specs.declared.columns.ColumnDraft.{ColumnDraft}

-- the column behind one more line of BOUNDS
abbrev pub with_bound : ColumnDraft → Line → ColumnDraft
with_bound column l = record column { bounds = with_line column.bounds l }
