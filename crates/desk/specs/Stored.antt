-- The parts of the desks in memory as values.
use Rattle.std.specs.Prelude.{ℕ, List, map, string_bytes}
use Rattle.std.specs.FinMap as finite
use Rattle.std.specs.Ordering.{nat_cmp}
use Rattle.desk.specs.Desk.{Files}
use Rattle.desk.specs.declared.files.StoredFile.{StoredFile}
use Rattle.desk.specs.declared.memory.Failure.{Failure}

abbrev pub file_entry : StoredFile → List ℕ × List ℕ
file_entry f = (string_bytes f.name, f.bytes.items)

-- The first entry of a name counts.
abbrev pub files_of : List StoredFile → Files
files_of files = finite.from_entries (map file_entry files)

abbrev pub failure_entry : Failure → ℕ × ℕ
failure_entry f = (f.call, f.kept)

-- from the number of a call to the bytes that it keeps; the first entry of a call counts
abbrev pub failing_of : List Failure → finite.FinMap nat_cmp ℕ
failing_of failing = finite.from_entries (map failure_entry failing)
