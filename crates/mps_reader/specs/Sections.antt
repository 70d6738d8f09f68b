-- The words of the sections.
use Rattle.std.specs.Prelude.{ℕ, List, map, codes}
use Rattle.mps_reader.specs.declared.header.Section.{Section}
use Rattle.mps_reader.specs.declared.header.Section.TheVariants.{Name, ObjSense, Rows, Columns, Rhs, Ranges, Bounds, EndData}

abbrev pub word_of : Section → List ℕ
word_of Name = codes "NAME"
word_of ObjSense = codes "OBJSENSE"
word_of Rows = codes "ROWS"
word_of Columns = codes "COLUMNS"
word_of Rhs = codes "RHS"
word_of Ranges = codes "RANGES"
word_of Bounds = codes "BOUNDS"
word_of EndData = codes "ENDATA"

abbrev pub words_of : List Section → List (List ℕ)
words_of sections = map word_of sections
