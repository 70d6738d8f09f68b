-- The line that fields make.
use Rattle.std.specs.Prelude.{◌≡◌, ℕ, true, false, List}
use Rattle.mps_reader.specs.MpsLines.{Line, field}

-- a header with these fields
pub record IsHeaderWith (l : Line) (words : List (List ℕ)) : Type 0 where
  pub header : l.header ≡ true
  pub section : l.section ≡ field 0 l
  pub fields : l.fields ≡ words

-- a data line of the section with these fields
pub record IsDataWith (name : List ℕ) (l : Line) (words : List (List ℕ)) : Type 0 where
  pub header : l.header ≡ false
  pub section : l.section ≡ name
  pub fields : l.fields ≡ words
