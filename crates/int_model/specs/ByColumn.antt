-- The rows' terms by column.
use Rattle.std.specs.Prelude.{◌≡◌, ℕ, ◌+◌, ◌<◌, ◌==◌, ℤ, List, [], ◌∷◌, ◌++◌, length, map, slice_index_or, Option, Some, None, filter_map, if◌then◌else◌, Vec}
use Rattle.std.specs.declared.alloc.Global.{Global}
use Rattle.int_model.specs.Programs.{Terms}
use Rattle.int_model.specs.Models.{IntegerModel, KeepsLimits}
use Rattle.int_model.specs.declared.model.Row.{Row}

-- row i and the coefficient, where the term is one of column j
abbrev pub column_term : ℕ → ℕ → ℕ × ℤ → Option (ℕ × ℤ)
column_term j i t = if t.0 == j then Some (i, t.1) else None

-- what row i has of column j
abbrev pub column_part : ℕ → ℕ → Terms → Terms
column_part j i terms = filter_map (column_term j i) terms

-- the terms of column j in the rows, which are numbered from i on
abbrev pub column_terms : ℕ → ℕ → List Terms → Terms
column_terms j i [] = []
column_terms j i (row ∷ rows) = column_part j i row ++ column_terms j (i + 1) rows

-- a table of the terms of each column
pub record IsByColumn (columns : ℕ) (rows : List Terms) (table : List (Vec (ℕ × ℤ) Global)) : Type 0 where
  pub length : length table ≡ columns
  pub terms : (j : ℕ) (d : Vec (ℕ × ℤ) Global) → j < columns → (slice_index_or table j d).items ≡ column_terms j 0 rows

-- a model within the limits, with the terms of its columns
pub record IsModel (m : IntegerModel) (table : List (Vec (ℕ × ℤ) Global)) : Type 0 where
  pub limits : KeepsLimits m
  pub by_column : IsByColumn (length m.columns) (map (λ (i : Row). i.terms) m.rows) table
