-- Room for points, as contracts see it.
use Rattle.std.specs.Prelude.{ℕ, ℤ, List, Option, None, replicate, slice_index_or}

-- room for a point with so many numbers, and the point where one is kept
pub record Kept : Type 0 where
  pub columns : ℕ
  pub point : Option (List ℤ)

abbrev pub empty_place : ℕ → Kept
empty_place columns = record { columns = columns; point = None }

-- no point is kept for any scenario
abbrev pub no_points : ℕ → ℕ → List Kept
no_points scenarios columns = replicate scenarios (empty_place columns)

-- the place of scenario s; past the end an empty one without columns
abbrev pub place_at : List Kept → ℕ → Kept
place_at places s = slice_index_or places s (record { columns = 0; point = None })
