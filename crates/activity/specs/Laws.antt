-- What is proved of the sums of rows over boxes.
use Rattle.std.specs.Prelude.{◌≡◌, ℤ, false, List, length}
use Rattle.int_model.specs.Boxes.{Box, InBox, is_empty}
use Rattle.int_model.specs.Programs.{Terms, AreTerms, row_sum}
use Rattle.int_model.specs.RowSums.{least_sum, greatest_sum}
use Rattle.int_model.specs.Laws.{Bounds}

-- some point of the box has this sum
abbrev pub IsAttained : Terms → Box → ℤ → Type 0
IsAttained terms box z = (x : List ℤ) × InBox box x × (row_sum terms x ≡ z)

-- the least and the greatest sum are those of points of the box, and no point lies beyond them
pub record AreExtremes (terms : Terms) (box : Box) : Type 0 where
  pub least : IsAttained terms box (least_sum terms box)
  pub greatest : IsAttained terms box (greatest_sum terms box)
  pub bounds : (x : List ℤ) → InBox box x → Bounds terms box x

abbrev pub SumsAreExtremes : Type 0
SumsAreExtremes = (terms : Terms) (box : Box) → AreTerms 0 (length box) terms → is_empty box ≡ false → AreExtremes terms box
