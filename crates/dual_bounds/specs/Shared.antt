-- A vector's shares of the columns, which don't depend on a scenario whose rows have all ends that the vector asks for.
use Rattle.std.specs.Prelude.{◌≡◌, ℕ, suc, ◌<◌, ℤ, pos, ◌+ℤ◌, ◌-ℤ◌, ◌*ℤ◌, Bool, is_some, List, [], ◌∷◌, length, slice_index_or, Option, Some}
use Rattle.std.specs.List.{list_all}
use Rattle.int_model.specs.Boxes.{Box}
use Rattle.int_model.specs.Models.{IntegerModel}
use Rattle.int_model.specs.RowSums.{least_product}
use Rattle.int_model.specs.declared.model.Ends.{Ends}
use Rattle.dual_bounds.specs.Vectors.{Entry, rows_of, share, side}

-- where there are numbers, they are the shares of the model's columns, each entry counted
abbrev pub AreShares : IntegerModel → List Entry → Option (List ℤ) → Type 0
AreShares m entries shares =
    (numbers : List ℤ) → shares ≡ Some numbers → (j : ℕ) → j < length m.columns → slice_index_or numbers j (pos 0) ≡ share (rows_of m) entries j

-- each entry's row has the end that the multiplier is held against
abbrev pub have_ends : List Ends → List Entry → Bool
have_ends ends entries = list_all (λ e. is_some (side ends e)) entries

-- over the columns from j on, the least of the cost times the scale, less the share, times a number of the interval
abbrev pub least_shared : ℕ → List ℤ → ℕ → List ℤ → Box → ℤ
least_shared scale shares j (cost ∷ costs) (i ∷ box) =
    least_product (pos scale *ℤ cost -ℤ slice_index_or shares j (pos 0)) i +ℤ least_shared scale shares (suc j) costs box
least_shared scale shares j (cost ∷ costs) [] = pos 0
least_shared scale shares j [] box = pos 0
