-- The least sum of costs over a box.
use Rattle.std.specs.Prelude.{ℤ, pos, ◌+ℤ◌, List, [], ◌∷◌}
use Rattle.int_model.specs.Boxes.{Box}
use Rattle.int_model.specs.RowSums.{least_product}

-- the sum of each cost's least product with a number of its interval
abbrev pub least_cost : List ℤ → Box → ℤ
least_cost (c ∷ costs) (i ∷ box) = least_product c i +ℤ least_cost costs box
least_cost (c ∷ costs) [] = pos 0
least_cost [] box = pos 0
