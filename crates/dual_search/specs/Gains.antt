-- How a scenario's sum changes with the multiplier of one row.
use Rattle.std.specs.Prelude.{◌≡◌, ℕ, suc, ◌^◌, ◌<◌, ◌≤◌, ℤ, pos, ◌+ℤ◌, ◌-ℤ◌, ◌*ℤ◌, unsigned_abs, if◌then◌else◌, List, [], ◌∷◌, length, unwrap_or}
use Rattle.int_model.specs.Integers.{int_sum_by, int_at, int_eq}
use Rattle.int_model.specs.Boxes.{Box, interval_at}
use Rattle.int_model.specs.Programs.{Program, Terms}
use Rattle.int_model.specs.RowSums.{least_product}
use Rattle.int_model.specs.declared.model.Ends.{Ends}
use Rattle.dual_bounds.specs.Vectors.{Entry, Multipliers, side, counted, reduced_cost}
use Rattle.dual_bounds.specs.Counting.{counting}

-- the entries of multipliers of all rows, which are numbered from i on
abbrev pub entries_of : ℕ → List ℤ → List Entry
entries_of i [] = []
entries_of i (y ∷ ys) = if int_eq y (pos 0) then entries_of (suc i) ys else (i, y) ∷ entries_of (suc i) ys

-- the vector of multipliers of all rows
abbrev pub vector_of : ℕ → List ℤ → Multipliers
vector_of scale ys = record { scale = scale; entries = entries_of 0 ys }

-- how many entries a multiplier makes
abbrev pub entry_count : ℤ → ℕ
entry_count y = if int_eq y (pos 0) then 0 else 1

-- a program's reduced costs at these multipliers
pub record AreReduced (p : Program) (scale : ℕ) (ys : List ℤ) (reduced : List ℤ) : Type 0 where
  pub count : length reduced ≡ length p.costs
  pub values : (j : ℕ) → j < length p.costs → int_at reduced j ≡ reduced_cost p.rows scale (counted p.ends (entries_of 0 ys)) j (int_at p.costs j)

-- within a limit that keeps each product in 128 bits
abbrev pub AreSmall : List ℤ → Type 0
AreSmall reduced = (j : ℕ) → unsigned_abs (int_at reduced j) ≤ 2 ^ 80

-- a multiplier times its end, 0 where the row hasn't got the end
abbrev pub end_product : List Ends → Entry → ℤ
end_product ends e = e.1 *ℤ unwrap_or (side ends e) (pos 0)

-- by how much a column's least product grows, where the row's multiplier that counts grows by a step
abbrev pub column_gain : ℤ → List ℤ → Box → ℕ × ℤ → ℤ
column_gain step reduced box t =
    least_product (int_at reduced t.0 -ℤ step *ℤ t.1) (interval_at box t.0) -ℤ least_product (int_at reduced t.0) (interval_at box t.0)

-- by how much the sum grows, where the multiplier of row i becomes another
abbrev pub gain : Terms → List Ends → List ℤ → Box → ℕ → ℤ → ℤ → ℤ
gain terms ends reduced box i from to =
    (end_product ends (i, to) -ℤ end_product ends (i, from)) +ℤ int_sum_by (column_gain (counting ends (i, to) -ℤ counting ends (i, from)) reduced box) terms
