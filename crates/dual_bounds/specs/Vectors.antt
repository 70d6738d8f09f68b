-- Safe dual bounds: a vector of whole-number multipliers of rows, its sum over a box, and its bound.
use Rattle.std.specs.Prelude.{◌≢◌, ℕ, suc, ◌+◌, ◌^◌, ◌≤◌, ◌<◌, ℤ, pos, ◌+ℤ◌, ◌-ℤ◌, ◌*ℤ◌, neg_ℤ, int_lt, unsigned_abs, if◌then◌else◌, is_some, List, [], ◌∷◌, length, map, slice_index_or, Option, None, filter, unwrap_or}
use Rattle.std.specs.Int.{int_max, int_min}
use Rattle.int_model.specs.Integers.{int_sum_by, ceil_div}
use Rattle.int_model.specs.Boxes.{Box}
use Rattle.int_model.specs.Programs.{Program, Terms}
use Rattle.int_model.specs.RowSums.{coefficient, least_product}
use Rattle.int_model.specs.Models.{IntegerModel}
use Rattle.int_model.specs.declared.model.Ends.{Ends}
use Rattle.int_model.specs.declared.model.Row.{Row}

-- a row and its multiplier
abbrev pub Entry : Type 0
Entry = ℕ × ℤ

-- multipliers of rows, over a common scale
pub record Multipliers : Type 0 where
  pub scale : ℕ
  pub entries : List Entry

-- the end that a multiplier is held against: the lower one for a multiplier above 0, else the upper one
abbrev pub end_for : ℤ → Ends → Option ℤ
end_for y e = if int_lt (pos 0) y then e.lower else e.upper

-- the same of the entry's row; past the end a row has no ends
abbrev pub side : List Ends → Entry → Option ℤ
side ends e = end_for e.1 (slice_index_or ends e.0 (record { lower = None; upper = None }))

-- the entries that count: their row has that end
abbrev pub counted : List Ends → List Entry → List Entry
counted ends entries = filter (λ e. is_some (side ends e)) entries

-- the multipliers times the ends
abbrev pub end_sum : List Ends → List Entry → ℤ
end_sum ends entries = int_sum_by (λ e. e.1 *ℤ unwrap_or (side ends e) (pos 0)) entries

-- the multipliers times the coefficients of a column; past the end a row has no terms
abbrev pub share : List Terms → List Entry → ℕ → ℤ
share rows entries j = int_sum_by (λ e. e.1 *ℤ coefficient j (slice_index_or rows e.0 [])) entries

-- the cost of a column, times the scale, less its share of the rows
abbrev pub reduced_cost : List Terms → ℕ → List Entry → ℕ → ℤ → ℤ
reduced_cost rows scale entries j cost = pos scale *ℤ cost -ℤ share rows entries j

-- over the columns from j on, the least of the reduced cost times a number of the interval
abbrev pub least_reduced : List Terms → ℕ → List Entry → ℕ → List ℤ → Box → ℤ
least_reduced rows scale entries j (cost ∷ costs) (i ∷ box) =
    least_product (reduced_cost rows scale entries j cost) i +ℤ least_reduced rows scale entries (suc j) costs box
least_reduced rows scale entries j (cost ∷ costs) [] = pos 0
least_reduced rows scale entries j [] box = pos 0

-- The sum of a vector over a box. An entry that doesn't count is left out of both parts.
abbrev pub vector_sum : List Terms → List Ends → List ℤ → Multipliers → Box → ℤ
vector_sum rows ends costs v box =
    end_sum ends (counted ends v.entries) +ℤ least_reduced rows v.scale (counted ends v.entries) 0 costs box

-- the nearest number from -2^60 up to 2^60
abbrev pub within_range : ℤ → ℤ
within_range z = int_max (neg_ℤ (pos (2 ^ 60))) (int_min (pos (2 ^ 60)) z)

-- The bound of a vector whose scale is above 0: the sum over the scale, rounded up, and the constant.
abbrev pub vector_bound : List Terms → List Ends → List ℤ → ℤ → Multipliers → Box → ℤ
vector_bound rows ends costs constant v box =
    within_range (ceil_div (vector_sum rows ends costs v box) (pos v.scale) +ℤ constant)

-- the same for an integer program
abbrev pub program_sum : Program → Multipliers → Box → ℤ
program_sum p v box = vector_sum p.rows p.ends p.costs v box

abbrev pub program_bound : Program → Multipliers → Box → ℤ
program_bound p v box = vector_bound p.rows p.ends p.costs p.constant v box

-- the terms of a model's rows
abbrev pub rows_of : IntegerModel → List Terms
rows_of m = map (λ (i : Row). i.terms) m.rows

-- ---- limits

-- rows that rise, from a least one on, with multipliers within the limit that aren't 0
abbrev pub AreEntries : ℕ → List Entry → Type 0
AreEntries least [] = Unit {0}
AreEntries least (e ∷ entries) = (least ≤ e.0) × (unsigned_abs e.1 ≤ 2 ^ 40) × (e.1 ≢ pos 0) × AreEntries (e.0 + 1) entries

pub record KeepsLimits (v : Multipliers) : Type 0 where
  pub scale : v.scale ≤ 2 ^ 20
  pub few : length v.entries ≤ 128
  pub entries : AreEntries 0 v.entries

-- the rows lie below n
abbrev pub RowsBelow : ℕ → List Entry → Type 0
RowsBelow n [] = Unit {0}
RowsBelow n (e ∷ entries) = (e.0 < n) × RowsBelow n entries
