-- Tightening of boxes by rows, one step after another.
use Rattle.std.specs.Prelude.{ℕ, zero, suc, ℤ, pos, negsuc, ◌-ℤ◌, neg_ℤ, int_lt, if◌then◌else◌, List, [], ◌∷◌, slice_index_or, slice_set, Option, Some, None, option_and_then}
use Rattle.std.specs.Int.{int_div_euclid}
use Rattle.int_model.specs.Boxes.{Box, Interval, interval_at, at_most, at_least, is_empty, meet}
use Rattle.int_model.specs.Programs.{Program, Terms}
use Rattle.int_model.specs.RowSums.{coefficient, without, least_sum, greatest_sum}
use Rattle.int_model.specs.declared.model.Ends.{Ends}
use Rattle.tighten.specs.declared.step.Step.{Step}
use Rattle.tighten.specs.declared.step.RowEnd.{RowEnd}
use Rattle.tighten.specs.declared.step.RowEnd.TheVariants.{Lower, Upper}

-- the part of an interval with a * x ≤ c. The quotient is rounded down for a above 0 and up for a below 0
abbrev pub narrowed : ℤ → ℤ → Interval → Interval
narrowed (pos zero) c i = i
narrowed (pos (suc n)) c i = at_most i (int_div_euclid c (pos (suc n)))
narrowed (negsuc n) c i = at_least i (int_div_euclid c (negsuc n))

-- what a row's end leaves of the interval of column j, where the other terms are within the box
abbrev pub by_upper : Terms → Option ℤ → ℕ → Box → Interval
by_upper terms None j box = interval_at box j
by_upper terms (Some u) j box = narrowed (coefficient j terms) (u -ℤ least_sum (without j terms) box) (interval_at box j)

abbrev pub by_lower : Terms → Option ℤ → ℕ → Box → Interval
by_lower terms None j box = interval_at box j
by_lower terms (Some w) j box =
    narrowed (neg_ℤ (coefficient j terms)) (greatest_sum (without j terms) box -ℤ w) (interval_at box j)

abbrev pub left_by : Terms → Ends → RowEnd → ℕ → Box → Interval
left_by terms e Lower j box = by_lower terms e.lower j box
left_by terms e Upper j box = by_upper terms e.upper j box

-- what a step leaves of the interval of its column. Past the end a row has no terms, and no ends
abbrev pub left_of : List Terms → List Ends → Step → Box → Interval
left_of rows ends step box =
    left_by (slice_index_or rows step.row []) (slice_index_or ends step.row (record { lower = None; upper = None })) step.side step.column box

-- the box with this interval at a column, None where the interval is empty
abbrev pub with_interval : Box → ℕ → Interval → Option Box
with_interval box j i = if int_lt i.high i.low then None else Some (slice_set box j i)

-- the box after a step of these rows and ends, None where the interval is empty then
abbrev pub tightened : List Terms → List Ends → Step → Box → Option Box
tightened rows ends step box = with_interval box step.column (left_of rows ends step box)

-- the box after the steps, None once an interval is empty
abbrev pub tightened_by : List Terms → List Ends → List Step → Box → Option Box
tightened_by rows ends [] box = Some box
tightened_by rows ends (step ∷ steps) box = option_and_then (tightened_by rows ends steps) (tightened rows ends step box)

-- the same, None also where the box is empty before the first step
abbrev pub replayed : List Terms → List Ends → List Step → Box → Option Box
replayed rows ends steps box = if is_empty box then None else tightened_by rows ends steps box

-- the steps on the part of the box that lies in the program's bounds
abbrev pub replay : Program → List Step → Box → Option Box
replay p steps box = replayed p.rows p.ends steps (meet box p.bounds)
