-- The sum of a row that one of its ends is compared with.
use Rattle.std.specs.Prelude.{◌≡◌, ℤ, List, [], slice_index_or, Option, Some, None}
use Rattle.int_model.specs.Boxes.{Box, Interval}
use Rattle.int_model.specs.Programs.{Terms}
use Rattle.int_model.specs.RowSums.{least_product, greatest_product, least_sum, greatest_sum}
use Rattle.int_model.specs.declared.model.Ends.{Ends}
use Rattle.tighten.specs.declared.step.RowEnd.{RowEnd}
use Rattle.tighten.specs.declared.step.RowEnd.TheVariants.{Lower, Upper}
use Rattle.tighten.specs.declared.step.Step.{Step}
use Rattle.tighten.specs.declared.tightening.KeptSum.{KeptSum}
use Rattle.tighten.specs.Cuts.{below_end, above_end}
use Rattle.tighten.specs.Replay.{tightened}

-- the least sum for the upper end, the greatest for the lower end
abbrev pub end_sum : Terms → RowEnd → Box → ℤ
end_sum terms Lower box = greatest_sum terms box
end_sum terms Upper box = least_sum terms box

-- the part of it that a term with coefficient a and interval i has
abbrev pub end_product : RowEnd → ℤ → Interval → ℤ
end_product Lower a i = greatest_product a i
end_product Upper a i = least_product a i

-- what an end leaves of the interval of a column with coefficient a, by that sum
abbrev pub end_left : Ends → RowEnd → ℤ → ℤ → Interval → Interval
end_left e Lower sum a i = above_end e.lower sum a i
end_left e Upper sum a i = below_end e.upper sum a i

-- the number is that sum for an end and its row over the box. Past the last row a row has no terms
abbrev pub IsKeptSum : List Terms → Box → KeptSum → Type 0
IsKeptSum rows box kept = kept.sum ≡ end_sum (slice_index_or rows kept.row []) kept.side box

-- the sum for the step's end over the box after the step. None: the step empties an interval, and the box is as before
abbrev pub IsAppliedBy : List Terms → List Ends → Step → Box → Option ℤ → Box → Type 0
IsAppliedBy rows ends step before (Some sum) now =
    (tightened rows ends step before ≡ Some now) × (sum ≡ end_sum (slice_index_or rows step.row []) step.side now)
IsAppliedBy rows ends step before None now = (tightened rows ends step before ≡ None) × (now ≡ before)
