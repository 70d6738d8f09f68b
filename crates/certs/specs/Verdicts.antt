-- When a verdict is valid, and its level.
use Rattle.std.specs.Prelude.{ℕ, pos, ◌&&◌, int_lt, nat_lt, nat_eq, if◌then◌else◌, List, [], ◌∷◌, slice_get, map, Option, Some, None, option_and_then}
use Rattle.int_model.specs.Boxes.{Box, Interval, is_empty, is_single, meet}
use Rattle.int_model.specs.Programs.{Program, value}
use Rattle.int_model.specs.RowSums.{row_misses}
use Rattle.tighten.specs.Replay.{replay}
use Rattle.dual_bounds.specs.Vectors.{Multipliers, program_sum, program_bound, RowsBelow}
use Rattle.certs.specs.declared.level.Level.{Level}
use Rattle.certs.specs.declared.level.Level.TheVariants.{Value, Inf}
use Rattle.certs.specs.declared.verdict.Verdict.{Verdict}
use Rattle.certs.specs.declared.verdict.Verdict.TheVariants.{Empty, Misses, Farkas, Bound, Point}
use Rattle.certs.specs.declared.cert.Cert.{Cert}

-- ---- over a replay that isn't empty. None is a verdict that isn't valid there

-- row i is missed; past the end no row is
abbrev pub row_level : Program → ℕ → Box → Option Level
row_level p i box = if row_misses p i box then Some Inf else None

-- the vector has the scale 0 and a positive sum
abbrev pub farkas_level : Program → Box → Multipliers → Option Level
farkas_level p box v = if nat_eq v.scale 0 && int_lt (pos 0) (program_sum p v box) then Some Inf else None

-- the vector's scale is above 0
abbrev pub bound_level : Program → Box → Multipliers → Option Level
bound_level p box v = if nat_lt 0 v.scale then Some (Value (program_bound p v box)) else None

-- the box is one point
abbrev pub point_level : Program → Box → Option Level
point_level p box = if is_single box then Some (Value (value p (map (λ (i : Interval). i.low) box))) else None

abbrev pub level_over : Program → List Multipliers → Verdict → Box → Option Level
level_over p vectors Empty box = None
level_over p vectors (Misses i) box = row_level p i box
level_over p vectors (Farkas k) box = option_and_then (farkas_level p box) (slice_get vectors k)
level_over p vectors (Bound k) box = option_and_then (bound_level p box) (slice_get vectors k)
level_over p vectors Point box = point_level p box

-- ---- over any replay

-- over an empty replay this verdict alone is valid
abbrev pub empty_level : Verdict → Option Level
empty_level Empty = Some Inf
empty_level (Misses i) = None
empty_level (Farkas k) = None
empty_level (Bound k) = None
empty_level Point = None

abbrev pub level_on : Program → List Multipliers → Verdict → Option Box → Option Level
level_on p vectors verdict None = empty_level verdict
level_on p vectors verdict (Some box) = level_over p vectors verdict box

-- the level of a verdict at a box, None where it isn't valid there
abbrev pub judged : Program → Box → Cert → Verdict → Option Level
judged p box cert verdict = level_on p cert.vectors verdict (replay p cert.steps box)

-- ---- where a search begins

-- over a part of a box that isn't empty: the bound of the scale 1 without multipliers
abbrev pub plain_level : Program → Box → Level
plain_level p part = if is_empty part then Inf else Value (program_bound p (record { scale = 1; entries = [] }) part)

-- the same over the part of the root box that lies in the program's bounds
abbrev pub start_level : Box → Program → Level
start_level root p = plain_level p (meet root p.bounds)

-- ---- what may be judged

-- the vectors' rows lie below n
abbrev pub AllRowsBelow : ℕ → List Multipliers → Type 0
AllRowsBelow n [] = Unit {0}
AllRowsBelow n (v ∷ vectors) = RowsBelow n v.entries × AllRowsBelow n vectors
