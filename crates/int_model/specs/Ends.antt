-- The ends of a row, by its sense, its right-hand side and its range.
use Rattle.std.specs.Prelude.{ℕ, ◌≤◌, IfSome, ℤ, pos, negsuc, ◌+ℤ◌, ◌-ℤ◌, unsigned_abs, Bool, true, false, ◌&&◌, ◌||◌, Option, Some, None, is_none}
use Rattle.int_model.specs.Limits.{IsSide}
use Rattle.int_model.specs.declared.model.Row.{Row}
use Rattle.int_model.specs.declared.model.RowSense.{RowSense}
use Rattle.int_model.specs.declared.model.RowSense.TheVariants.{L, G, E}
use Rattle.int_model.specs.declared.model.Rhs.{Rhs}
use Rattle.int_model.specs.declared.model.Rhs.TheVariants.{Value, Inf, MinusInf}
use Rattle.int_model.specs.declared.model.Ends.{Ends}

-- the ends of a row of this sense with the right-hand side b and perhaps a range
abbrev pub ends_from : RowSense → ℤ → Option ℤ → Ends
ends_from L b None = record { lower = None; upper = Some b }
ends_from G b None = record { lower = Some b; upper = None }
ends_from E b None = record { lower = Some b; upper = Some b }
ends_from L b (Some r) = record { lower = Some (b -ℤ pos (unsigned_abs r)); upper = Some b }
ends_from G b (Some r) = record { lower = Some b; upper = Some (b +ℤ pos (unsigned_abs r)) }
ends_from E b (Some (pos r)) = record { lower = Some b; upper = Some (b +ℤ pos r) }
ends_from E b (Some (negsuc r)) = record { lower = Some (b +ℤ negsuc r); upper = Some b }

-- a row whose right-hand side is no number has no ends
abbrev pub ends_of : Row → Rhs → Ends
ends_of row (Value b) = ends_from row.sense b row.range
ends_of row Inf = record { lower = None; upper = None }
ends_of row MinusInf = record { lower = None; upper = None }

-- the infinite right-hand side on the side that has the row's end
abbrev pub removes : RowSense → Rhs → Bool
removes L Inf = true
removes G MinusInf = true
removes L MinusInf = false
removes G Inf = false
removes E Inf = false
removes E MinusInf = false
removes sense (Value b) = false

abbrev pub is_value : Rhs → Bool
is_value (Value b) = true
is_value Inf = false
is_value MinusInf = false

-- a right-hand side that the row can have: a number, or the removal of a row without a range
abbrev pub is_removable : Row → Rhs → Bool
is_removable row rhs = is_value rhs || (is_none row.range && removes row.sense rhs)

-- a right-hand side within the limits, where it is a number
abbrev pub RhsFits : Rhs → Type 0
RhsFits (Value b) = IsSide b
RhsFits Inf = Unit {0}
RhsFits MinusInf = Unit {0}

-- each end that exists is at most so much in absolute value
abbrev pub EndsWithin : ℕ → Ends → Type 0
EndsWithin most e = IfSome e.lower (λ w. unsigned_abs w ≤ most) × IfSome e.upper (λ u. unsigned_abs u ≤ most)
