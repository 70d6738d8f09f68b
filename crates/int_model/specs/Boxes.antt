-- Boxes of points: an interval of whole numbers for each column.
use Rattle.std.specs.Prelude.{ℕ, ◌≤◌, ◌*◌, ℤ, pos, negsuc, unsigned_abs, ◌+ℤ◌, ◌-ℤ◌, ◌≤ℤ◌, Bool, true, false, ◌&&◌, ◌||◌, int_lt, int_le, List, [], ◌∷◌, slice_index_or, slice_set}
use Rattle.std.specs.Int.{int_max, int_min}
use Rattle.int_model.specs.Integers.{int_eq}

-- the numbers from low up to high
pub record Interval : Type 0 where
  pub low : ℤ
  pub high : ℤ

-- an interval for each column
abbrev pub Box : Type 0
Box = List Interval

-- the box with these lows and these highs
abbrev pub box_of : List ℤ → List ℤ → Box
box_of (l ∷ lows) (h ∷ highs) = record { low = l; high = h } ∷ box_of lows highs
box_of (l ∷ lows) [] = []
box_of [] highs = []

-- x lies in the box: one number for each column, each in its interval
abbrev pub InBox : Box → List ℤ → Type 0
InBox [] [] = Unit {0}
InBox [] (x ∷ xs) = ⊥
InBox (i ∷ box) [] = ⊥
InBox (i ∷ box) (x ∷ xs) = (i.low ≤ℤ x) × (x ≤ℤ i.high) × InBox box xs

-- the same as a test
abbrev pub in_box : Box → List ℤ → Bool
in_box [] [] = true
in_box [] (x ∷ xs) = false
in_box (i ∷ box) [] = false
in_box (i ∷ box) (x ∷ xs) = int_le i.low x && int_le x i.high && in_box box xs

-- some interval holds no number
abbrev pub is_empty : Box → Bool
is_empty [] = false
is_empty (i ∷ box) = int_lt i.high i.low || is_empty box

-- each interval holds exactly one number
abbrev pub is_single : Box → Bool
is_single [] = true
is_single (i ∷ box) = int_eq i.low i.high && is_single box

-- how many numbers an interval holds, and how many points a box
abbrev pub natural : ℤ → ℕ
natural (pos n) = n
natural (negsuc n) = 0

abbrev pub width : Interval → ℕ
width i = natural (i.high +ℤ pos 1 -ℤ i.low)

abbrev pub volume : Box → ℕ
volume [] = 1
volume (i ∷ box) = width i * volume box

-- the interval of a column; past the end that of the number 0
abbrev pub interval_at : Box → ℕ → Interval
interval_at box j = slice_index_or box j (record { low = pos 0; high = pos 0 })

-- the points with x_j ≤ v, and those with x_j ≥ v
abbrev pub at_most : Interval → ℤ → Interval
at_most i v = record i { high = int_min i.high v }

abbrev pub at_least : Interval → ℤ → Interval
at_least i v = record i { low = int_max i.low v }

abbrev pub below_cut : Box → ℕ → ℤ → Box
below_cut box j v = slice_set box j (at_most (interval_at box j) v)

abbrev pub above_cut : Box → ℕ → ℤ → Box
above_cut box j v = slice_set box j (at_least (interval_at box j) (v +ℤ pos 1))

-- the part of a box that lies in another
abbrev pub meet : Box → Box → Box
meet (i ∷ box) (k ∷ other) = record { low = int_max i.low k.low; high = int_min i.high k.high } ∷ meet box other
meet (i ∷ box) [] = []
meet [] other = []

-- the least box that contains two boxes that aren't empty
abbrev pub hull : Box → Box → Box
hull (i ∷ box) (k ∷ other) = record { low = int_min i.low k.low; high = int_max i.high k.high } ∷ hull box other
hull (i ∷ box) [] = []
hull [] other = []

-- the same of one or more boxes
abbrev pub hull_of : Box → List Box → Box
hull_of box [] = box
hull_of box (other ∷ others) = hull box (hull_of other others)

-- each end of each interval is at most so much in absolute value
abbrev pub BoundsWithin : ℕ → Box → Type 0
BoundsWithin most [] = Unit {0}
BoundsWithin most (i ∷ box) = (unsigned_abs i.low ≤ most) × (unsigned_abs i.high ≤ most) × BoundsWithin most box
