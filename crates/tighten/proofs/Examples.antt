-- Worked examples, by computing.
use Rattle.std.specs.Prelude.{◌≡◌, ℕ, ℤ, pos, negsuc, List, [], ◌∷◌, Some, None, refl}
use Rattle.int_model.specs.Boxes.{Box, box_of}
use Rattle.int_model.specs.Programs.{Program, Terms}
use Rattle.int_model.specs.declared.model.Ends.{Ends}
use Rattle.tighten.specs.Cuts.{interval, above_end, below_end}
use Rattle.tighten.specs.Engines.{restored, EachNarrows}
use Rattle.tighten.specs.Sums.{change}
use Rattle.tighten.specs.Replay.{tightened, replay}
use Rattle.tighten.specs.declared.step.Step.{Step}
use Rattle.tighten.specs.declared.step.RowEnd.{RowEnd}
use Rattle.tighten.specs.declared.step.RowEnd.TheVariants.{Lower, Upper}

abbrev pub step : ℕ → RowEnd → Step
step j side = record { row = 0; column = j; side = side }

abbrev pub square : Box
square = box_of (pos 0 ∷ pos 0 ∷ []) (pos 3 ∷ pos 3 ∷ [])

-- ---- 2x + y at most 4, x and y in 0..3

abbrev pub cap_rows : List Terms
cap_rows = ((0, pos 2) ∷ (1, pos 1) ∷ []) ∷ []

abbrev pub cap_ends : List Ends
cap_ends = record { lower = None; upper = Some (pos 4) } ∷ []

cap-first : tightened cap_rows cap_ends (step 0 Upper) square ≡ Some (box_of (pos 0 ∷ pos 0 ∷ []) (pos 2 ∷ pos 3 ∷ []))
cap-first = refl

-- y could be 4, so nothing changes
cap-second : tightened cap_rows cap_ends (step 1 Upper) square ≡ Some square
cap-second = refl

-- an end that is absent, and a column that the row hasn't got
cap-absent : tightened cap_rows cap_ends (step 0 Lower) square ≡ Some square
cap-absent = refl

cap-other : tightened cap_rows cap_ends (step 2 Upper) square ≡ Some square
cap-other = refl

-- ---- both ends and both signs: a x + y between 5 and 8, y in 0..1

abbrev pub rows_with : ℤ → List Terms
rows_with a = ((0, a) ∷ (1, pos 1) ∷ []) ∷ []

abbrev pub two_ends : ℤ → ℤ → List Ends
two_ends w u = record { lower = Some w; upper = Some u } ∷ []

abbrev pub wide : Box
wide = box_of (negsuc 8 ∷ pos 0 ∷ []) (pos 9 ∷ pos 1 ∷ [])

-- 3x at most 8: x at most 2 (2.67 rounded down)
above-upper : tightened (rows_with (pos 3)) (two_ends (pos 5) (pos 8)) (step 0 Upper) wide ≡ Some (box_of (negsuc 8 ∷ pos 0 ∷ []) (pos 2 ∷ pos 1 ∷ []))
above-upper = refl

-- 3x at least 4: x at least 2 (1.33 rounded up)
above-lower : tightened (rows_with (pos 3)) (two_ends (pos 5) (pos 8)) (step 0 Lower) wide ≡ Some (box_of (pos 2 ∷ pos 0 ∷ []) (pos 9 ∷ pos 1 ∷ []))
above-lower = refl

-- -3x at most 8: x at least -2 (-2.67 rounded up)
below-upper : tightened (rows_with (negsuc 2)) (two_ends (pos 5) (pos 8)) (step 0 Upper) wide ≡ Some (box_of (negsuc 1 ∷ pos 0 ∷ []) (pos 9 ∷ pos 1 ∷ []))
below-upper = refl

-- -3x at least 4: x at most -2 (-1.33 rounded down)
below-lower : tightened (rows_with (negsuc 2)) (two_ends (pos 5) (pos 8)) (step 0 Lower) wide ≡ Some (box_of (negsuc 8 ∷ pos 0 ∷ []) (negsuc 1 ∷ pos 1 ∷ []))
below-lower = refl

-- ends below 0: 3x at most -7, so x at most -3 (-2.33 rounded down)
negative-upper : tightened (rows_with (pos 3)) (two_ends (negsuc 19) (negsuc 6)) (step 0 Upper) wide ≡ Some (box_of (negsuc 8 ∷ pos 0 ∷ []) (negsuc 2 ∷ pos 1 ∷ []))
negative-upper = refl

-- exact division: 3x at most 9
exact-upper : tightened (rows_with (pos 3)) (two_ends (pos 0) (pos 9)) (step 0 Upper) wide ≡ Some (box_of (negsuc 8 ∷ pos 0 ∷ []) (pos 3 ∷ pos 1 ∷ []))
exact-upper = refl

-- 3x at most -27 leaves the low end alone, and 3x at most -28 nothing
single-upper : tightened (rows_with (pos 3)) (two_ends (pos 0) (negsuc 26)) (step 0 Upper) wide ≡ Some (box_of (negsuc 8 ∷ pos 0 ∷ []) (negsuc 8 ∷ pos 1 ∷ []))
single-upper = refl

empty-upper : tightened (rows_with (pos 3)) (two_ends (pos 0) (negsuc 27)) (step 0 Upper) wide ≡ None
empty-upper = refl

-- ---- replays

abbrev pub cap : Program
cap = record { costs = negsuc 2 ∷ negsuc 1 ∷ []; constant = pos 0; bounds = square; rows = cap_rows; ends = cap_ends }

abbrev pub both : List Step
both = step 0 Upper ∷ step 1 Upper ∷ []

replay-root : replay cap both square ≡ Some (box_of (pos 0 ∷ pos 0 ∷ []) (pos 2 ∷ pos 3 ∷ []))
replay-root = refl

-- the box is cut down to the program's bounds before the first step
replay-cut : replay (record cap { bounds = box_of (pos 2 ∷ negsuc 0 ∷ []) (pos 9 ∷ pos 9 ∷ []) }) both square ≡ Some (box_of (pos 2 ∷ pos 0 ∷ []) (pos 2 ∷ pos 0 ∷ []))
replay-cut = refl

replay-apart : replay (record cap { bounds = box_of (pos 4 ∷ pos 0 ∷ []) (pos 9 ∷ pos 9 ∷ []) }) [] square ≡ None
replay-apart = refl

replay-empties : replay (record cap { bounds = box_of (pos 3 ∷ pos 0 ∷ []) (pos 3 ∷ pos 3 ∷ []) }) both square ≡ None
replay-empties = refl

-- the second step doesn't narrow what the first leaves
both-narrow : EachNarrows cap_rows cap_ends both square → ⊥
both-narrow h = h 1 (step 1 Upper) refl refl

-- ---- the engine's words

-- 2x + y at most 4 with x in 1..3 and a least sum of 2: 2x at most 4, of which x's own least product is 2
below-least : below_end (Some (pos 4)) (pos 2) (pos 2) (interval (pos 1) (pos 3)) ≡ interval (pos 1) (pos 2)
below-least = refl

-- -2x + y at least -4 with x in 1..3 and a greatest sum of -1: y is at most 1, so 2x at most 5, and x at most 2
above-most : above_end (Some (negsuc 3)) (negsuc 0) (negsuc 1) (interval (pos 1) (pos 3)) ≡ interval (pos 1) (pos 2)
above-most = refl

-- a coefficient below 0 takes its least product at the high end
change-below : change (pos 2) (negsuc 4) (negsuc 0) ≡ pos 5
change-below = refl

-- of two changes of a column the older one says what there was
restored-twice : restored (record { column = 0; low = pos 0; high = pos 9 } ∷ record { column = 0; low = pos 2; high = pos 9 } ∷ []) (box_of (pos 5 ∷ []) (pos 5 ∷ [])) ≡ box_of (pos 0 ∷ []) (pos 9 ∷ [])
restored-twice = refl
