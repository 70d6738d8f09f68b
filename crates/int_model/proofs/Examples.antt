-- Worked examples, by computing.
use Rattle.std.specs.Prelude.{◌≡◌, pos, negsuc, [], ◌∷◌, Some, None, refl, true, false}
use Rattle.std.proofs.Common.{arith, rules}
use Rattle.std.proofs.lemmas.Int.{ints}
use Rattle.int_model.specs.Boxes.{Box, box_of, in_box, is_empty, is_single, volume, below_cut, above_cut, hull, meet}
use Rattle.int_model.specs.Programs.{Program, Terms, Feasible, row_sum, value}
use Rattle.int_model.specs.RowSums.{coefficient, greatest_sum, least_sum, row_misses, without}
use Rattle.int_model.specs.Ends.{ends_from, ends_of, is_removable}
use Rattle.int_model.specs.Models.{IntegerModel, program_of}
use Rattle.int_model.specs.ByColumn.{column_terms}
use Rattle.int_model.specs.Build.{model_of, refusal}
use Rattle.int_model.specs.declared.build.ColumnPart.{ColumnPart}
use Rattle.int_model.specs.declared.build.ModelError.TheVariants as error
use Rattle.int_model.specs.declared.build.Place.TheVariants as place
use Rattle.int_model.specs.declared.model.Direction.TheVariants.{Max, Min}
use Rattle.int_model.specs.declared.model.Rhs.TheVariants.{Inf, MinusInf}
use Rattle.int_model.specs.declared.model.Row.{Row}
use Rattle.int_model.specs.declared.model.RowSense.TheVariants.{E, G, L}

-- ---- min -3x - 2y, 2x + y ≤ 4, x and y in 0..3

abbrev pub cap_terms : Terms
cap_terms = (0, pos 2) ∷ (1, pos 1) ∷ []

abbrev pub cap : Row
cap = record { name = 99 ∷ []; sense = L; rhs = pos 4; range = None; terms = cap_terms }

abbrev pub m1 : IntegerModel
m1 = record {
  columns = record { name = 120 ∷ []; cost = negsuc 2; low = pos 0; high = pos 3 } ∷ record { name = 121 ∷ []; cost = negsuc 1; low = pos 0; high = pos 3 } ∷ [];
  rows = cap ∷ [];
  constant = pos 0;
  direction = Min;
  implied = 0;
}

abbrev pub program : Program
program = program_of m1

abbrev pub root : Box
root = box_of (pos 0 ∷ pos 0 ∷ []) (pos 3 ∷ pos 3 ∷ [])

bounds-are : program.bounds ≡ root
bounds-are = refl

one-two-feasible : Feasible program (pos 1 ∷ pos 2 ∷ [])
one-two-feasible = search rules

one-two-value : value program (pos 1 ∷ pos 2 ∷ []) ≡ negsuc 6
one-two-value = refl

-- (3, 3) lies in the bounds and breaks the row
three-three-inside : in_box root (pos 3 ∷ pos 3 ∷ []) ≡ true
three-three-inside = refl

three-three-sum : row_sum cap_terms (pos 3 ∷ pos 3 ∷ []) ≡ pos 9
three-three-sum = refl

three-three-breaks : Feasible program (pos 3 ∷ pos 3 ∷ []) → ⊥
three-three-breaks f = absurd (omega (arith, ints, f.rows.0.1))

-- the same as max 3x + 2y with the constant -1: costs and constant are negated
abbrev pub maximized : IntegerModel
maximized = record m1 {
  columns = record { name = 120 ∷ []; cost = pos 3; low = pos 0; high = pos 3 } ∷ record { name = 121 ∷ []; cost = pos 2; low = pos 0; high = pos 3 } ∷ [];
  constant = negsuc 0;
  direction = Max;
}

maximized-costs : (program_of maximized).costs ≡ negsuc 2 ∷ negsuc 1 ∷ []
maximized-costs = refl

maximized-value : value (program_of maximized) (pos 1 ∷ pos 2 ∷ []) ≡ negsuc 5
maximized-value = refl

-- without columns the empty list is the one point
empty-point : Feasible (record { costs = []; constant = pos 7; bounds = []; rows = [] ∷ []; ends = record { lower = Some (pos 0); upper = None } ∷ [] }) []
empty-point = search rules

-- ---- boxes

root-volume : volume root ≡ 16
root-volume = refl

below : below_cut root 0 (pos 1) ≡ box_of (pos 0 ∷ pos 0 ∷ []) (pos 1 ∷ pos 3 ∷ [])
below = refl

above : above_cut root 0 (pos 1) ≡ box_of (pos 2 ∷ pos 0 ∷ []) (pos 3 ∷ pos 3 ∷ [])
above = refl

crossed-empty : is_empty (box_of (pos 2 ∷ pos 0 ∷ []) (pos 1 ∷ pos 3 ∷ [])) ≡ true
crossed-empty = refl

crossed-volume : volume (box_of (negsuc 4 ∷ []) (negsuc 8 ∷ [])) ≡ 0
crossed-volume = refl

one-not-empty : is_empty (box_of (negsuc 4 ∷ []) (negsuc 4 ∷ [])) ≡ false
one-not-empty = refl

one-single : is_single (box_of (negsuc 4 ∷ pos 2 ∷ []) (negsuc 4 ∷ pos 2 ∷ [])) ≡ true
one-single = refl

two-not-single : is_single (box_of (pos 1 ∷ pos 2 ∷ []) (pos 1 ∷ pos 3 ∷ [])) ≡ false
two-not-single = refl

no-columns-single : is_single [] ≡ true
no-columns-single = refl

hull-is : hull (box_of (pos 0 ∷ []) (pos 1 ∷ [])) (box_of (pos 3 ∷ []) (pos 3 ∷ [])) ≡ box_of (pos 0 ∷ []) (pos 3 ∷ [])
hull-is = refl

meet-is : meet (box_of (pos 0 ∷ []) (pos 2 ∷ [])) (box_of (pos 1 ∷ []) (pos 3 ∷ [])) ≡ box_of (pos 1 ∷ []) (pos 2 ∷ [])
meet-is = refl

-- ---- sums of rows over boxes

least-is : least_sum ((0, pos 2) ∷ (1, negsuc 0) ∷ []) root ≡ negsuc 2
least-is = refl

greatest-is : greatest_sum ((0, pos 2) ∷ (1, negsuc 0) ∷ []) root ≡ pos 6
greatest-is = refl

coefficient-is : coefficient 1 cap_terms ≡ pos 1
coefficient-is = refl

without-is : without 0 cap_terms ≡ (1, pos 1) ∷ []
without-is = refl

cap-misses : row_misses program 0 (box_of (pos 2 ∷ pos 1 ∷ []) (pos 3 ∷ pos 3 ∷ [])) ≡ true
cap-misses = refl

-- the end itself is allowed
cap-meets : row_misses program 0 (box_of (pos 2 ∷ pos 0 ∷ []) (pos 3 ∷ pos 3 ∷ [])) ≡ false
cap-meets = refl

by-column : column_terms 1 0 (cap_terms ∷ ((0, pos 7) ∷ []) ∷ ((1, negsuc 4) ∷ []) ∷ []) ≡ (0, pos 1) ∷ (2, negsuc 4) ∷ []
by-column = refl

-- ---- ends of rows

negative-range : ends_from E (pos 5) (Some (negsuc 1)) ≡ record { lower = Some (pos 3); upper = Some (pos 5) }
negative-range = refl

positive-range : ends_from E (pos 5) (Some (pos 2)) ≡ record { lower = Some (pos 5); upper = Some (pos 7) }
positive-range = refl

zero-range : ends_from E (pos 5) (Some (pos 0)) ≡ record { lower = Some (pos 5); upper = Some (pos 5) }
zero-range = refl

-- on the other senses the sign of a range says nothing
less-range : ends_from L (pos 5) (Some (negsuc 1)) ≡ record { lower = Some (pos 3); upper = Some (pos 5) }
less-range = refl

greater-range : ends_from G (pos 5) (Some (negsuc 1)) ≡ record { lower = Some (pos 5); upper = Some (pos 7) }
greater-range = refl

removed-ends : ends_of cap Inf ≡ record { lower = None; upper = None }
removed-ends = refl

cap-removable : is_removable cap Inf ≡ true
cap-removable = refl

cap-other-side : is_removable cap MinusInf ≡ false
cap-other-side = refl

ranged-not-removable : is_removable (record cap { range = Some (pos 1) }) Inf ≡ false
ranged-not-removable = refl

equation-not-removable : is_removable (record cap { sense = E }) Inf ≡ false
equation-not-removable = refl

-- ---- parts

abbrev pub x : ColumnPart
x = record { name = 120 ∷ []; cost = negsuc 2; low = Some (pos 0); high = Some (pos 3); implied = true }

abbrev pub y : ColumnPart
y = record { name = 121 ∷ []; cost = negsuc 1; low = Some (pos 0); high = Some (pos 3); implied = false }

no-refusal : refusal (x ∷ y ∷ []) (cap ∷ []) (pos 0) ≡ None
no-refusal = refl

made : model_of (x ∷ y ∷ []) (cap ∷ []) (pos 0) Min ≡ record m1 { implied = 1 }
made = refl

without-high : refusal (record x { high = None } ∷ []) [] (pos 0) ≡ Some (error.Unbounded 0)
without-high = refl

-- a number that is too large comes before a side that is missing
large-low : refusal (record x { low = Some (pos 1000001); high = None } ∷ []) [] (pos 0) ≡ Some (error.Magnitude (place.Low 0))
large-low = refl

large-bound : refusal (record x { low = Some (negsuc 999999) } ∷ []) [] (pos 0) ≡ None
large-bound = refl

columns-first : refusal (record x { high = None } ∷ []) (record cap { terms = (3, pos 1) ∷ [] } ∷ []) (pos 0) ≡ Some (error.Unbounded 0)
columns-first = refl

not-rising : refusal (x ∷ y ∷ []) (record cap { terms = (1, pos 1) ∷ (0, pos 1) ∷ [] } ∷ []) (pos 0) ≡ Some (error.BadTerm 0)
not-rising = refl

twice : refusal (x ∷ y ∷ []) (record cap { terms = (1, pos 1) ∷ (1, pos 1) ∷ [] } ∷ []) (pos 0) ≡ Some (error.BadTerm 0)
twice = refl

zero-term : refusal (x ∷ y ∷ []) (record cap { terms = (1, pos 0) ∷ [] } ∷ []) (pos 0) ≡ Some (error.BadTerm 0)
zero-term = refl

large-entry : refusal (x ∷ y ∷ []) (cap ∷ record cap { terms = (1, pos 1000000001) ∷ [] } ∷ []) (pos 0) ≡ Some (error.Magnitude (place.Entry 1 1))
large-entry = refl

large-rhs : refusal (x ∷ y ∷ []) (record cap { rhs = negsuc 1000000000000000000 } ∷ []) (pos 0) ≡ Some (error.Magnitude (place.Rhs 0))
large-rhs = refl

large-constant : refusal (x ∷ x ∷ []) [] (pos 1000000000000001) ≡ Some (error.Magnitude place.Constant)
large-constant = refl

-- the later of two names that are the same
same-name : refusal (x ∷ y ∷ x ∷ x ∷ []) (cap ∷ cap ∷ []) (pos 0) ≡ Some (error.SameName 2)
same-name = refl

same-row-name : refusal (x ∷ y ∷ []) (cap ∷ cap ∷ []) (pos 0) ≡ Some (error.SameName 1)
same-row-name = refl
