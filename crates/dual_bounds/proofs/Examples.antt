-- Worked examples, by computing.
use Rattle.std.specs.Prelude.{◌≡◌, ℕ, ◌+◌, ◌^◌, ℤ, pos, negsuc, List, [], ◌∷◌, Option, Some, None, refl}
use Rattle.int_model.specs.Boxes.{Box, box_of}
use Rattle.int_model.specs.Programs.{Program, Terms}
use Rattle.dual_bounds.specs.Vectors.{Multipliers, program_sum, program_bound, within_range}
use Rattle.dual_bounds.specs.Refusals.{refusal}
use Rattle.dual_bounds.specs.declared.vector.VectorError.TheVariants.{BadScale, BadEntry}

abbrev pub square : Box
square = box_of (pos 0 ∷ pos 0 ∷ []) (pos 3 ∷ pos 3 ∷ [])

abbrev pub cap_row : List Terms
cap_row = ((0, pos 2) ∷ (1, pos 1) ∷ []) ∷ []

-- min -3x - 2y + constant, x and y in 0..3, with these ends of 2x + y
abbrev pub cap : ℤ → Option ℤ → Option ℤ → Program
cap constant w u = record {
  costs = negsuc 2 ∷ negsuc 1 ∷ [];
  constant = constant;
  bounds = square;
  rows = cap_row;
  ends = record { lower = w; upper = u } ∷ [];
}

abbrev pub with_entry : ℕ → ℤ → Multipliers
with_entry scale y = record { scale = scale; entries = (0, y) ∷ [] }

abbrev pub no_entries : ℕ → Multipliers
no_entries scale = record { scale = scale; entries = [] }

-- ---- 2x + y at most 4

abbrev pub m1 : Program
m1 = cap (pos 0) None (Some (pos 4))

-- -3 * 4, then 0 * x and -1 * y
half-sum : program_sum m1 (with_entry 2 (negsuc 2)) square ≡ negsuc 14
half-sum = refl

-- -7.5 rounded up
half-bound : program_bound m1 (with_entry 2 (negsuc 2)) square ≡ negsuc 6
half-bound = refl

empty-sum : program_sum m1 (no_entries 1) square ≡ negsuc 14
empty-sum = refl

one-sum : program_sum m1 (with_entry 1 (negsuc 0)) square ≡ negsuc 9
one-sum = refl

-- the least over a box whose low ends count: -4, then -1 * x and -1 * y with x and y at most 1
corner-sum : program_sum m1 (with_entry 1 (negsuc 0)) (box_of (pos 0 ∷ pos 0 ∷ []) (pos 1 ∷ pos 1 ∷ [])) ≡ negsuc 5
corner-sum = refl

-- an end that the row hasn't got counts in neither part: twice the costs alone
absent-sum : program_sum m1 (with_entry 2 (pos 3)) square ≡ negsuc 29
absent-sum = refl

-- ---- both ends: 2x + y between 1 and 4

abbrev pub between : Program
between = cap (pos 0) (Some (pos 1)) (Some (pos 4))

-- the lower end for a multiplier above 0: 3 * 1, then -12 * x and -7 * y
lower-sum : program_sum between (with_entry 2 (pos 3)) square ≡ negsuc 53
lower-sum = refl

upper-sum : program_sum between (with_entry 2 (negsuc 2)) square ≡ negsuc 14
upper-sum = refl

-- ---- the bound

-- the constant is added after the division
constant-bound : program_bound (cap (pos 5) None (Some (pos 4))) (with_entry 2 (negsuc 2)) square ≡ negsuc 1
constant-bound = refl

-- 2x + y at least 5 with the costs 3 and 2: 2 * 5, then 8 * x and 6 * y; and 2.5 is rounded up
abbrev pub cover : Program
cover = record { costs = pos 3 ∷ pos 2 ∷ []; constant = pos 0; bounds = square; rows = cap_row; ends = record { lower = Some (pos 5); upper = None } ∷ [] }

cover-sum : program_sum cover (with_entry 4 (pos 2)) square ≡ pos 10
cover-sum = refl

cover-bound : program_bound cover (with_entry 4 (pos 2)) square ≡ pos 3
cover-bound = refl

top : within_range (pos (2 ^ 60 + 1)) ≡ pos (2 ^ 60)
top = refl

bottom : within_range (negsuc (2 ^ 60)) ≡ negsuc 1152921504606846975
bottom = refl

-- ---- the scale 0: 2x + y at least 10 has no point, since it is at most 9 on the box

infeasible-sum : program_sum (cap (pos 0) (Some (pos 10)) None) (with_entry 0 (pos 1)) square ≡ pos 1
infeasible-sum = refl

feasible-sum : program_sum (cap (pos 0) (Some (pos 9)) None) (with_entry 0 (pos 1)) square ≡ pos 0
feasible-sum = refl

-- ---- refusals

scale-first : refusal 1048577 ((0, pos 0) ∷ []) ≡ Some BadScale
scale-first = refl

scale-kept : refusal 1048576 [] ≡ None
scale-kept = refl

zero-refused : refusal 1 ((0, pos 0) ∷ []) ≡ Some (BadEntry 0)
zero-refused = refl

limits-kept : refusal 0 ((3, pos 1099511627776) ∷ (4, negsuc 1099511627775) ∷ []) ≡ None
limits-kept = refl

large-refused : refusal 1 ((3, pos 1) ∷ (4, pos 1099511627777) ∷ []) ≡ Some (BadEntry 1)
large-refused = refl

small-refused : refusal 1 ((3, negsuc 1099511627776) ∷ []) ≡ Some (BadEntry 0)
small-refused = refl

repeated-row : refusal 1 ((3, pos 1) ∷ (3, pos 1) ∷ (2, pos 0) ∷ []) ≡ Some (BadEntry 1)
repeated-row = refl

falling-row : refusal 1 ((3, pos 1) ∷ (2, pos 1) ∷ []) ≡ Some (BadEntry 1)
falling-row = refl
