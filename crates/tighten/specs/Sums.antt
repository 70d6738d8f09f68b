-- The least and the greatest sums of rows over a box, and how far their terms' products spread.
use Rattle.std.specs.Prelude.{◌≡◌, ℕ, ◌^◌, ◌≤◌, ℤ, pos, ◌*ℤ◌, unsigned_abs, int_lt, if◌then◌else◌, List, [], slice_index_or}
use Rattle.int_model.specs.Boxes.{Box}
use Rattle.int_model.specs.Programs.{Terms}
use Rattle.int_model.specs.RowSums.{least_sum, greatest_sum}
use Rattle.activity.specs.Sums.{SpreadWithin}

-- number i is the least sum of row i over the box. Past the end a row has no terms, and its sum is 0
abbrev pub AreLeast : List Terms → Box → List ℤ → Type 0
AreLeast rows box sums = (i : ℕ) → slice_index_or sums i (pos 0) ≡ least_sum (slice_index_or rows i []) box

-- the same with greatest sums
abbrev pub AreGreatest : List Terms → Box → List ℤ → Type 0
AreGreatest rows box sums = (i : ℕ) → slice_index_or sums i (pos 0) ≡ greatest_sum (slice_index_or rows i []) box

-- no term of row i has a spread above number i
abbrev pub AreSpreads : List Terms → Box → List ℕ → Type 0
AreSpreads rows box spreads = (i : ℕ) → SpreadWithin (slice_index_or spreads i 0) (slice_index_or rows i []) box

abbrev pub AreSmall : List ℤ → Type 0
AreSmall sums = (i : ℕ) → unsigned_abs (slice_index_or sums i (pos 0)) ≤ 10 ^ 18

-- by how much the least product of a coefficient changes where the low end of the interval moves by u and the high
-- end by v; with u and v exchanged, the greatest product
abbrev pub change : ℤ → ℤ → ℤ → ℤ
change u v a = a *ℤ (if int_lt (pos 0) a then u else v)
