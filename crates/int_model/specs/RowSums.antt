-- Sums of rows over boxes.
use Rattle.std.specs.Prelude.{ℕ, ℤ, pos, ◌*ℤ◌, Bool, false, ◌||◌, not, int_lt, nat_eq, if◌then◌else◌, [], slice_index_or, Option, Some, None, filter}
use Rattle.std.specs.Int.{int_max, int_min}
use Rattle.int_model.specs.Integers.{int_sum_by}
use Rattle.int_model.specs.Boxes.{Box, Interval, interval_at}
use Rattle.int_model.specs.Programs.{Program, Terms}
use Rattle.int_model.specs.declared.model.Ends.{Ends}

-- the least and the greatest of a * v over the interval
abbrev pub least_product : ℤ → Interval → ℤ
least_product a i = int_min (a *ℤ i.low) (a *ℤ i.high)

abbrev pub greatest_product : ℤ → Interval → ℤ
greatest_product a i = int_max (a *ℤ i.low) (a *ℤ i.high)

-- the least and the greatest sum of a row over the box
abbrev pub least_sum : Terms → Box → ℤ
least_sum terms box = int_sum_by (λ t. least_product t.1 (interval_at box t.0)) terms

abbrev pub greatest_sum : Terms → Box → ℤ
greatest_sum terms box = int_sum_by (λ t. greatest_product t.1 (interval_at box t.0)) terms

-- the coefficient of a column, 0 where the row has no term of it
abbrev pub coefficient : ℕ → Terms → ℤ
coefficient j terms = int_sum_by (λ t. if nat_eq t.0 j then t.1 else pos 0) terms

-- the row's other terms
abbrev pub without : ℕ → Terms → Terms
without j terms = filter (λ t. not (nat_eq t.0 j)) terms

-- the terms and the ends of row i; past the end no terms, and no ends
abbrev pub row_at : Program → ℕ → Terms
row_at p i = slice_index_or p.rows i []

abbrev pub ends_at : Program → ℕ → Ends
ends_at p i = slice_index_or p.ends i (record { lower = None; upper = None })

-- z is above the upper end, or below the lower end, where there is one
abbrev pub is_above : Option ℤ → ℤ → Bool
is_above None z = false
is_above (Some u) z = int_lt u z

abbrev pub is_below : Option ℤ → ℤ → Bool
is_below None z = false
is_below (Some w) z = int_lt z w

-- everywhere in the box the row's sum is above its upper end, or everywhere below its lower end
abbrev pub misses_ends : Terms → Ends → Box → Bool
misses_ends terms e box = is_above e.upper (least_sum terms box) || is_below e.lower (greatest_sum terms box)

abbrev pub row_misses : Program → ℕ → Box → Bool
row_misses p i box = misses_ends (row_at p i) (ends_at p i) box
