-- How shares are kept.
use Rattle.std.specs.Prelude.{◌≤◌, ◌^◌, ℕ, ℤ, pos, unsigned_abs, List, slice_index_or, Option, IfSome}

-- no number is above 2^62
abbrev pub AreSmall : List ℤ → Type 0
AreSmall of_columns = (j : ℕ) → unsigned_abs (slice_index_or of_columns j (pos 0)) ≤ 2 ^ 62

-- the numbers are so, where there are some
abbrev pub AreNarrow : Option (List ℤ) → Type 0
AreNarrow shares = IfSome shares AreSmall
