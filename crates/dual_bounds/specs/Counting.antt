-- Multipliers within the limit, and those that count.
use Rattle.std.specs.Prelude.{◌^◌, ◌≤◌, ℤ, pos, unsigned_abs, if◌then◌else◌, is_some, List}
use Rattle.int_model.specs.declared.model.Ends.{Ends}
use Rattle.dual_bounds.specs.Vectors.{Entry, side}

abbrev pub IsMultiplier : ℤ → Type 0
IsMultiplier y = unsigned_abs y ≤ 2 ^ 40

-- the multiplier, 0 where its end is absent
abbrev pub counting : List Ends → Entry → ℤ
counting ends e = if is_some (side ends e) then e.1 else pos 0
