-- The code of a value: the value plus 2^60. The code of none is above all others.
use Rattle.std.specs.Prelude.{◌≡◌, ℕ, ◌+◌, ◌-◌, ◌^◌, ◌≤◌, ◌⊎◌, ℤ, pos, negsuc, unsigned_abs, Option, None, Some}

abbrev pub no_value : ℕ
no_value = 2 ^ 64 - 1

abbrev pub code : ℤ → ℕ
code (pos n) = 2 ^ 60 + n
code (negsuc n) = 2 ^ 60 - (n + 1)

abbrev pub code_of : Option ℤ → ℕ
code_of None = no_value
code_of (Some v) = code v

-- the code of some value within 2^60 of 0, or of none
abbrev pub IsCode : ℕ → Type 0
IsCode c = (c ≡ no_value) ⊎ (c ≤ 2 ^ 61)

-- a value within 2^60 of 0
abbrev pub IsValue : ℤ → Type 0
IsValue v = unsigned_abs v ≤ 2 ^ 60
