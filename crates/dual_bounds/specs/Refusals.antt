-- What is wrong with a vector's parts.
use Rattle.std.specs.Prelude.{◌+◌, ◌^◌, ℕ, pos, unsigned_abs, Bool, ◌||◌, nat_lt, if◌then◌else◌, List, [], ◌∷◌, length, Option, Some, None}
use Rattle.int_model.specs.Integers.{int_eq}
use Rattle.dual_bounds.specs.Vectors.{Entry}
use Rattle.dual_bounds.specs.declared.vector.VectorError.{VectorError}
use Rattle.dual_bounds.specs.declared.vector.VectorError.TheVariants.{BadScale, TooMany, BadEntry}

-- a row before the least one that may come, a multiplier above the limit, or the multiplier 0
abbrev pub is_bad : ℕ → Entry → Bool
is_bad least e = nat_lt e.0 least || nat_lt (2 ^ 40) (unsigned_abs e.1) || int_eq e.1 (pos 0)

-- the first bad entry, of those from a place on
abbrev pub entries_refusal : ℕ → ℕ → List Entry → Option VectorError
entries_refusal place least [] = None
entries_refusal place least (e ∷ entries) =
    if is_bad least e then Some (BadEntry place) else entries_refusal (place + 1) (e.0 + 1) entries

-- the first refusal that applies
abbrev pub refusal : ℕ → List Entry → Option VectorError
refusal scale entries =
    if nat_lt (2 ^ 20) scale then Some BadScale
    else if nat_lt 128 (length entries) then Some TooMany
    else entries_refusal 0 0 entries
