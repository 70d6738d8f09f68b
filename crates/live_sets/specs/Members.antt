-- Sets of numbers below 64, as rising lists.
use Rattle.std.specs.Prelude.{ℕ, ◌+◌, ◌^◌, ◌==◌, ◌<◌, List, [], ◌∷◌, filter, All, nat_lt, if◌then◌else◌}
use Rattle.std.specs.List.{range_with_len}
use Rattle.std.specs.List.Sorted.{IsStrictlyIncreasing}
use Rattle.std.specs.Int.{bit_at}

-- the numbers below 64 whose bit is set, in rising order
unfoldable pub members : ℕ → List ℕ
members bits = filter (λ k. bit_at bits k == 1) (range_with_len 0 64)

-- the number with these bits
abbrev pub bits_of : List ℕ → ℕ
bits_of [] = 0
bits_of (k ∷ ks) = 2 ^ k + bits_of ks

-- what every set is
pub record IsLiveList (xs : List ℕ) : Type 0 where
  pub rising : IsStrictlyIncreasing xs
  pub below : All (λ k. k < 64) xs

-- a rising list with one more number, which stands once
abbrev pub with_member : ℕ → List ℕ → List ℕ
with_member s [] = s ∷ []
with_member s (x ∷ xs) = if nat_lt s x then s ∷ x ∷ xs else (if s == x then x ∷ xs else x ∷ with_member s xs)
