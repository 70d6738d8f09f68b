-- Words on whole numbers and lists of them.
use Rattle.std.specs.Prelude.{ℕ, ℤ, pos, ◌+ℤ◌, ◌*ℤ◌, neg_ℤ, List, [], ◌∷◌, slice_index_or}
use Rattle.std.specs.Int.{int_div_euclid}
pub use Rattle.std.specs.Ordering.{int_eq}

-- the sum of f over the list
abbrev pub int_sum_by {ℓ} : {A : Type ℓ} → (A → ℤ) → List A → ℤ
int_sum_by f [] = pos 0
int_sum_by f (x ∷ xs) = f x +ℤ int_sum_by f xs

-- the number at a place, 0 past the end
abbrev pub int_at : List ℤ → ℕ → ℤ
int_at xs j = slice_index_or xs j (pos 0)

-- the sum of the products, place by place
abbrev pub dot : List ℤ → List ℤ → ℤ
dot (a ∷ xs) (b ∷ ys) = a *ℤ b +ℤ dot xs ys
dot (a ∷ xs) [] = pos 0
dot [] ys = pos 0

-- the quotient rounded up, for a divisor above 0
abbrev pub ceil_div : ℤ → ℤ → ℤ
ceil_div a d = neg_ℤ (int_div_euclid (neg_ℤ a) d)
