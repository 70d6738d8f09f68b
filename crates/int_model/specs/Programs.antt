-- Integer programs: costs, bounds and rows, and which points are feasible. The value is minimised.
use Rattle.std.specs.Prelude.{◌≡◌, ◌≢◌, ℕ, ◌+◌, ◌^◌, ◌<◌, ◌≤◌, ℤ, pos, ◌+ℤ◌, ◌*ℤ◌, ◌≤ℤ◌, unsigned_abs, List, [], ◌∷◌, length, IfSome}
use Rattle.int_model.specs.Integers.{int_sum_by, int_at, dot}
use Rattle.int_model.specs.Boxes.{Box, InBox, BoundsWithin}
use Rattle.int_model.specs.declared.model.Ends.{Ends}

-- the terms of a row: columns and coefficients
abbrev pub Terms : Type 0
Terms = List (ℕ × ℤ)

-- the row's sum at a point
abbrev pub row_sum : Terms → List ℤ → ℤ
row_sum terms x = int_sum_by (λ t. t.1 *ℤ int_at x t.0) terms

-- z lies between the ends that exist
abbrev pub IsBetween : Ends → ℤ → Type 0
IsBetween e z = IfSome e.lower (λ w. w ≤ℤ z) × IfSome e.upper (λ u. z ≤ℤ u)

-- each row's sum lies between its ends
abbrev pub MeetsRows : List Terms → List Ends → List ℤ → Type 0
MeetsRows [] [] x = Unit {0}
MeetsRows [] (e ∷ ends) x = ⊥
MeetsRows (row ∷ rows) [] x = ⊥
MeetsRows (row ∷ rows) (e ∷ ends) x = IsBetween e (row_sum row x) × MeetsRows rows ends x

pub record Program : Type 0 where
  pub costs : List ℤ
  pub constant : ℤ
  pub bounds : Box
  pub rows : List Terms
  pub ends : List Ends

pub record Feasible (p : Program) (x : List ℤ) : Type 0 where
  pub within : InBox p.bounds x
  pub rows : MeetsRows p.rows p.ends x

abbrev pub value : Program → List ℤ → ℤ
value p x = dot p.costs x +ℤ p.constant

-- the row names only columns below n
abbrev pub ColumnsBelow : ℕ → Terms → Type 0
ColumnsBelow n [] = Unit {0}
ColumnsBelow n (t ∷ terms) = (t.0 < n) × ColumnsBelow n terms

abbrev pub AllColumnsBelow : ℕ → List Terms → Type 0
AllColumnsBelow n [] = Unit {0}
AllColumnsBelow n (row ∷ rows) = ColumnsBelow n row × AllColumnsBelow n rows

-- so many columns and rows
pub record HasShape (column_count row_count : ℕ) (p : Program) : Type 0 where
  pub costs : length p.costs ≡ column_count
  pub bounds : length p.bounds ≡ column_count
  pub rows : length p.rows ≡ row_count
  pub ends : length p.ends ≡ row_count
  pub terms : AllColumnsBelow column_count p.rows

-- columns that rise, from a least one on and below n, with coefficients within the limit that aren't 0
abbrev pub AreTerms : ℕ → ℕ → Terms → Type 0
AreTerms least n [] = Unit {0}
AreTerms least n (t ∷ terms) = (least ≤ t.0) × (t.0 < n) × (unsigned_abs t.1 ≤ 10 ^ 9) × (t.1 ≢ pos 0) × AreTerms (t.0 + 1) n terms

abbrev pub AreRows : ℕ → List Terms → Type 0
AreRows n [] = Unit {0}
AreRows n (row ∷ rows) = AreTerms 0 n row × AreRows n rows

abbrev pub CostsWithin : ℕ → List ℤ → Type 0
CostsWithin most [] = Unit {0}
CostsWithin most (c ∷ costs) = (unsigned_abs c ≤ most) × CostsWithin most costs

-- the limits on columns, costs, bounds, rows and the constant
pub record KeepsLimits (p : Program) : Type 0 where
  pub few : length p.costs ≤ 1000
  pub costs : CostsWithin (10 ^ 9) p.costs
  pub bounds : BoundsWithin (10 ^ 6) p.bounds
  pub constant : unsigned_abs p.constant ≤ 10 ^ 15
  pub rows : AreRows (length p.costs) p.rows
