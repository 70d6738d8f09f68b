-- Near points of a box, and the sizes of what a climb works on.
use Rattle.std.specs.Prelude.{ℕ, ◌^◌, ◌<◌, ◌≤◌, ℤ, pos, ◌*ℤ◌, ◌≤ℤ◌, List, [], ◌∷◌, length, All}
use Rattle.int_model.specs.Boxes.{Box}
use Rattle.int_model.specs.declared.model.Ends.{Ends}
use Rattle.dual_climb.specs.declared.relaxation.Term.{Term}
use Rattle.dual_climb.specs.declared.relaxation.FreeColumn.{FreeColumn}
use Rattle.dual_climb.specs.declared.interior.Span.{Span}

-- a whole number in fixed point, with 14 bits after the point
abbrev pub fixed : ℤ → ℤ
fixed z = pos (2 ^ 14) *ℤ z

-- a fixed-point number within an interval
pub record IsFixedWithin (least most x : ℤ) : Type 0 where
  pub low : fixed least ≤ℤ x
  pub high : x ≤ℤ fixed most

-- fixed-point numbers, one for each interval of the box and within it
abbrev pub IsNear : Box → List ℤ → Type 0
IsNear [] [] = Unit {0}
IsNear [] (x ∷ xs) = ⊥
IsNear (i ∷ box) [] = ⊥
IsNear (i ∷ box) (x ∷ xs) = (fixed i.low ≤ℤ x) × (x ≤ℤ fixed i.high) × IsNear box xs

-- ---- what a climb works on

-- so many rows, and so many free columns
pub record Size : Type 0 where
  pub rows : ℕ
  pub columns : ℕ

-- the term is of a row below n
abbrev pub IsBelow : ℕ → Term → Type 0
IsBelow n t = t.row < n

-- the column's terms lie among the first n
abbrev pub IsSpan : ℕ → FreeColumn → Type 0
IsSpan n c = (c.start ≤ c.end) × (c.end ≤ n)

pub record IsRelaxation (columns : List FreeColumn) (terms : List Term) (ends : List Ends) : Type 0 where
  pub spans : All (IsSpan (length terms)) columns
  pub rows : All (IsBelow (length ends)) terms

-- the span's terms lie among the first n
abbrev pub IsPart : ℕ → Span → Type 0
IsPart n s = (s.start ≤ s.end) × (s.end ≤ n)

pub record IsInterior (rows : ℕ) (spans : List Span) (terms : List Term) : Type 0 where
  pub parts : All (IsPart (length terms)) spans
  pub below : All (IsBelow rows) terms
