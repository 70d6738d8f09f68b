-- What is proved of the definitions.
use Rattle.std.specs.Prelude.{◌≡◌, ◌↔◌, ℕ, ◌<◌, ℤ, pos, ◌*ℤ◌, ◌≤ℤ◌, ◌<ℤ◌, List, None}
use Rattle.int_model.specs.Integers.{dot}
use Rattle.int_model.specs.Boxes.{Box, InBox}
use Rattle.int_model.specs.Programs.{Program, Feasible, HasShape, value}
use Rattle.int_model.specs.Programs as programs
use Rattle.dual_bounds.specs.Vectors.{Entry, Multipliers, KeepsLimits, program_sum, program_bound}
use Rattle.dual_bounds.specs.Refusals.{refusal}

-- a feasible point of a program with so many columns and rows, in a box
pub record IsFeasibleIn (columns rows : ℕ) (p : Program) (box : Box) (x : List ℤ) : Type 0 where
  pub shape : HasShape columns rows p
  pub feasible : Feasible p x
  pub inside : InBox box x

-- the sum of a vector is at most its scale times the cost of each feasible point of the box
abbrev pub SumIsBelow : Type 0
SumIsBelow = (columns rows : ℕ) (p : Program) (v : Multipliers) (box : Box) (x : List ℤ) → IsFeasibleIn columns rows p box x → program_sum p v box ≤ℤ (pos v.scale *ℤ dot p.costs x)

-- within the limits no feasible point of the box has a value below the bound
abbrev pub BoundIsSafe : Type 0
BoundIsSafe = (columns rows : ℕ) (p : Program) (v : Multipliers) (box : Box) (x : List ℤ) → programs.KeepsLimits p → 0 < v.scale → IsFeasibleIn columns rows p box x → program_bound p v box ≤ℤ value p x

-- where the scale is 0 and the sum above 0, no point of the box is feasible
abbrev pub PositiveHasNone : Type 0
PositiveHasNone = (columns rows : ℕ) (p : Program) (v : Multipliers) (box : Box) (x : List ℤ) → v.scale ≡ 0 → pos 0 <ℤ program_sum p v box → IsFeasibleIn columns rows p box x → ⊥

-- nothing is refused exactly where the parts make a vector within the limits
abbrev pub RefusesTheRest : Type 0
RefusesTheRest = (scale : ℕ) (entries : List Entry) → (refusal scale entries ≡ None) ↔ KeepsLimits (record { scale = scale; entries = entries })
