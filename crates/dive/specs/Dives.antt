-- What a dive answers, and the boxes that it goes through.
use Rattle.std.specs.Prelude.{◌≡◌, ◌↔◌, ℕ, ◌<◌, ℤ, ◌≤ℤ◌, true, false, List, [], ◌∷◌, length, map}
use Rattle.int_model.specs.Boxes.{Box, Interval, InBox, is_empty, is_single}
use Rattle.int_model.specs.Programs.{Program, Feasible}
use Rattle.int_model.specs.RowSums.{row_misses}
use Rattle.dive.specs.declared.outcome.Dive.{Dive}
use Rattle.dive.specs.declared.outcome.Dive.TheVariants.{Point, Stuck}

-- each point of a box lies in the other
abbrev pub LiesIn : Box → Box → Type 0
LiesIn part box = (x : List ℤ) → InBox part x → InBox box x

-- a feasible point of the box
pub record IsFound (p : Program) (box : Box) (x : List ℤ) : Type 0 where
  pub feasible : Feasible p x
  pub within : InBox box x

-- no row misses a box
abbrev pub MissesNone : Program → Box → Type 0
MissesNone p box = (i : ℕ) → i < length p.rows → row_misses p i box ≡ false

-- row i misses a box
pub record IsMissing (p : Program) (box : Box) (i : ℕ) : Type 0 where
  pub is_row : i < length p.rows
  pub misses : row_misses p i box ≡ true

-- a part of the box that isn't empty, and a row that misses it
pub record IsStuck (p : Program) (box part : Box) (i : ℕ) : Type 0 where
  pub columns : length part ≡ length box
  pub occupied : is_empty part ≡ false
  pub within : LiesIn part box
  pub row : IsMissing p part i

-- what a dive into the box may answer
abbrev pub IsDive : Program → Box → Dive → Type 0
IsDive p box (Point x) = IsFound p box x
IsDive p box (Stuck part row) = IsStuck p box part row

abbrev pub FindsPoint : Dive → Type 0
FindsPoint (Point x) = Unit {0}
FindsPoint (Stuck part row) = ⊥

-- the point of the lows is feasible
abbrev pub LowsAreFeasible : Program → Box → Type 0
LowsAreFeasible p box = Feasible p (map (λ (i : Interval). i.low) box)

-- where the box is a single point, a point is found exactly where that one is feasible
abbrev pub DecidesSingle : Program → Box → Dive → Type 0
DecidesSingle p box d = is_single box ≡ true → FindsPoint d ↔ LowsAreFeasible p box

-- ---- boxes of a dive

-- each interval lies in the other box's interval of the same column
abbrev pub IsPart : Box → Box → Type 0
IsPart [] [] = Unit {0}
IsPart [] (k ∷ box) = ⊥
IsPart (i ∷ part) [] = ⊥
IsPart (i ∷ part) (k ∷ box) = (k.low ≤ℤ i.low) × (i.high ≤ℤ k.high) × IsPart part box
