-- What the calls on steps need, and what they answer.
use Rattle.std.specs.Prelude.{◌≡◌, ◌⊎◌, ℕ, ◌*◌, ◌^◌, ◌<◌, ℤ, ◌<ℤ◌, int_lt, Bool, true, false, List, length, map, take, slice_get, Option, Some, None, All}
use Rattle.int_model.specs.Limits.{IsBound}
use Rattle.int_model.specs.Boxes.{Box, Interval, is_empty}
use Rattle.int_model.specs.Programs.{Terms, AreTerms}
use Rattle.int_model.specs.Models.{IntegerModel}
use Rattle.int_model.specs.Ends.{EndsWithin}
use Rattle.int_model.specs.declared.model.Ends.{Ends}
use Rattle.int_model.specs.declared.model.Row.{Row}
use Rattle.tighten.specs.declared.step.Step.{Step}
use Rattle.tighten.specs.Replay.{tightened, tightened_by, replayed}

-- the terms of a model's rows
abbrev pub rows_of : IntegerModel → List Terms
rows_of m = map (λ (i : Row). i.terms) m.rows

-- a step at a row and a column of the model
pub record IsStep (m : IntegerModel) (step : Step) : Type 0 where
  pub row : step.row < length m.rows
  pub column : step.column < length m.columns

-- the ends of each row of the model, at most 2 * 10^18 in absolute value
pub record AreEnds (m : IntegerModel) (ends : List Ends) : Type 0 where
  pub count : length ends ≡ length m.rows
  pub limits : All (EndsWithin (2 * 10 ^ 18)) ends

-- columns that rise, with coefficients within the limit that aren't 0
abbrev pub AreRising : Terms → Type 0
AreRising terms = (n : ℕ) × AreTerms 0 n terms

-- true: the box is the wanted one now. False: there is none, and the box is as before
abbrev pub IsApplied : Option Box → Box → Bool → Box → Type 0
IsApplied wanted before true now = wanted ≡ Some now
IsApplied wanted before false now = (wanted ≡ None) × (now ≡ before)

-- the low and the high end of an interval within the limits, None for one without a number
abbrev pub IsLeft : Interval → Option (ℤ × ℤ) → Type 0
IsLeft i None = i.high <ℤ i.low
IsLeft i (Some s) = (s.0 ≡ i.low) × (s.1 ≡ i.high) × IsBound s.0 × IsBound s.1 × (int_lt s.1 s.0 ≡ false)

-- step k is the first that empties an interval, and the box is as after the steps before it
pub record StopsAt (rows : List Terms) (ends : List Ends) (steps : List Step) (before now : Box) (k : ℕ) (step : Step) : Type 0 where
  pub is_step : slice_get steps k ≡ Some step
  pub reached : tightened_by rows ends (take k steps) before ≡ Some now
  pub empties : tightened rows ends step now ≡ None

abbrev pub Stops : List Terms → List Ends → List Step → Box → Box → Type 0
Stops rows ends steps before now = (k : ℕ) × (step : Step) × StopsAt rows ends steps before now k step

-- false at an empty box, which stays, and at the first step that empties an interval
abbrev pub IsReplayed : List Terms → List Ends → List Step → Box → Bool → Box → Type 0
IsReplayed rows ends steps before true now = replayed rows ends steps before ≡ Some now
IsReplayed rows ends steps before false now =
    (replayed rows ends steps before ≡ None) × (((is_empty before ≡ true) × (now ≡ before)) ⊎ ((is_empty before ≡ false) × Stops rows ends steps before now))
