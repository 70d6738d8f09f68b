-- The split of a node.
use Rattle.std.specs.Prelude.{◌≡◌, ℕ, ◌<◌, ℤ, true, List, Option, Some}
use Rattle.int_model.specs.Boxes.{Box, below_cut, above_cut}
use Rattle.scenario_changes.specs.Problems.{Problem}
use Rattle.certs.specs.Trees.{stayers_hull, splits_inside, kept}
use Rattle.certs.specs.declared.cert.Cert.{Cert}
use Rattle.certs.specs.declared.level.Level.{Level}
use Rattle.bb_core.specs.Settlements.{Outcome, Close, Branch}
use Rattle.certs.specs.Trees.{of_live}

-- the column, the value, the two boxes and the two lists of levels are those of a split of the stayers' hull
pub record IsBranchOf (p : Problem) (box : Box) (cert : Cert) (stay : List ℕ) (rs : List (Option Level)) (column : ℕ) (v : ℤ) (left right : Box) (left_levels right_levels : List Level) : Type 0 where
  pub within : Box
  pub hull_is : stayers_hull p box cert stay ≡ Some within
  pub column_below : column < p.columns
  pub inside : splits_inside (Some within) column v ≡ true
  pub left_is : left ≡ below_cut within column v
  pub right_is : right ≡ above_cut within column v
  pub left_kept : of_live stay 0 left_levels ≡ kept stay 0 rs
  pub right_kept : of_live stay 0 right_levels ≡ kept stay 0 rs

-- a split in which these scenarios stay, where the levels were raised to these
abbrev pub IsSplit : Problem → Box → Cert → List ℕ → List (Option Level) → Outcome → Type 0
IsSplit p box cert stay rs Close = ⊥
IsSplit p box cert stay rs (Branch stayers column v left right left_levels right_levels) = (stayers ≡ stay) × IsBranchOf p box cert stay rs column v left right left_levels right_levels
