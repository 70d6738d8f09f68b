-- What is tested of a settlement, and what the tests need.
use Rattle.std.specs.Prelude.{◌≡◌, ◌<◌, ◌≤◌, ℕ, ℤ, true, List, Option, Some, All, length, slice_get, vec_capacity}
use Rattle.std.specs.List.{list_all}
use Rattle.int_model.specs.Boxes.{Box, below_cut, above_cut}
use Rattle.int_model.specs.Models.{IntegerModel}
use Rattle.tighten.specs.Steps.{IsStep}
use Rattle.scenario_changes.specs.Problems.{Problem}
use Rattle.certs.specs.Verdicts.{AllRowsBelow}
use Rattle.certs.specs.Trees.{raised, cert_fits, is_live, stayers_hull, splits_inside, kept, end_levels}
use Rattle.certs.specs.declared.cert.Cert.{Cert}
use Rattle.certs.specs.declared.verdict.Verdict.{Verdict}
use Rattle.certs.specs.declared.level.Level.{Level}
use Rattle.bb_core.specs.Settlements.{Work, Settlement, IsLawful, place_of, recorded}
use Rattle.certs.specs.Trees.{of_live}
use Rattle.bb_core.specs.Coverage.{Slot, ReachesCaps}
use Rattle.open_pool.specs.declared.scratch.Scratch.{Scratch}

-- the steps and the rows of the vectors are the model's
pub record FitsModel (m : IntegerModel) (cert : Cert) : Type 0 where
  pub steps : All (IsStep m) cert.steps
  pub vectors : AllRowsBelow (length m.rows) cert.vectors

-- room for so many levels, and boxes of so many columns
pub record IsScratch (columns scenarios : ℕ) (a : Scratch) : Type 0 where
  pub room : scenarios ≤ vec_capacity a.raised
  pub replay : length a.replay ≡ columns
  pub hull : length a.hull ≡ columns

-- the box of each node has so many columns
abbrev pub AreWide : ℕ → List Slot → Type 0
AreWide columns slots = (n : ℕ) (t : Slot) → slice_get slots n ≡ Some t → length t.place.box ≡ columns

-- the certificate fits, and the verdicts raise the levels to these
pub record IsRaised (p : Problem) (w : Work) (cert : Cert) (verdicts : List Verdict) (rs : List (Option Level)) : Type 0 where
  pub fits : cert_fits p cert ≡ true
  pub raised_to : raised w.bounds cert p.scenarios (place_of w).levels verdicts ≡ Some rs

-- the split is that of the hull of the stayers' replays
pub record IsHullSplit (p : Problem) (box : Box) (cert : Cert) (stay : List ℕ) (column : ℕ) (v : ℤ) (left right : Box) : Type 0 where
  pub within : Box
  pub hull_is : stayers_hull p box cert stay ≡ Some within
  pub inside : splits_inside (Some within) column v ≡ true
  pub left_is : left ≡ below_cut within column v
  pub right_is : right ≡ above_cut within column v

-- the split is right, where the levels were raised to these
pub record IsBranched (p : Problem) (w : Work) (cert : Cert) (rs : List (Option Level)) (stay : List ℕ) (column : ℕ) (v : ℤ) (left right : Box) (left_levels right_levels : List Level) : Type 0 where
  pub live : list_all (is_live (place_of w).levels) stay ≡ true
  pub below : column < p.columns
  pub hull : IsHullSplit p w.bounds cert stay column v left right
  pub left_kept : of_live stay 0 left_levels ≡ kept stay 0 rs
  pub right_kept : of_live stay 0 right_levels ≡ kept stay 0 rs

-- lawful, and each dropped level reaches its cap
pub record Passes (p : Problem) (caps : List Level) (count : ℕ) (s : Settlement) : Type 0 where
  pub lawful : IsLawful p count s
  pub closes : ReachesCaps caps (end_levels p (place_of s.work) (recorded count s.cert s.verdicts s.outcome))
