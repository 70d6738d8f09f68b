-- The list of one or two vectors.
use Rattle.std.specs.Prelude.{◌≡◌, ℕ, List, [], ◌∷◌, ◌++◌, Option, Some, None, IfSome, refl}
use Rattle.std.proofs.Common.{arith, sym, ap, ◌∙◌, subst}
use Rattle.int_model.specs.Boxes.{Box}
use Rattle.dual_bounds.specs.Vectors.{Multipliers, RowsBelow}
use Rattle.scenario_changes.specs.Problems.{Problem}
use Rattle.node_work.specs.Probes.{IsAscent}
use Rattle.node_work.specs.Choices.{AreBounding}

module _ (p : Problem) (rows : ℕ) (live : List ℕ) (boxes : List Box) (v : Multipliers) (below : RowsBelow rows v.entries) (ascent : IsAscent p live boxes v) where
  one : AreBounding p rows live boxes (v ∷ [])
  one = record { vector = v; first = refl; ascent = ascent; rows_below = (below, tt); few = omega arith }

  two : (w : Multipliers) → RowsBelow rows w.entries → AreBounding p rows live boxes (v ∷ w ∷ [])
  two w h = record { vector = v; first = refl; ascent = ascent; rows_below = (below, (h, tt)); few = omega arith }

  pub bounding : (old new : List Multipliers) (more : Option Multipliers) → old ≡ v ∷ [] → IfSome more (λ w. RowsBelow rows w.entries) → (more ≡ None → new ≡ old) → IfSome more (λ w. new ≡ old ++ w ∷ []) → AreBounding p rows live boxes new
  bounding old new None e h none some = subst (AreBounding p rows live boxes) (sym (none refl ∙ e)) one
  bounding old new (Some w) e h none some = subst (AreBounding p rows live boxes) (sym (some ∙ ap (λ (vs : List Multipliers). vs ++ w ∷ []) e)) (two w h)
