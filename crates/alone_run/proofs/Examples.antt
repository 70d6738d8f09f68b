-- Worked values of the definitions, each of which a neighbouring reading gets wrong.
use Rattle.std.specs.Prelude.{◌≡◌, zero, suc, pos, [], ◌∷◌, Some, refl}
use Rattle.std.proofs.Common.{ap, sym}
use Rattle.scenario_changes.specs.Problems.{Problem}
use Rattle.certs.specs.Trees.{Place}
use Rattle.certs.specs.Claims.{EndsFrom, claim_of}
use Rattle.certs.specs.declared.tree.Node.{Node}
use Rattle.certs.specs.declared.tree.Node.TheVariants.{Rest}
use Rattle.certs.specs.declared.level.Level.TheVariants.{Value}
use Rattle.bb_core.proofs.ListWrites.{some_same}
use Rattle.alone_run.specs.Runs.{IsLimit, ReachedFrom, point_of}

place : Place
place = record { box = []; levels = Some (Value (pos 3)) ∷ [] }

-- a node that records nothing need not reach the value, and yet it counts as an end
rest_is_left_out : (p : Problem) → ReachedFrom p ((Rest, place) ∷ []) 0 (Value (pos 5))
rest_is_left_out p zero node q l e rest g = absurd (rest (sym (ap (λ (z : Node × Place). z.0) (some_same e))))
rest_is_left_out p (suc n) node q l e rest g = absurd (cc)

rest_is_an_end : (p : Problem) → EndsFrom p ((Rest, place) ∷ []) 0 (Value (pos 5)) → ⊥
unfolding place
rest_is_an_end p h = let no = h 0 Rest place (Value (pos 3)) refl refl in absurd (cc)

-- a limit keeps the point that was found
limit_has_its_point : point_of (claim_of (Some (pos 1 ∷ [], pos 4)) (Value (pos 3))) ≡ Some (pos 1 ∷ [], pos 4)
limit_has_its_point = refl

limit_is_one : IsLimit (claim_of (Some (pos 1 ∷ [], pos 4)) (Value (pos 3)))
limit_is_one = tt

-- at its value the bound makes the point optimal
optimal_at_its_bound : IsLimit (claim_of (Some (pos 1 ∷ [], pos 3)) (Value (pos 3))) → ⊥
optimal_at_its_bound h = h
