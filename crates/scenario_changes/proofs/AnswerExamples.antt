-- Right answers of small scenarios.
use Rattle.std.specs.Prelude.{ℤ, pos, List, [], ◌∷◌, Some}
use Rattle.std.proofs.Common.{arith}
use Rattle.std.proofs.lemmas.Int.{ints}
use Rattle.int_model.specs.Boxes.{box_of}
use Rattle.int_model.specs.Programs.{Program}
use Rattle.scenario_changes.specs.Answers.{RightAnswer}
use Rattle.scenario_changes.specs.declared.answer.Answer.TheVariants.{Infeasible, Optimal, Limit}

-- min x, x from 2 to 9
abbrev pub least_two : Program
least_two = record { costs = pos 1 ∷ []; constant = pos 0; bounds = box_of (pos 2 ∷ []) (pos 9 ∷ []); rows = []; ends = [] }

-- the same with a low above its high
abbrev pub crossed : Program
crossed = record least_two { bounds = box_of (pos 2 ∷ []) (pos 1 ∷ []) }

crossed-infeasible : RightAnswer crossed Infeasible
crossed-infeasible [] f = f.within
crossed-infeasible (v ∷ x) f = absurd (omega (arith, ints, f.within.0, f.within.1))

-- an answer with a value has a point of that value, so 1 is no optimal value of the point 2
wrong-value : RightAnswer least_two (Optimal (pos 2 ∷ []) (pos 1)) → ⊥
wrong-value h = absurd (omega (arith, ints, h.0.1))

-- a bound may be the value of the best point only in an optimal answer
limit-below : (p : Program) (x : List ℤ) (v : ℤ) → RightAnswer p (Limit (Some (x, v)) v) → ⊥
limit-below p x v h = omega (arith, ints, h.1.1)
