use Rattle.std.proofs.Common.{◌≡◌, ◌++◌, drop}
use Rattle.std.specs.Prelude.{flat_map}
use Rattle.tree_log.specs.LogText.{step_words}
use Rattle.tree_log.specs.Spaced.{spaced}
use Rattle.tree_log.proofs.certificates.push_step_words.Given as goal

abbrev pub invariant-loop-step : goal.invariant-loop-step
invariant-loop-step l = l.fn.out.items ++ flat_map (λ s. spaced (step_words s)) l.steps ≡ l.out.items ++ flat_map (λ s. spaced (step_words s)) (drop l.step-index l.steps)
