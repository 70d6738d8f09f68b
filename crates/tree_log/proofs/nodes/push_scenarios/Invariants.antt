use Rattle.std.proofs.Common.{◌≡◌, ◌∷◌, ◌++◌}
use Rattle.std.specs.Prelude.{decimal, flat_map}
use Rattle.tree_log.proofs.nodes.push_scenarios.Given as goal

abbrev pub invariant-loop-scenario : goal.invariant-loop-scenario
invariant-loop-scenario l = l.fn.out.items ++ flat_map (λ k. 32 ∷ decimal k) l.fn.scenarios ≡ l.out.items ++ flat_map (λ k. 32 ∷ decimal k) l.scenario-iterator
