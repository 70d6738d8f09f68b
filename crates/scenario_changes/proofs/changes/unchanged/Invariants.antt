use Rattle.std.proofs.Common.{◌≡◌, replicate}
use Rattle.scenario_changes.specs.Changes.{no_change}
use Rattle.scenario_changes.proofs.changes.unchanged.Given as goal

abbrev pub invariant-loop-made : goal.invariant-loop-made
invariant-loop-made l = l.scenarios.items ≡ replicate l.made (no_change l.columns l.rows)
