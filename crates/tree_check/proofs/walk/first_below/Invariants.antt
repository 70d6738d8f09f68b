use Rattle.std.proofs.Common.{◌≡◌, ◌<◌, ℕ, Some, None, slice_index_or}
use Rattle.scenario_changes.specs.Problems.{problem}
use Rattle.certs.specs.Trees.{end_levels}
use Rattle.certs.specs.declared.level.Level.{Level}
use Rattle.tree_check.specs.Checks.{Reaches}
use Rattle.tree_check.specs.Walks.{place_of}
use Rattle.tree_check.proofs.walk.first_below.Given as goal

abbrev pub invariant-loop-s : goal.invariant-loop-s
invariant-loop-s l = (j : ℕ) (e : Level) → j < l.s → slice_index_or (end_levels (problem l.problem) (place_of l.spot) l.node) j None ≡ Some e → Reaches l.answers j e
