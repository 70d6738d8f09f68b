use Rattle.scenario_changes.specs.Problems.{problem}
use Rattle.tree_check.proofs.WalkLemmas.{root_is, root_is_wide}
use Rattle.tree_check.proofs.walk.root_spot.Goals as goal

pub returns-clause-wide : goal.returns-clause-wide
returns-clause-wide c = root_is_wide (problem c.args.problem.now) c.count.ensures.limits c.in_ok-root.field-0 c.full.result c.in_ok-start_levels.field-0 c.in_ok-root.ensures c.in_ok-start_levels.ensures

pub returns-clause-place : goal.returns-clause-place
returns-clause-place c = root_is (problem c.args.problem.now) c.in_ok-root.field-0 c.full.result c.in_ok-start_levels.field-0 c.count.result c.count.ensures.count c.in_ok-root.ensures c.full.ensures c.in_ok-start_levels.ensures
