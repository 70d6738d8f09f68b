use Rattle.std.proofs.Common.{◌∙◌}
use Rattle.std.specs.Arc.{arc_value}
use Rattle.scenario_changes.specs.Problems.{problem}
use Rattle.open_pool.proofs.StartLemmas.{root_is}
use Rattle.core_machine.proofs.slots.root_slot.Goals as goal

pub returns : goal.returns
returns c = c.open.ensures ∙ root_is (problem c.args.problem.now) (arc_value c.in_ok-bounds.bounds) c.full.result (arc_value c.in_ok-levels.levels) c.count-count.result c.count-count.ensures.count (c.in_ok-bounds.ensures.ok ∙ c.in_ok-root.ensures) c.full.ensures (c.in_ok-levels.ensures.ok ∙ c.in_ok-start_levels.ensures)
