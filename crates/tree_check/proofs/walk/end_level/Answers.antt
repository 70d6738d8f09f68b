use Rattle.std.proofs.Common.{◌∙◌, sym}
use Rattle.scenario_changes.specs.Problems.{problem}
use Rattle.tree_check.specs.Walks.{place_of}
use Rattle.tree_check.proofs.WalkLemmas.{end_stays, end_drops}
use Rattle.tree_check.proofs.walk.end_level.Goals as goal

pub returns-then-is_member : goal.returns-then-is_member
returns-then-is_member c = end_stays (problem c.args.problem.now) (place_of c.args.spot.now) c.args.node.now c.args.scratch.now c.args.s _ _ _ _ _ _ c.in-Split.is c.requires (sym c.if-is_member.true ∙ c.is_member.ensures)

pub returns-else-is_member : goal.returns-else-is_member
returns-else-is_member c = end_drops (problem c.args.problem.now) (place_of c.args.spot.now) c.args.node.now c.args.scratch.now c.args.s _ _ _ _ _ _ c.in-Split.is c.requires _ (sym c.if-is_member.false ∙ c.is_member.ensures) (rw c.deref-else-is_member.ensures.value at c.level_in-else-is_member.ensures)
