use Rattle.std.proofs.Common.{refl, arith}
use Rattle.scenario_changes.specs.Problems.{problem}
use Rattle.tree_check.proofs.WalkLemmas.{begun_next}
use Rattle.tree_check.proofs.walk.table_of.Goals as goal

pub loop-preserved : goal.loop-preserved
loop-preserved c = begun_next (problem c.args.problem.now) c.loop.counter _ c.loop.table.items _ c.loop.invariant (omega arith) c.in_ok-push-2.ensures.items refl
