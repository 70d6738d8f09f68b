use Rattle.std.proofs.Common.{arith}
use Rattle.scenario_changes.specs.Problems.{problem, program_at}
use Rattle.node_work.proofs.ChoiceLaws.{strongest_by}
use Rattle.node_work.proofs.verdicts.strongest.Goals as goal

pub returns : goal.returns
returns c = strongest_by (program_at (problem c.args.problem.now) c.args.s) c.args.vectors.now c.args.part.now c.shown_by.result c.in-Some.first c.shown_by-second.result c.stronger-best.result c.single_point.result c.stronger.result (omega (arith, c.len-count.ensures.value, c.len-count.ensures.limit)) c.in-Some.is c.shown_by.ensures c.shown_by-second.ensures c.stronger-best.ensures c.single_point.ensures c.stronger.ensures
