use Rattle.scenario_changes.specs.Problems.{problem}
use Rattle.tree_log.proofs.AcceptedLaws.{accepted_has_text}
use Rattle.tree_log.proofs.writer.write_log.Goals as goal

pub returns-clause-again : goal.returns-clause-again
returns-clause-again c = λ shown bounds few. accepted_has_text (problem c.args.problem.now) c.args.answers.now c.args.tree.now c.count-count.ensures.limits shown bounds (rw c.as_slice.ensures at c.keep_limits.ensures) few
