use Rattle.std.proofs.Common.{◌≡◌, [], length}
use Rattle.tree_log.specs.LineWords.{steps_after}
use Rattle.tree_log.proofs.cert_lines.read_counted_steps.Given as goal

abbrev pub invariant-loop-row : goal.invariant-loop-row
invariant-loop-row l = steps_after l.columns l.rows l.steps.items l.words ≡ steps_after l.columns l.rows [] l.initial.words

abbrev pub decreases-loop-row : goal.decreases-loop-row
decreases-loop-row l = length l.words
