use Rattle.std.proofs.Common.{◌≡◌, [], length}
use Rattle.tree_log.specs.LineWords.{verdicts_after}
use Rattle.tree_log.proofs.cert_lines.read_some_verdicts.Given as goal

abbrev pub invariant-loop-word : goal.invariant-loop-word
invariant-loop-word l = verdicts_after l.rows l.verdicts.items l.words ≡ verdicts_after l.rows [] l.initial.words

abbrev pub decreases-loop-word : goal.decreases-loop-word
decreases-loop-word l = length l.words
