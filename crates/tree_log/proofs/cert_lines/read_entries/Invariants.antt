use Rattle.std.proofs.Common.{◌≡◌, [], length}
use Rattle.tree_log.specs.LineWords.{entries_after}
use Rattle.tree_log.proofs.cert_lines.read_entries.Given as goal

abbrev pub invariant-loop-row : goal.invariant-loop-row
invariant-loop-row l = entries_after l.rows l.entries.items l.words ≡ entries_after l.rows [] l.initial.words

abbrev pub decreases-loop-row : goal.decreases-loop-row
decreases-loop-row l = length l.words
