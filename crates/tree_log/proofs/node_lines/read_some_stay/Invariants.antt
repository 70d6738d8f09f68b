use Rattle.std.proofs.Common.{length}
use Rattle.tree_log.proofs.ReaderLemmas.{IsStay}
use Rattle.tree_log.proofs.node_lines.read_some_stay.Given as goal

abbrev pub invariant-loop-word : goal.invariant-loop-word
invariant-loop-word l = IsStay l.scenarios l.least l.stay l.words l.initial.words

abbrev pub decreases-loop-word : goal.decreases-loop-word
decreases-loop-word l = length l.words
