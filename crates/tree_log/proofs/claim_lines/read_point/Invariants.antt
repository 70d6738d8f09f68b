use Rattle.std.proofs.Common.{◌≡◌, [], length}
use Rattle.tree_log.specs.LineWords.{integers_after}
use Rattle.tree_log.proofs.claim_lines.read_point.Given as goal

abbrev pub invariant-loop-word : goal.invariant-loop-word
invariant-loop-word l = integers_after 1000000 l.numbers.items l.words ≡ integers_after 1000000 [] l.initial.words

abbrev pub decreases-loop-word : goal.decreases-loop-word
decreases-loop-word l = length l.words
