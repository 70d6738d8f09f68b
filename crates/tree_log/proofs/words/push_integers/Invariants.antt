use Rattle.std.proofs.Common.{◌≡◌, ◌++◌, drop}
use Rattle.std.specs.Prelude.{map}
use Rattle.tree_log.specs.Spaced.{spaced}
use Rattle.num_text.specs.NumberText.{integer_text}
use Rattle.tree_log.proofs.words.push_integers.Given as goal

abbrev pub invariant-loop-number : goal.invariant-loop-number
invariant-loop-number l = l.fn.out.items ++ spaced (map integer_text l.numbers) ≡ l.out.items ++ spaced (map integer_text (drop l.number-index l.numbers))
