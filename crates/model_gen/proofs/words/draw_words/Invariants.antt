use Rattle.std.proofs.Common.{◌≡◌, ◌++◌, ◌-◌}
use Rattle.rand_core.specs.Steps.{first_words}
use Rattle.rand_pcg.specs.Pcg.{pcg32}
use Rattle.model_gen.specs.Draws.{words_of}
use Rattle.model_gen.proofs.words.draw_words.Given as goal

abbrev pub invariant-loop-k : goal.invariant-loop-k
invariant-loop-k l = words_of l.seed l.count ≡ l.words.items ++ first_words pcg32 (l.count - l.k) l.generator
