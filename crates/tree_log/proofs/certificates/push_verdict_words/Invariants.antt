use Rattle.std.proofs.Common.{◌≡◌, ◌∷◌, ◌++◌, drop}
use Rattle.std.specs.Prelude.{flat_map}
use Rattle.tree_log.specs.LogText.{verdict_word}
use Rattle.tree_log.proofs.certificates.push_verdict_words.Given as goal

abbrev pub invariant-loop-verdict : goal.invariant-loop-verdict
invariant-loop-verdict l = l.fn.out.items ++ flat_map (λ v. 32 ∷ verdict_word v) l.verdicts ≡ l.out.items ++ flat_map (λ v. 32 ∷ verdict_word v) (drop l.verdict-index l.verdicts)
