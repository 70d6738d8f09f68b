use Rattle.std.proofs.Common.{◌≡◌, ◌++◌, drop}
use Rattle.std.specs.Prelude.{flat_map}
use Rattle.tree_log.specs.LogText.{claim_line}
use Rattle.tree_log.proofs.claims.push_claims.Given as goal

abbrev pub invariant-loop-answer : goal.invariant-loop-answer
invariant-loop-answer l = l.fn.out.items ++ flat_map (claim_line) l.answers ≡ l.out.items ++ flat_map (claim_line) (drop l.answer-index l.answers)
