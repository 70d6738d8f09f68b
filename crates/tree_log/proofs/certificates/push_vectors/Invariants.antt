use Rattle.std.proofs.Common.{◌≡◌, ◌++◌, drop}
use Rattle.std.specs.Prelude.{flat_map}
use Rattle.tree_log.specs.LogText.{vector_line}
use Rattle.tree_log.proofs.certificates.push_vectors.Given as goal

abbrev pub invariant-loop-k : goal.invariant-loop-k
invariant-loop-k l = l.fn.out.items ++ flat_map vector_line l.vectors ≡ l.out.items ++ flat_map vector_line (drop l.k l.vectors)
