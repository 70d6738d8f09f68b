use Rattle.std.proofs.Common.{◌≡◌, drop}
use Rattle.std.specs.List.{list_all}
use Rattle.certs.specs.Trees.{vector_within}
use Rattle.certs.proofs.cert.vectors_fit.Given as goal

abbrev pub invariant-loop-k : goal.invariant-loop-k
invariant-loop-k l = list_all (vector_within l.rows) l.vectors ≡ list_all (vector_within l.rows) (drop l.k l.vectors)
