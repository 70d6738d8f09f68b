use Rattle.std.proofs.Common.{◌≡◌, ◌≤◌, ◌*◌, ◌^◌, ◌++◌, unsigned_abs}
use Rattle.scenario_changes.specs.Problems.{problem}
use Rattle.node_work.proofs.TotalLaws.{TotalSoFar}
use Rattle.node_work.proofs.multipliers.total_of.Given as goal

abbrev pub invariant-loop-s : goal.invariant-loop-s
invariant-loop-s l = record {
  whole : l.yielded ++ l.s-iterator ≡ l.fn.remaining.scenarios;
  so_far : TotalSoFar (problem l.problem) l.fn.remaining.scenarios l.fn.remaining.boxes.items l.vector l.k l.sum l.s-iterator;
  limit : unsigned_abs l.sum ≤ l.k * 2 ^ 115;
}
