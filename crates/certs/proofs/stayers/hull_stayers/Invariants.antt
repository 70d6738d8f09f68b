use Rattle.std.proofs.Common.{◌≡◌, ◌++◌, length}
use Rattle.scenario_changes.specs.Problems.{problem}
use Rattle.certs.proofs.StayerLemmas.{HullSoFar}
use Rattle.certs.proofs.stayers.hull_stayers.Given as goal

abbrev pub invariant-loop-s : goal.invariant-loop-s
invariant-loop-s l = record {
  whole : l.yielded ++ l.s-iterator ≡ l.fn.stay;
  so_far : HullSoFar (problem l.problem) l.bounds l.cert l.yielded l.is_begun l.hull;
  hull : length l.hull ≡ length l.problem.model.columns;
  replay : length l.replay ≡ length l.problem.model.columns;
}
