use Rattle.std.proofs.Common.{◌≡◌, ◌++◌, length, true, false}
use Rattle.int_model.specs.Boxes.{is_single}
use Rattle.scenario_changes.specs.Problems.{problem}
use Rattle.certs.proofs.StayerLemmas.{HullSoFar}
use Rattle.node_work.proofs.stayers.hull_stayers.Given as goal

abbrev pub invariant-loop-s : goal.invariant-loop-s
invariant-loop-s l = record {
  whole : l.yielded ++ l.s-iterator ≡ l.fn.stay;
  so_far : HullSoFar (problem l.problem) l.bounds l.cert l.yielded l.is_begun l.hull;
  several : l.is_begun ≡ true → is_single l.hull ≡ false;
  hull : length l.hull ≡ length l.problem.model.columns;
  replay : length l.replay ≡ length l.problem.model.columns;
}
