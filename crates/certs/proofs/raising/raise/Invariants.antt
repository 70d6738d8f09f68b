use Rattle.std.proofs.Common.{◌≡◌, vec_capacity, length}
use Rattle.scenario_changes.specs.Problems.{problem}
use Rattle.certs.specs.Trees.{of_live}
use Rattle.certs.proofs.RaiseLaws.{SoFar}
use Rattle.certs.proofs.raising.raise.Given as goal

abbrev pub invariant-loop-k : goal.invariant-loop-k
invariant-loop-k l = record {
  so_far : SoFar l.bounds l.cert (problem l.problem).scenarios (of_live l.live 0 l.levels) l.verdicts l.k l.out.items l.rest;
  room : vec_capacity l.out ≡ vec_capacity l.initial.out;
  scratch : length l.scratch ≡ length l.problem.model.columns;
}
