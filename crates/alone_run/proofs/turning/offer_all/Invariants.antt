use Rattle.std.proofs.Common.{length}
use Rattle.scenario_changes.specs.Problems.{problem}
use Rattle.alone_run.specs.Turns.{IsNoWorse, AreOffered, ArePointsBelow}
use Rattle.alone_run.proofs.turning.offer_all.Given as goal

abbrev pub invariant-loop-s : goal.invariant-loop-s
invariant-loop-s l = record {
  finder : IsNoWorse l.initial.finder l.finder;
  offered : AreOffered l.finder l.offered.items;
  points : ArePointsBelow (length (problem l.problem).scenarios) l.yielded l.offered.items;
}
