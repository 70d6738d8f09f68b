use Rattle.tighten.specs.Engines.{IsLoaded, box_in}
use Rattle.dive.specs.Dives.{IsPart}
use Rattle.dive.proofs.diving.fix_all.Given as goal

abbrev pub invariant-loop-place : goal.invariant-loop-place
invariant-loop-place l = record {
  loaded : IsLoaded l.problem.model l.diver.engine;
  part : IsPart (box_in l.diver.engine) (box_in l.initial.diver.engine);
}
