use Rattle.std.proofs.Common.{length}
use Rattle.tighten.specs.Engines.{IsLoaded, box_in}
use Rattle.dive.specs.Dives.{IsPart}
use Rattle.dive.specs.Plans.{IsPlan}
use Rattle.dive.proofs.diving.descend.Given as goal

abbrev pub invariant-loop : goal.invariant-loop
invariant-loop l = record {
  loaded : IsLoaded l.problem.model l.diver.engine;
  part : IsPart (box_in l.diver.engine) l.bounds;
  plan : IsPlan (length l.problem.model.columns) l.plan;
}
