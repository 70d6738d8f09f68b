use Rattle.std.proofs.Common.{◌<◌, length, IfSome}
use Rattle.dive.specs.declared.improving.Repair.{Repair}
use Rattle.dive.proofs.improving.best_repair.Given as goal

abbrev pub invariant-loop-other : goal.invariant-loop-other
invariant-loop-other l = IfSome l.best (λ (r : Repair). r.column < length l.problem.model.columns)
