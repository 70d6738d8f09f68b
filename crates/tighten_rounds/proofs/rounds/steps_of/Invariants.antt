use Rattle.std.proofs.Common.{All}
use Rattle.tighten.specs.Steps.{IsStep}
use Rattle.tighten_rounds.proofs.rounds.steps_of.Given as goal

abbrev pub invariant-loop-row : goal.invariant-loop-row
invariant-loop-row l = All (IsStep l.model) l.steps.items
