-- What is proved of steps and replays.
use Rattle.std.specs.Prelude.{ℤ, List, IsSomeAnd}
use Rattle.int_model.specs.Boxes.{Box, InBox}
use Rattle.int_model.specs.Programs.{Program, Feasible}
use Rattle.tighten.specs.declared.step.Step.{Step}
use Rattle.tighten.specs.Replay.{replay, tightened}

-- a step keeps every feasible point of the box
abbrev pub StepKeeps : Type 0
StepKeeps = (p : Program) (step : Step) (box : Box) (x : List ℤ) → Feasible p x → InBox box x → IsSomeAnd (tightened p.rows p.ends step box) (λ t. InBox t x)

-- a replay keeps every feasible point of the box, so there is one where the box has such a point
abbrev pub ReplayKeeps : Type 0
ReplayKeeps = (p : Program) (steps : List Step) (box : Box) (x : List ℤ) → Feasible p x → InBox box x → IsSomeAnd (replay p steps box) (λ t. InBox t x)
