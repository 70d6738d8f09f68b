-- The box of a dive, and what the calls on it answer.
use Rattle.std.specs.Prelude.{◌≡◌, ℕ, Bool, true, false, List, length, Result, Ok, Err}
use Rattle.std.specs.declared.alloc.AllocError.{AllocError}
use Rattle.int_model.specs.Boxes.{Box}
use Rattle.tighten.specs.declared.engine.Engine.{Engine}
use Rattle.tighten.specs.Engines.{box_in, Follows}
use Rattle.dive.specs.Dives.{IsPart}

-- A box that is tightened is a part of the one before. After a conflict it is the box at the mark.
abbrev pub IsTightenedFrom : ℕ → Engine → Result Bool AllocError → Engine → Type 0
IsTightenedFrom mark before (Ok true) now = IsPart (box_in now) (box_in before)
IsTightenedFrom mark before (Ok false) now = (start : Engine) → length start.trail.items ≡ mark → Follows start before → box_in now ≡ box_in start
IsTightenedFrom mark before (Err _) now = Unit {0}

-- a try that succeeds leaves a part of the box, and one that fails leaves the box
abbrev pub IsTried : Box → Result Bool AllocError → Box → Type 0
IsTried before (Ok true) now = IsPart now before
IsTried before (Ok false) now = now ≡ before
IsTried before (Err _) now = Unit {0}
