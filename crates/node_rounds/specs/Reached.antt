-- Cuts that points reach.
use Rattle.std.specs.Prelude.{ℕ, ℤ, List, Option, None, IsTrue, slice_index_or}
use Rattle.int_model.specs.Programs.{value}
use Rattle.scenario_changes.specs.Problems.{Problem, program_at}
use Rattle.certs.specs.Levels.{level_le, cap_level}
use Rattle.certs.specs.declared.level.Level.TheVariants.{Value}

-- the cut of scenario k is at most the value of the point
abbrev pub IsReached : Problem → List (Option ℤ) → ℕ → List ℤ → Type 0
IsReached p cuts k x = IsTrue (level_le (cap_level (slice_index_or cuts k None)) (Value (value (program_at p k) x)))
