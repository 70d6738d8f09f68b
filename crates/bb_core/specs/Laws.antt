-- What is proved of coverage.
use Rattle.std.specs.Prelude.{◌≡◌, ℕ, List, [], ◌∷◌}
use Rattle.scenario_changes.specs.Problems.{Problem, AreWithin}
use Rattle.certs.specs.declared.level.Level.{Level}
use Rattle.bb_core.specs.Settlements.{Settlement}
use Rattle.bb_core.specs.Coverage.{Slot, Mark, Closed, Covers, MaySettle, NothingIsLost, LevelsAreBounds, Stands, marked_as, root_slot, settled}

-- coverage loses no feasible point
abbrev pub CoveredLosesNothing : Type 0
CoveredLosesNothing = (p : Problem) (slots : List Slot) (caps : List Level) → AreWithin p → Covers p slots caps → NothingIsLost p slots caps

-- the levels of a covered tree bound the values in its boxes
abbrev pub CoveredHasBounds : Type 0
CoveredHasBounds = (p : Problem) (slots : List Slot) (caps : List Level) → AreWithin p → Covers p slots caps → LevelsAreBounds p slots

-- a search starts with coverage, for all caps
abbrev pub RootIsCovered : Type 0
RootIsCovered = (p : Problem) (caps : List Level) → Covers p (root_slot p ∷ []) caps

-- a node that isn't closed gets another mark than closed
abbrev pub MarksKeepCoverage : Type 0
MarksKeepCoverage = (p : Problem) (slots : List Slot) (caps : List Level) (n : ℕ) (was mark : Mark) → Covers p slots caps → Stands slots n was → (was ≡ Closed → ⊥) → (mark ≡ Closed → ⊥) → Covers p (marked_as slots n mark) caps

-- a settlement that may be made
abbrev pub SettlingKeepsCoverage : Type 0
SettlingKeepsCoverage = (p : Problem) (slots : List Slot) (caps : List Level) (mark : Mark) (s : Settlement) → Covers p slots caps → (mark ≡ Closed → ⊥) → MaySettle p slots caps mark s → Covers p (settled slots s) caps
