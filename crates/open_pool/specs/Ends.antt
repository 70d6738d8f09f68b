-- The least level over the ends, of closed nodes and of the others.
use Rattle.std.specs.Prelude.{◌≡◌, ◌<◌, length, ℕ, Bool, true, false, List, [], ◌∷◌, Option, None, slice_index_or, if◌then◌else◌}
use Rattle.scenario_changes.specs.Problems.{Problem}
use Rattle.certs.specs.Trees.{end_levels}
use Rattle.bb_core.specs.Settlements.{Settlement, place_of, recorded}
use Rattle.bb_core.specs.Coverage.{Slot, Mark, Closed, Open, Held}
use Rattle.certs.specs.declared.level.Level.{Level}
use Rattle.certs.specs.declared.level.Level.TheVariants.{Inf}
use Rattle.open_pool.specs.Marks.{lesser_than}

abbrev pub is_closed : Mark → Bool
is_closed Closed = true
is_closed Open = false
is_closed (Held a) = false

-- the level of a closed node's end, and the level of one that waits
abbrev pub closed_level : Problem → ℕ → Slot → Option Level
closed_level p k t = if is_closed t.mark then slice_index_or (end_levels p t.place t.node) k None else None

abbrev pub waiting_level : ℕ → Slot → Option Level
waiting_level k t = if is_closed t.mark then None else slice_index_or t.place.levels k None

abbrev pub closed_bound : Problem → ℕ → List Slot → Level
closed_bound p k [] = Inf
closed_bound p k (t ∷ slots) = lesser_than (closed_level p k t) (closed_bound p k slots)

abbrev pub waiting_bound : ℕ → List Slot → Level
waiting_bound k [] = Inf
waiting_bound k (t ∷ slots) = lesser_than (waiting_level k t) (waiting_bound k slots)

-- the levels of the ends that a settlement closes
abbrev pub ended : Problem → ℕ → Settlement → List (Option Level)
ended p count s = end_levels p (place_of s.work) (recorded count s.cert s.verdicts s.outcome)

-- the least levels over closed ends
abbrev pub AreEnds : Problem → List Slot → List Level → Type 0
AreEnds p slots ends = (k : ℕ) → k < length p.scenarios → slice_index_or ends k Inf ≡ closed_bound p k slots
