-- The first open node of each block of a pool's nodes.
use Rattle.std.specs.Prelude.{◌≡◌, ◌⊎◌, ◌<◌, ◌≤◌, ◌+◌, ◌*◌, ◌/◌, ℕ, List, Option, Some, None, IsTrue, false, slice_index_or}
use Rattle.certs.specs.Levels.{level_le}
use Rattle.certs.specs.declared.level.Level.{Level}
use Rattle.bb_core.specs.Coverage.{Slot, Open, slot_at}
use Rattle.open_pool.specs.Marks.{least_live}

-- the least live level of a node
abbrev pub least_at : List Slot → ℕ → Level
least_at slots n = least_live (slot_at slots n).place.levels

-- an open node of a range
pub record IsOpenIn (slots : List Slot) (start end n : ℕ) : Type 0 where
  pub from : start ≤ n
  pub below : n < end
  pub here : (slot_at slots n).mark ≡ Open

-- of these the one with the least live level, and of several such nodes the one with the least number
pub record IsFirst (slots : List Slot) (start end n : ℕ) : Type 0 where
  pub is_open : IsOpenIn slots start end n
  pub least : (m : ℕ) → IsOpenIn slots start end m → IsTrue (level_le (least_at slots n) (least_at slots m))
  pub first : (m : ℕ) → IsOpenIn slots start end m → m < n → level_le (least_at slots m) (least_at slots n) ≡ false

-- none where no node of the range is open
abbrev pub FirstIn : List Slot → ℕ → ℕ → Option ℕ → Type 0
FirstIn slots start end None = (m : ℕ) → IsOpenIn slots start end m → ⊥
FirstIn slots start end (Some n) = IsFirst slots start end n

-- the entry of a block is the first open one of its 128 nodes
abbrev pub IsRight : List Slot → List (Option ℕ) → ℕ → Type 0
IsRight slots firsts k = FirstIn slots (k * 128) (k * 128 + 128) (slice_index_or firsts k None)

abbrev pub AreFirsts : List Slot → List (Option ℕ) → Type 0
AreFirsts slots firsts = (k : ℕ) → IsRight slots firsts k

-- a block with neither the node nor one of the nodes of a range, whose entry stays
pub record Stays (node count end : ℕ) (before now : List (Option ℕ)) (k : ℕ) : Type 0 where
  pub same : slice_index_or now k None ≡ slice_index_or before k None
  pub node_apart : k ≡ node / 128 → ⊥
  pub range_apart : (n : ℕ) → count ≤ n → n < end → k ≡ n / 128 → ⊥

-- the entry of a block is right, or it stays
abbrev pub IsRefreshed : List Slot → ℕ → ℕ → ℕ → List (Option ℕ) → List (Option ℕ) → ℕ → Type 0
IsRefreshed slots node count end before now k = IsRight slots now k ⊎ Stays node count end before now k
