-- Queues of rows.
use Rattle.std.specs.Prelude.{◌≡◌, ℕ, ◌<◌, ◌≤◌, ℤ, Bool, true, false, if◌then◌else◌, [], ◌∷◌, ◌++◌, length, replicate, slice_index_or, slice_set, Option, Some, None, Result, Ok, Err, All}
use Rattle.std.specs.declared.alloc.AllocError.{AllocError}
use Rattle.std.proofs.Common.{deque_capacity}
use Rattle.int_model.specs.Programs.{Terms}
use Rattle.tighten.specs.declared.row_queue.RowQueue.{RowQueue}

-- at most 1,000 rows, and room for each; what is queued is a row
pub record IsQueue (q : RowQueue) : Type 0 where
  pub few : length q.waits.items ≤ 1000
  pub places : All (λ (row : ℕ). row < length q.waits.items) q.rows.items
  pub room : length q.waits.items ≤ deque_capacity q.rows

-- no row waits
pub record IsIdle (q : RowQueue) : Type 0 where
  pub rows : q.rows.items ≡ []
  pub marks : q.waits.items ≡ replicate (length q.waits.items) false

abbrev pub waits : RowQueue → ℕ → Bool
waits q row = slice_index_or q.waits.items row false

-- the rows of these terms wait
abbrev pub AllWait : Terms → RowQueue → Type 0
AllWait terms q = All (λ (t : ℕ × ℤ). waits q t.0 ≡ true) terms

-- a row that waited still waits
abbrev pub StillWait : RowQueue → RowQueue → Type 0
StillWait before now = (row : ℕ) → waits before row ≡ true → waits now row ≡ true

-- the row is queued, behind the others where it didn't wait; after want of memory all is as before
abbrev pub IsAdded : ℕ → RowQueue → Result Unit AllocError → RowQueue → Type 0
IsAdded row before (Ok _) now =
    (now.rows.items ≡ (if waits before row then before.rows.items else before.rows.items ++ row ∷ [])) × (now.waits.items ≡ slice_set before.waits.items row true)
IsAdded row before (Err _) now = (now.rows.items ≡ before.rows.items) × (now.waits.items ≡ before.waits.items)

-- the first row of a queue leaves it and waits no more, where there is one
abbrev pub IsTaken : RowQueue → Option ℕ → RowQueue → Type 0
IsTaken before None now = (before.rows.items ≡ []) × (now.rows.items ≡ []) × (now.waits.items ≡ before.waits.items)
IsTaken before (Some row) now = (before.rows.items ≡ row ∷ now.rows.items) × (now.waits.items ≡ slice_set before.waits.items row false)
