-- A pool as contracts see it, and what its calls do.
use Rattle.std.specs.Prelude.{◌≡◌, ◌<◌, ◌+◌, ◌*◌, ℕ, Bool, false, true, List, [], ◌∷◌, length, replicate, slice_get, Some, IsTrue, if◌then◌else◌, map}
use Rattle.int_model.specs.Boxes.{volume}
use Rattle.scenario_changes.specs.Problems.{Problem, root_box}
use Rattle.certs.specs.Levels.{level_le}
use Rattle.certs.specs.declared.tree.Node.{Node}
use Rattle.certs.specs.declared.level.Level.{Level}
use Rattle.certs.specs.declared.level.Level.TheVariants.{Inf}
use Rattle.bb_core.specs.Coverage.{Slot, Mark, Closed, Open, Held, Stands, root_slot, slot_at, marked_as}
use Rattle.open_pool.specs.Marks.{is_held_by, least_live}

-- the problem, its nodes with their places and marks, a cap for each scenario (Inf where there is none), how many nodes
-- there may be, whether the pool is stopped, and whether a settlement halted it
pub record Pooled : Type 0 where
  pub problem : Problem
  pub slots : List Slot
  pub caps : List Level
  pub nodes : ℕ
  pub stopped : Bool
  pub halted : Bool

-- one open node: the root, and no caps
abbrev pub begun : Problem → ℕ → Pooled
begun p nodes = record {
  problem = p;
  slots = root_slot p ∷ [];
  caps = replicate (length p.scenarios) Inf;
  nodes = nodes;
  stopped = false;
  halted = false;
}

-- So many nodes leave no room for two more beside those that are there, and a tree over the points of the root box can
-- have more of them.
pub record IsFull (p : Problem) (nodes count : ℕ) : Type 0 where
  pub places : nodes < count + 2
  pub points : nodes + 1 < 2 * volume (root_box p.scenarios)

-- the pool was stopped, and not for want of room
pub record IsStopped (q : Pooled) : Type 0 where
  pub stopped : q.stopped ≡ true
  pub halted : q.halted ≡ false

-- no node has this mark
abbrev pub HasNone : List Slot → Mark → Type 0
HasNone slots mark = (n : ℕ) (t : Slot) → slice_get slots n ≡ Some t → t.mark ≡ mark → ⊥

-- the open node with the least live level, and of these the one with the least number
pub record IsNext (slots : List Slot) (n : ℕ) : Type 0 where
  pub open_here : Stands slots n Open
  pub least : (m : ℕ) (t : Slot) → slice_get slots m ≡ Some t → t.mark ≡ Open → IsTrue (level_le (least_live open_here.slot.place.levels) (least_live t.place.levels))
  pub first : (m : ℕ) (t : Slot) → slice_get slots m ≡ Some t → t.mark ≡ Open → m < n → level_le (least_live t.place.levels) (least_live open_here.slot.place.levels) ≡ false

-- whether the node is claimed; it is open again where it was
abbrev pub is_claimed : List Slot → ℕ → Bool
is_claimed slots n = is_held_by 0 (slot_at slots n).mark

abbrev pub reopened : List Slot → ℕ → List Slot
reopened slots n = if is_claimed slots n then marked_as slots n Open else slots

abbrev pub is_open : Mark → Bool
is_open Closed = false
is_open Open = true
is_open (Held a) = false

-- what the nodes record
abbrev pub nodes_of : List Slot → List Node
nodes_of slots = map (λ (t : Slot). t.node) slots

-- how many nodes have a mark of this kind
abbrev pub count_open : List Slot → ℕ
count_open [] = 0
count_open (t ∷ slots) = (if is_open t.mark then 1 else 0) + count_open slots

abbrev pub count_claimed : List Slot → ℕ
count_claimed [] = 0
count_claimed (t ∷ slots) = (if is_held_by 0 t.mark then 1 else 0) + count_claimed slots
