-- A search tree in the making: nodes that are closed, open or held, caps on the values that are still wanted, and when no
-- better point is lost.
use Rattle.std.specs.Prelude.{◌≡◌, ℕ, ℤ, List, [], ◌∷◌, ◌++◌, length, map, slice_get, slice_index_or, slice_set, Option, Some, None, IsTrue, ◌⊎◌}
use Rattle.int_model.specs.Boxes.{Box, InBox}
use Rattle.int_model.specs.Programs.{Program, Feasible, value}
use Rattle.scenario_changes.specs.Problems.{Problem}
use Rattle.certs.specs.Levels.{level_le, AtMost}
use Rattle.certs.specs.Trees.{Place, root_place, end_levels, IsTree}
use Rattle.certs.specs.declared.tree.Node.{Node}
use Rattle.certs.specs.declared.tree.Node.TheVariants.{Rest}
use Rattle.certs.specs.declared.level.Level.{Level}
use Rattle.certs.specs.declared.level.Level.TheVariants.{Inf}
use Rattle.bb_core.specs.Settlements.{Settlement, Outcome, Close, Branch, IsLawful, place_of, recorded}
use Rattle.certs.specs.Trees.{of_live}

-- who holds a node is a number
pub data Mark : Type 0 where
  Closed : Mark
  Open : Mark
  Held : ℕ → Mark

-- a node, its place, and whether it is closed, open or held
pub record Slot : Type 0 where
  pub node : Node
  pub place : Place
  pub mark : Mark

abbrev pub placed_of : List Slot → List (Node × Place)
placed_of slots = map (λ (t : Slot). (t.node, t.place)) slots

-- past the end a closed node without a place
abbrev pub slot_at : List Slot → ℕ → Slot
slot_at slots n = slice_index_or slots n (record { node = Rest; place = record { box = []; levels = [] }; mark = Closed })

-- node n has this mark
pub record Stands (slots : List Slot) (n : ℕ) (mark : Mark) : Type 0 where
  pub slot : Slot
  pub found : slice_get slots n ≡ Some slot
  pub marked : slot.mark ≡ mark

-- ---- changes

abbrev pub marked_as : List Slot → ℕ → Mark → List Slot
marked_as slots n mark = slice_set slots n (record (slot_at slots n) { mark = mark })

-- an open node, of which nothing is recorded
abbrev pub open_at : Box → List (Option Level) → Slot
open_at box levels = record { node = Rest; place = record { box = box; levels = levels }; mark = Open }

-- where a search starts
abbrev pub root_slot : Problem → Slot
root_slot p = record { node = Rest; place = root_place p; mark = Open }

abbrev pub new_slots : Outcome → List Slot
new_slots Close = []
new_slots (Branch stay column v left right left_levels right_levels) = open_at left (of_live stay 0 left_levels) ∷ open_at right (of_live stay 0 right_levels) ∷ []

-- the node of the settlement is closed, and its children are open at the end
abbrev pub settled : List Slot → Settlement → List Slot
settled slots s = slice_set slots s.work.node (record { node = recorded (length slots) s.cert s.verdicts s.outcome; place = place_of s.work; mark = Closed }) ++ new_slots s.outcome

-- ---- coverage

-- each level is at least the cap of its scenario, of which there is none past the end
abbrev pub ReachesCaps : List Level → List (Option Level) → Type 0
ReachesCaps caps levels = (k : ℕ) (l : Level) → slice_index_or levels k None ≡ Some l → IsTrue (level_le (slice_index_or caps k Inf) l)

-- the nodes are a tree, those that aren't closed record nothing, and the ends at closed ones reach the caps
pub record Covers (p : Problem) (slots : List Slot) (caps : List Level) : Type 0 where
  pub tree : IsTree p (placed_of slots)
  pub unsettled : (n : ℕ) (t : Slot) → slice_get slots n ≡ Some t → (t.mark ≡ Closed → ⊥) → t.node ≡ Rest
  pub closed : (n : ℕ) (t : Slot) → slice_get slots n ≡ Some t → t.mark ≡ Closed → ReachesCaps caps (end_levels p t.place t.node)

-- the settlement is lawful, for a node with this mark and its place, and the ends that it closes reach the caps
pub record MaySettle (p : Problem) (slots : List Slot) (caps : List Level) (mark : Mark) (s : Settlement) : Type 0 where
  pub held : Stands slots s.work.node mark
  pub its_work : held.slot.place ≡ place_of s.work
  pub lawful : IsLawful p (length slots) s
  pub closes : ReachesCaps caps (end_levels p (place_of s.work) (recorded (length slots) s.cert s.verdicts s.outcome))

-- x lies in the box of a node that isn't closed, where scenario k is live
pub record LiesInWaiting (slots : List Slot) (k : ℕ) (x : List ℤ) : Type 0 where
  pub n : ℕ
  pub slot : Slot
  pub level : Level
  pub found : slice_get slots n ≡ Some slot
  pub unsettled : slot.mark ≡ Closed → ⊥
  pub live : slice_index_or slot.place.levels k None ≡ Some level
  pub inside : InBox slot.place.box x

-- every feasible point of a scenario has at least its cap as value, or lies in a box that isn't closed
abbrev pub NothingIsLost : Problem → List Slot → List Level → Type 0
NothingIsLost p slots caps = (k : ℕ) (s : Program) (x : List ℤ) → slice_get p.scenarios k ≡ Some s → Feasible s x → AtMost (slice_index_or caps k Inf) (value s x) ⊎ LiesInWaiting slots k x

-- a scenario's level at a node is at most the value of each of its feasible points in the node's box
abbrev pub LevelsAreBounds : Problem → List Slot → Type 0
LevelsAreBounds p slots = (k : ℕ) (s : Program) (x : List ℤ) → slice_get p.scenarios k ≡ Some s → Feasible s x → (n : ℕ) (t : Slot) → slice_get slots n ≡ Some t → InBox t.place.box x → (l : Level) → slice_index_or t.place.levels k None ≡ Some l → AtMost l (value s x)
