-- The steps of a run.
use Rattle.std.specs.Prelude.{◌≡◌, ◌⊎◌, ◌<◌, ◌≤◌, ◌+◌, ◌-◌, ◌*◌, ℕ, ℤ, List, Option, Some, IfSome, length, slice_get, slice_index_or}
use Rattle.scenario_changes.specs.Problems.{Problem, Scenarios}
use Rattle.scenario_changes.specs.Problems as problems
use Rattle.scenario_changes.specs.declared.answer.Answer.{Answer}
use Rattle.certs.specs.Levels.{cap_level, lesser_level}
use Rattle.certs.specs.Claims.{bound_of, claim_of}
use Rattle.certs.specs.declared.level.Level.{Level}
use Rattle.certs.specs.declared.level.Level.TheVariants.{Inf}
use Rattle.bb_core.specs.Coverage.{Slot, Closed, placed_of}
use Rattle.atomic_table.specs.Seated.{TableId}
use Rattle.incumbent_words.specs.Codes.{code_of, IsValue}
use Rattle.incumbent_words.specs.Rule.{code_at, HasAll}
use Rattle.finder.specs.Found.{Found}
use Rattle.open_pool.specs.Marks.{claimed}
use Rattle.open_pool.specs.Pooled.{Pooled, HasNone, IsFull, IsStopped, count_open}
use Rattle.alone_run.specs.Runs.{AreAbove, best_of}

-- a pool and a finder that a step may begin with: for one problem, with no claimed node, caps of at least the finder's best
-- values, and a finder that knows all words
pub record IsReady (problem : Scenarios) (table : TableId) (q : Pooled) (f : Found) : Type 0 where
  pub pool : q.problem ≡ problems.problem problem
  pub free : HasNone q.slots claimed
  pub caps : AreAbove f q.caps
  pub finder : f.problem ≡ problem
  pub table_is : f.seat.table ≡ table
  pub all : HasAll f.seat.view

-- each node that may still be made counts twice, and each open one once
abbrev pub weight : Pooled → ℕ
weight q = 2 * (q.nodes - length q.slots) + count_open q.slots

abbrev pub AreClosed : List Slot → Type 0
AreClosed slots = (n : ℕ) (t : Slot) → slice_get slots n ≡ Some t → t.mark ≡ Closed

-- a node was settled
pub record GoesOn (before now : Pooled) : Type 0 where
  pub nodes : now.nodes ≡ before.nodes
  pub grown : length before.slots ≤ length now.slots
  pub stopped : now.stopped ≡ before.stopped
  pub halted : now.halted ≡ before.halted
  pub less : weight now < weight before

-- each node is closed, or the pool was stopped before, or there is no room for two more nodes
pub record IsOver (before now : Pooled) : Type 0 where
  pub nodes : now.nodes ≡ before.nodes
  pub grown : length before.slots ≤ length now.slots
  pub over : AreClosed now.slots ⊎ (IsStopped before ⊎ IsFull now.problem now.nodes (length now.slots))

-- the cap becomes the lesser of itself and the value of this code
pub record IsLowered (before now : Level) (code : ℕ) : Type 0 where
  pub value : Option ℤ
  pub value_is : code_of value ≡ code
  pub limit : IfSome value IsValue
  pub lesser : now ≡ lesser_level before (cap_level value)

-- each cap is lowered by the code of its scenario
pub record AreLowered (before now : List Level) (codes : List ℕ) : Type 0 where
  pub count : length now ≡ length before
  pub each : (k : ℕ) → k < length before → IsLowered (slice_index_or before k Inf) (slice_index_or now k Inf) (code_at codes k)

-- an answer for each scenario: what the finder's best point and the least level over the ends allow
pub record AreClaims (p : Problem) (q : Pooled) (f : Found) (answers : List Answer) : Type 0 where
  pub count : length answers ≡ length p.scenarios
  pub each : (k : ℕ) (a : Answer) → slice_get answers k ≡ Some a → a ≡ claim_of (best_of f k) (bound_of p (placed_of q.slots) k)
