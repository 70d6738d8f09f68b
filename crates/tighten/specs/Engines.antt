-- The engine's box, the trail of its changes, and the steps that it takes.
use Rattle.std.specs.Prelude.{◌≡◌, ◌≢◌, ℕ, ◌<◌, ◌≤◌, ℤ, ◌≤ℤ◌, Bool, true, false, if◌then◌else◌, List, [], ◌∷◌, ◌++◌, length, replicate, take, slice_get, slice_index_or, slice_set, Option, Some, None, Result, Ok, Err, All, vec_capacity}
use Rattle.std.specs.declared.alloc.AllocError.{AllocError}
use Rattle.int_model.specs.Limits.{IsBound}
use Rattle.int_model.specs.Boxes.{Box, box_of, interval_at, is_empty}
use Rattle.int_model.specs.Programs.{Terms}
use Rattle.int_model.specs.Models.{IntegerModel}
use Rattle.int_model.specs.declared.model.Ends.{Ends}
use Rattle.tighten.specs.declared.engine.Change.{Change}
use Rattle.tighten.specs.declared.engine.Engine.{Engine}
use Rattle.tighten.specs.declared.step.RowEnd.{RowEnd}
use Rattle.tighten.specs.declared.step.Step.{Step}
use Rattle.tighten.specs.Cuts.{interval}
use Rattle.tighten.specs.Queues.{IsQueue}
use Rattle.tighten.specs.Replay.{left_of, tightened, tightened_by}
use Rattle.tighten.specs.Steps.{IsStep, rows_of}
use Rattle.tighten.specs.Sums.{AreLeast, AreGreatest, AreSpreads}

abbrev pub box_in : Engine → Box
box_in e = box_of e.low.items e.high.items

-- an interval for each column of the model, and sums for each row; there is room for 128 steps
pub record IsSized (m : IntegerModel) (e : Engine) : Type 0 where
  pub lows : length e.low.items ≡ length m.columns
  pub highs : length e.high.items ≡ length m.columns
  pub least : length e.least.items ≡ length m.rows
  pub most : length e.most.items ≡ length m.rows
  pub spread : length e.spread.items ≡ length m.rows
  pub queue : IsQueue e.queue
  pub waits : length e.queue.waits.items ≡ length m.rows
  pub few : length e.steps.items ≤ 128
  pub room : 128 ≤ vec_capacity e.steps

-- an interval that a column of the model had
pub record IsChange (m : IntegerModel) (c : Change) : Type 0 where
  pub column : c.column < length m.columns
  pub low : IsBound c.low
  pub high : IsBound c.high
  pub occupied : c.low ≤ℤ c.high

-- the box is within the limits and isn't empty, the sums are those of the model's rows over it, and no term's spread is
-- above its row's
pub record IsLoaded (m : IntegerModel) (e : Engine) : Type 0 where
  pub sized : IsSized m e
  pub lows : All IsBound e.low.items
  pub highs : All IsBound e.high.items
  pub occupied : is_empty (box_in e) ≡ false
  pub least : AreLeast (rows_of m) (box_in e) e.least.items
  pub most : AreGreatest (rows_of m) (box_in e) e.most.items
  pub spread : AreSpreads (rows_of m) (box_in e) e.spread.items
  pub trail : All (IsChange m) e.trail.items

-- ---- changes

-- the box before changes, which list the intervals that there were: the last change is taken back first
abbrev pub restored : List Change → Box → Box
restored [] box = box
restored (c ∷ changes) box = slice_set (restored changes box) c.column (interval c.low c.high)

-- the changes from one state to a later one are added to the trail, and lead back to the box of the first
pub record Follows (before now : Engine) : Type 0 where
  pub added : List Change
  pub trail : now.trail.items ≡ before.trail.items ++ added
  pub back : restored added (box_in now) ≡ box_in before

-- the box, the trail and the steps are as before
pub record Stays (before now : Engine) : Type 0 where
  pub bounds : box_in now ≡ box_in before
  pub trail : now.trail.items ≡ before.trail.items
  pub steps : now.steps.items ≡ before.steps.items

-- a column has got another interval, and the trail the one before
pub record Moves (j : ℕ) (low high : ℤ) (before now : Engine) : Type 0 where
  pub bounds : box_in now ≡ slice_set (box_in before) j (interval low high)
  pub trail : now.trail.items ≡ before.trail.items ++ record { column = j; low = (interval_at (box_in before) j).low; high = (interval_at (box_in before) j).high } ∷ []
  pub steps : now.steps.items ≡ before.steps.items

abbrev pub IsSet : ℕ → ℤ → ℤ → Engine → Result Unit AllocError → Engine → Type 0
IsSet j low high before (Ok _) now = Moves j low high before now
IsSet j low high before (Err _) now = Stays before now

-- ---- steps

-- there is a box, and the step doesn't leave it as it is
abbrev pub NarrowsAt : List Terms → List Ends → Step → Option Box → Type 0
NarrowsAt rows ends step None = ⊥
NarrowsAt rows ends step (Some box) = tightened rows ends step box ≢ Some box

-- each step changes the box that the steps before it leave, or leaves nothing of an interval
abbrev pub EachNarrows : List Terms → List Ends → List Step → Box → Type 0
EachNarrows rows ends steps box = (k : ℕ) (step : Step) → slice_get steps k ≡ Some step → NarrowsAt rows ends step (tightened_by rows ends (take k steps) box)

-- all but the steps is as before, and the step is one of them where there was room
pub record IsKept (step : Step) (before now : Engine) : Type 0 where
  pub lows : now.low ≡ before.low
  pub highs : now.high ≡ before.high
  pub least : now.least ≡ before.least
  pub most : now.most ≡ before.most
  pub spread : now.spread ≡ before.spread
  pub queue : now.queue ≡ before.queue
  pub trail : now.trail ≡ before.trail
  pub steps : now.steps.items ≡ take 128 (before.steps.items ++ step ∷ [])
  pub room : 128 ≤ vec_capacity now.steps

-- steps that narrow the box one after another lead from one state to the next. Where an interval is left without
-- numbers, the last step does that, and the box is as before it. The first 128 steps are kept
pub record Tightens (m : IntegerModel) (ends : List Ends) (before : Engine) (is_occupied : Bool) (now : Engine) : Type 0 where
  pub taken : List Step
  pub are_steps : All (IsStep m) taken
  pub narrows : EachNarrows (rows_of m) ends taken (box_in before)
  pub leads : tightened_by (rows_of m) ends taken (box_in before) ≡ (if is_occupied then Some (box_in now) else None)
  pub kept : now.steps.items ≡ take 128 (before.steps.items ++ taken)
  pub follows : Follows before now
  pub count : length follows.added ≤ length taken

-- want of memory comes after some of the steps
abbrev pub IsTightened : IntegerModel → List Ends → Engine → Result Bool AllocError → Engine → Type 0
IsTightened m ends before (Ok is_occupied) now = Tightens m ends before is_occupied now
IsTightened m ends before (Err _) now = Tightens m ends before true now

-- ---- steps that change nothing

-- a step leaves the interval of its column as it is
abbrev pub Leaves : List Terms → List Ends → Step → Box → Type 0
Leaves rows ends step box = left_of rows ends step box ≡ interval_at box step.column

-- both ends of a row leave the interval of column j as it is, and those of each column
abbrev pub ColumnStays : List Terms → List Ends → ℕ → ℕ → Box → Type 0
ColumnStays rows ends i j box = (side : RowEnd) → Leaves rows ends (record { row = i; column = j; side = side }) box

abbrev pub RowStays : List Terms → List Ends → ℕ → Box → Type 0
RowStays rows ends i box = (j : ℕ) → ColumnStays rows ends i j box

-- where no memory was wanting, no interval became empty and none was changed, the queue is as before, and P holds
abbrev pub IsStill : Type 0 → Engine → Result Bool AllocError → Engine → Type 0
IsStill P before (Ok true) now = length now.trail.items ≡ length before.trail.items → P × (now.queue ≡ before.queue)
IsStill P before (Ok false) now = Unit {0}
IsStill P before (Err _) now = Unit {0}

-- all rows are queued, the first one first
pub record IsFresh (m : IntegerModel) (e : Engine) : Type 0 where
  pub count : length e.queue.rows.items ≡ length m.rows
  pub order : (k : ℕ) → k < length m.rows → slice_index_or e.queue.rows.items k 0 ≡ k
  pub marks : e.queue.waits.items ≡ replicate (length m.rows) true

-- every step leaves the box as it is
abbrev pub IsSettled : IntegerModel → List Ends → Box → Type 0
IsSettled m ends box = (step : Step) → IsStep m step → tightened (rows_of m) ends step box ≡ Some box

-- where no memory was wanting, no interval became empty and none was changed, every step leaves the box as it is
abbrev pub IsAtRest : IntegerModel → List Ends → Engine → Result Bool AllocError → Engine → Type 0
IsAtRest m ends before (Ok true) now = length now.trail.items ≡ length before.trail.items → IsSettled m ends (box_in before)
IsAtRest m ends before (Ok false) now = Unit {0}
IsAtRest m ends before (Err _) now = Unit {0}

-- ---- proposals

-- the old steps, and after them steps of the model, of which each narrows the box; 128 in all
pub record Proposes (m : IntegerModel) (ends : List Ends) (box : Box) (old new : List Step) : Type 0 where
  pub added : List Step
  pub extends : new ≡ old ++ added
  pub are_steps : All (IsStep m) added
  pub narrows : EachNarrows (rows_of m) ends added box
  pub few : length new ≤ 128

-- after want of memory the steps are the old ones
abbrev pub IsProposed : IntegerModel → List Ends → Box → List Step → Result Unit AllocError → List Step → Type 0
IsProposed m ends box old (Ok _) new = Proposes m ends box old new
IsProposed m ends box old (Err _) new = new ≡ old
