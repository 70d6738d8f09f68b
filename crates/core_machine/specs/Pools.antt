-- A pool as a part of the machine: its nodes, of which it doesn't know who holds them, and its caps.
use Rattle.std.specs.Prelude.{◌≡◌, ◌<◌, ℕ, List, length, map, slice_index_or}
use Rattle.scenario_changes.specs.Problems.{Problem}
use Rattle.certs.specs.Levels.{lesser_level}
use Rattle.certs.specs.declared.level.Level.{Level}
use Rattle.certs.specs.declared.level.Level.TheVariants.{Inf}
use Rattle.bb_core.specs.Settlements.{Settlement}
use Rattle.bb_core.specs.Coverage.{Slot, Mark, Closed, Open, Held}
use Rattle.bb_core.specs.Machine as machine
use Rattle.bb_core.specs.Machine.{State, Event, Allowed, after}
use Rattle.bb_core.specs.Interleavings.{IsFinished}
use Rattle.open_pool.specs.Marks.{claimed}
use Rattle.open_pool.specs.Pooled.{Pooled}
use Rattle.open_pool.specs.declared.pool.Claim.{Claim}
use Rattle.open_pool.specs.declared.pool.Claim.TheVariants.{Node, Wait, Done, Stopped}
use Rattle.open_pool.specs.declared.pool.Settled.{Settled}
use Rattle.open_pool.specs.declared.pool.Settled.TheVariants.{Closed as IsClosed, Split, Halted, Stray}

-- a node that someone holds is claimed
abbrev pub pool_mark : Mark → Mark
pool_mark Closed = Closed
pool_mark Open = Open
pool_mark (Held a) = claimed

abbrev pub pool_slot : Slot → Slot
pool_slot t = record t { mark = pool_mark t.mark }

abbrev pub pool_slots : List Slot → List Slot
pool_slots slots = map pool_slot slots

-- the pool has the problem, and the nodes and caps of the state
pub record IsPart (p : Problem) (q : Pooled) (st : State) : Type 0 where
  pub problem : q.problem ≡ p
  pub slots : q.slots ≡ pool_slots st.slots
  pub caps : q.caps ≡ st.caps

-- the event is allowed, and the pool is then a part of the state after it
pub record IsEvent (p : Problem) (st : State) (e : Event) (now : Pooled) : Type 0 where
  pub allowed : Allowed p st e
  pub part : IsPart p now (after p st e)

-- what a claim's answer is to the machine: a node is claimed, or nothing happens, and where the work is done no node is
-- open or held
abbrev pub IsClaimBy : Problem → State → ℕ → Pooled → Claim → Type 0
IsClaimBy p st a now (Node w) = IsEvent p st (machine.Claim a w.node) now
IsClaimBy p st a now Wait = IsPart p now st
IsClaimBy p st a now Done = IsPart p now st × IsFinished st.slots
IsClaimBy p st a now Stopped = IsPart p now st

-- what an answer to a settlement is to the machine: the settlement, or that its node is given back
abbrev pub answer_event : ℕ → Settlement → Settled → Event
answer_event a s IsClosed = machine.Settle a s
answer_event a s Split = machine.Settle a s
answer_event a s Halted = machine.GiveBack a
answer_event a s Stray = machine.GiveBack a

-- each cap is the lesser of what it was and another one's, of which there is none past the end
pub record AreLesser (was now others : List Level) : Type 0 where
  pub count : length now ≡ length was
  pub each : (k : ℕ) → k < length was → slice_index_or now k Inf ≡ lesser_level (slice_index_or was k Inf) (slice_index_or others k Inf)
