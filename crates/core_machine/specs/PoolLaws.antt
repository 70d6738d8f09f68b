-- What is proved of a pool as a part of the machine: its calls are events.
use Rattle.std.specs.Prelude.{◌≡◌, ℕ, ◌<◌, ◌≤◌, List, length, slice_get, Some}
use Rattle.int_model.specs.Programs.{Program}
use Rattle.scenario_changes.specs.Problems.{Problem, AreWithin}
use Rattle.certs.specs.declared.level.Level.{Level}
use Rattle.bb_core.specs.Settlements.{Settlement}
use Rattle.bb_core.specs.Coverage.{Slot, Held, Stands, MaySettle}
use Rattle.bb_core.specs.Machine.{State, Note, GiveBack, HoldsNone, Reached, begin, view_at, word_at, lesser_each}
use Rattle.bb_core.specs.Interleavings.{HoldsOneEach, IsOptimum}
use Rattle.open_pool.specs.Marks.{claimed}
use Rattle.open_pool.specs.Pooled.{Pooled, begun, reopened}
use Rattle.open_pool.specs.Claims.{IsClaim, IsSettled}
use Rattle.open_pool.specs.declared.pool.Claim.{Claim}
use Rattle.open_pool.specs.declared.pool.Claim.TheVariants.{Done}
use Rattle.open_pool.specs.declared.pool.Settled.{Settled}
use Rattle.core_machine.specs.Pools.{IsPart, IsEvent, IsClaimBy, AreLesser, answer_event, pool_slots}

abbrev pub PoolsBeginAsParts : Type 0
PoolsBeginAsParts = (p : Problem) (nodes actors : ℕ) → IsPart p (begun p nodes) (begin p actors)

-- an actor who holds none claims
abbrev pub ClaimsAreEvents : Type 0
ClaimsAreEvents = (p : Problem) (st : State) (a : ℕ) (was now : Pooled) (c : Claim) → IsPart p was st → a < length st.views → HoldsNone a st.slots → IsClaim was now c → IsClaimBy p st a now c

-- an actor's settlement of the node that it holds may be made exactly where the pool may make it
abbrev pub SettlementsAreJudgedAlike : Type 0
SettlementsAreJudgedAlike = (p : Problem) (slots : List Slot) (caps : List Level) (a : ℕ) (s : Settlement) → Stands slots s.work.node (Held a) → (MaySettle p slots caps (Held a) s → MaySettle p (pool_slots slots) caps claimed s) × (MaySettle p (pool_slots slots) caps claimed s → MaySettle p slots caps (Held a) s)

-- an actor settles the node that it holds
abbrev pub SettlementsAreEvents : Type 0
SettlementsAreEvents = (p : Problem) (st : State) (a : ℕ) (was now : Pooled) (s : Settlement) (r : Settled) → IsPart p was st → was.nodes ≤ 100001 → a < length st.views → HoldsOneEach st.slots → Stands st.slots s.work.node (Held a) → IsSettled was s now r → IsEvent p st (answer_event a s r) now

-- an actor's node is given back
abbrev pub GiveBacksAreEvents : Type 0
GiveBacksAreEvents = (p : Problem) (st : State) (a n : ℕ) (was now : Pooled) → IsPart p was st → a < length st.views → HoldsOneEach st.slots → Stands st.slots n (Held a) → now ≡ record was { slots = reopened was.slots n } → IsEvent p st (GiveBack a) now

-- a node that nobody holds isn't opened by giving it back, which is no event
abbrev pub OtherGiveBacksAreNone : Type 0
OtherGiveBacksAreNone = (p : Problem) (st : State) (n : ℕ) (was now : Pooled) → IsPart p was st → ((a : ℕ) → Stands st.slots n (Held a) → ⊥) → now ≡ record was { slots = reopened was.slots n } → IsPart p now st

-- the caps become the lesser of themselves and an actor's, all at once
abbrev pub NotesAreEvents : Type 0
NotesAreEvents = (p : Problem) (st : State) (a : ℕ) (was now : Pooled) → IsPart p was st → a < length st.views → now ≡ record was { caps = lesser_each was.caps (view_at st a) } → IsEvent p st (Note a) now

-- or place by place
abbrev pub LoweredCapsAreNotes : Type 0
LoweredCapsAreNotes = (p : Problem) (st : State) (a : ℕ) (was now : Pooled) → IsPart p was st → a < length st.views → AreLesser was.caps now.caps (view_at st a) → now ≡ record was { caps = now.caps } → IsEvent p st (Note a) now

-- where the pool of a reached state says that the work is done, each word is its scenario's optimum
abbrev pub DoneHasOptima : Type 0
DoneHasOptima = (p : Problem) (st : State) (was now : Pooled) → AreWithin p → Reached p st → IsPart p was st → IsClaim was now Done → (k : ℕ) (s : Program) → slice_get p.scenarios k ≡ Some s → IsOptimum s (word_at st k)
