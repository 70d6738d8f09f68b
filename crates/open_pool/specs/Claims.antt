-- What a claim and a settlement answer.
use Rattle.std.specs.Prelude.{◌≡◌, ◌<◌, ◌≤◌, ◌+◌, ℕ, List, false, true, length, All, slice_get, Some}
use Rattle.std.specs.Arc.{arc_value}
use Rattle.scenario_changes.specs.Problems.{Problem}
use Rattle.bb_core.specs.Settlements.{Settlement, Outcome, Close, Branch, place_of}
use Rattle.bb_core.specs.Coverage.{Slot, Open, Closed, settled, slot_at, marked_as, MaySettle}
use Rattle.open_pool.specs.Marks.{claimed}
use Rattle.open_pool.specs.Pooled.{Pooled, HasNone, IsFull, IsNext, reopened}
use Rattle.bb_core.specs.Shared.{work_of}
use Rattle.open_pool.specs.declared.pool.Claim.{Claim}
use Rattle.open_pool.specs.declared.pool.Claim.TheVariants.{Node, Wait, Done, Stopped}
use Rattle.open_pool.specs.declared.pool.Settled.{Settled}
use Rattle.open_pool.specs.declared.pool.Settled.TheVariants.{Closed as IsClosed, Split, Halted, Stray}

abbrev pub IsClaim : Pooled → Pooled → Claim → Type 0
IsClaim p q (Node w) = (p.stopped ≡ false) × IsNext p.slots w.node × (place_of (work_of w) ≡ (slot_at p.slots w.node).place) × (q ≡ record p { slots = marked_as p.slots w.node claimed })
IsClaim p q Wait = (p.stopped ≡ false) × HasNone p.slots Open × (HasNone p.slots claimed → ⊥) × (q ≡ p)
IsClaim p q Done = (p.stopped ≡ false) × HasNone p.slots Open × HasNone p.slots claimed × (q ≡ p)
IsClaim p q Stopped = (p.stopped ≡ true) × (q ≡ p)

-- a claimed work has an interval for each column, a level for each scenario, and live scenarios of the problem
abbrev pub FitsProblem : Problem → Claim → Type 0
FitsProblem p (Node w) = (length (arc_value w.bounds) ≡ p.columns) × (length (arc_value w.levels) ≡ length p.scenarios) × All (λ s. s < length p.scenarios) w.live
FitsProblem p Wait = Unit {0}
FitsProblem p Done = Unit {0}
FitsProblem p Stopped = Unit {0}

-- where the work is done, each node is closed
abbrev pub ClosedIfDone : List Slot → Claim → Type 0
ClosedIfDone slots (Node w) = Unit {0}
ClosedIfDone slots Wait = Unit {0}
ClosedIfDone slots Done = (n : ℕ) (t : Slot) → slice_get slots n ≡ Some t → t.mark ≡ Closed
ClosedIfDone slots Stopped = Unit {0}

abbrev pub IsSplit : Outcome → Type 0
IsSplit Close = ⊥
IsSplit (Branch stay column v left right left_levels right_levels) = Unit {0}

abbrev pub IsSettled : Pooled → Settlement → Pooled → Settled → Type 0
IsSettled p s q Stray = (MaySettle p.problem p.slots p.caps claimed s → ⊥) × (q ≡ record p { slots = reopened p.slots s.work.node })
IsSettled p s q Halted = MaySettle p.problem p.slots p.caps claimed s × IsSplit s.outcome × IsFull p.problem p.nodes (length p.slots) × (q ≡ record p { slots = reopened p.slots s.work.node; stopped = true; halted = true })
IsSettled p s q IsClosed = MaySettle p.problem p.slots p.caps claimed s × (IsSplit s.outcome → ⊥) × (q ≡ record p { slots = settled p.slots s })
IsSettled p s q Split = MaySettle p.problem p.slots p.caps claimed s × IsSplit s.outcome × (length p.slots + 2 ≤ p.nodes) × (q ≡ record p { slots = settled p.slots s })

-- the children's lists of levels are short
abbrev pub AreShort : Outcome → Type 0
AreShort Close = Unit {0}
AreShort (Branch stay column v left right left_levels right_levels) = (length left_levels ≤ 64) × (length right_levels ≤ 64)

-- the answer to a settlement that is recorded
abbrev pub IsAnswer : Outcome → Settled → Type 0
IsAnswer o Stray = ⊥
IsAnswer o Halted = ⊥
IsAnswer o IsClosed = IsSplit o → ⊥
IsAnswer o Split = IsSplit o
