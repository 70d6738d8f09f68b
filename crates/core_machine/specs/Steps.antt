-- What steps and runs of the code answer.
use Rattle.std.specs.Prelude.{◌≡◌, ℕ, List, Result, Ok, Err}
use Rattle.scenario_changes.specs.Problems.{Problem}
use Rattle.bb_core.specs.Shared.{settlement_of}
use Rattle.bb_core.specs.Machine as machine
use Rattle.bb_core.specs.Machine.{State, Allowed, after, begin, Leads, Fails}
use Rattle.core_machine.specs.declared.event.Event.{Event}
use Rattle.core_machine.specs.declared.event.Event.TheVariants.{Claim, Look, Offer, Note, Settle, GiveBack, Sweep}
use Rattle.core_machine.specs.declared.event.StepError.{StepError}
use Rattle.core_machine.specs.declared.event.StepError.TheVariants.{NotAllowed, Memory}

abbrev pub event_of : Event → machine.Event
event_of (Claim actor node) = machine.Claim actor node
event_of (Look actor scenario) = machine.Look actor scenario
event_of (Offer actor scenario point) = machine.Offer actor scenario point
event_of (Note actor) = machine.Note actor
event_of (Settle actor settlement) = machine.Settle actor (settlement_of settlement)
event_of (GiveBack actor) = machine.GiveBack actor
event_of (Sweep node) = machine.Sweep node

-- from one state to the next: the event was allowed and was made, or the state is as it was
abbrev pub IsStep : Problem → State → machine.Event → State → Result (Unit {0}) StepError → Type 0
IsStep p st e now (Ok done) = Allowed p st e × (now ≡ after p st e)
IsStep p st e now (Err NotAllowed) = (Allowed p st e → ⊥) × (now ≡ st)
IsStep p st e now (Err Memory) = now ≡ st

-- the events lead to the state, or one of them isn't allowed where it comes
abbrev pub IsRun : Problem → ℕ → List machine.Event → Result State StepError → Type 0
IsRun p actors events (Ok last) = Leads p (begin p actors) events last
IsRun p actors events (Err NotAllowed) = Fails p (begin p actors) events
IsRun p actors events (Err Memory) = Unit {0}
