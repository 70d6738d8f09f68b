-- Worked examples of events, steps and runs, by computing.
use Rattle.std.specs.Prelude.{◌≡◌, ◌<◌, [], ◌∷◌, Ok, Err, refl}
use Rattle.std.proofs.Common.{arith, inl}
use Rattle.scenario_changes.specs.Problems.{Problem}
use Rattle.bb_core.specs.Coverage.{Held}
use Rattle.bb_core.specs.Machine as machine
use Rattle.bb_core.specs.Machine.{State, Allowed, begin}
use Rattle.core_machine.specs.declared.event.Event.TheVariants.{Claim, Look}
use Rattle.core_machine.specs.declared.event.StepError.TheVariants.{NotAllowed, Memory}
use Rattle.core_machine.specs.declared.slot.Mark.TheVariants.{Held as IsHeld}
use Rattle.core_machine.specs.Marks.{mark_of}
use Rattle.core_machine.specs.Steps.{event_of, IsStep, IsRun}

-- the actor stands before the node and the scenario
claims : event_of (Claim 3 7) ≡ machine.Claim 3 7
claims = refl

looks : event_of (Look 3 7) ≡ machine.Look 3 7
looks = refl

held : mark_of (IsHeld 4) ≡ Held 4
held = refl

-- a refused event leaves the state, and so does one for which no memory was left
refused : (p : Problem) (st now : State) (e : machine.Event) → IsStep p st e now (Err NotAllowed) → now ≡ st
refused p st now e h = h.1

unmade : (p : Problem) (st now : State) (e : machine.Event) → IsStep p st e now (Err Memory) → now ≡ st
unmade p st now e h = h

-- an event that is allowed isn't refused
not_refused : (p : Problem) (st now : State) (e : machine.Event) → Allowed p st e → IsStep p st e now (Err NotAllowed) → ⊥
not_refused p st now e a h = h.0 a

-- a run without events ends where it began, and is never refused
idle : (p : Problem) → IsRun p 2 [] (Ok (begin p 2))
idle p = refl

idle_goes : (p : Problem) → IsRun p 2 [] (Err NotAllowed) → ⊥
idle_goes p h = h

-- an actor whose number isn't below their count
no_such_actor : (p : Problem) → IsRun p 0 (machine.Note 0 ∷ []) (Err NotAllowed)
no_such_actor p = inl (λ h. absurd (let e : 0 < 0 = h in omega arith))
