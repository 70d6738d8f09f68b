-- Runs, one event at a time.
use Rattle.std.specs.Prelude.{◌≡◌, ℕ, List, [], ◌∷◌, ◌++◌, Result, Ok, Err, IsErrAnd, refl}
use Rattle.std.proofs.Common.{sym, subst, inl, inr}
use Rattle.scenario_changes.specs.Problems.{Problem}
use Rattle.bb_core.specs.Machine.{State, Event, Allowed, after, begin, Leads, Fails, Reached}
use Rattle.core_machine.specs.declared.event.StepError.{StepError}
use Rattle.core_machine.specs.declared.event.StepError.TheVariants.{NotAllowed, Memory}
use Rattle.core_machine.specs.Steps.{IsStep, IsRun}

leads-more : (p : Problem) (st : State) (es : List Event) (last : State) (e : Event) → Leads p st es last → Allowed p last e → Leads p st (es ++ e ∷ []) (after p last e)
leads-more p st [] last e w h = subst (λ (q : State). Leads p q (e ∷ []) (after p last e)) (sym w) (h, refl)
leads-more p st (f ∷ es) last e w h = (w.0, leads-more p (after p st f) es last e w.1 h)

pub reached-begin : (p : Problem) (actors : ℕ) (st : State) → st ≡ begin p actors → Reached p st
reached-begin p actors st e = record { actors = actors; events = []; led = sym e }

pub reached-step : (p : Problem) (st : State) (e : Event) (now : State) (r : Result (Unit {0}) StepError) → Reached p st → IsStep p st e now r → Reached p now
reached-step p st e now (Ok done) h w = subst (λ (q : State). Reached p q) (sym w.1) (record { actors = h.actors; events = h.events ++ e ∷ []; led = leads-more p (begin p h.actors) h.events st e h.led w.0 })
reached-step p st e now (Err NotAllowed) h w = subst (λ (q : State). Reached p q) (sym w.1) h
reached-step p st e now (Err Memory) h w = subst (λ (q : State). Reached p q) (sym w) h

-- ---- the loop of a run

pub leads-same : (p : Problem) (st other : State) (es fs : List Event) (last : State) → st ≡ other → es ≡ fs → Leads p st es last → Leads p other fs last
leads-same p st other es fs last e g h = subst (λ (q : State). Leads p q fs last) e (subst (λ (gs : List Event). Leads p st gs last) g h)

pub fails-same : (p : Problem) (st other : State) (es fs : List Event) → st ≡ other → es ≡ fs → Fails p st es → Fails p other fs
fails-same p st other es fs e g h = subst (λ (q : State). Fails p q fs) e (subst (λ (gs : List Event). Fails p st gs) g h)

pub leads-first : (p : Problem) (st now last : State) (es rest : List Event) (e : Event) → es ≡ e ∷ rest → Allowed p st e × (now ≡ after p st e) → Leads p now rest last → Leads p st es last
leads-first p st now last es rest e g w h = subst (λ (fs : List Event). Leads p st fs last) (sym g) (w.0, subst (λ (q : State). Leads p q rest last) w.1 h)

pub fails-first : (p : Problem) (st now : State) (es rest : List Event) (e : Event) → es ≡ e ∷ rest → Allowed p st e × (now ≡ after p st e) → Fails p now rest → Fails p st es
fails-first p st now es rest e g w h = subst (λ (fs : List Event). Fails p st fs) (sym g) (inr (w.0, subst (λ (q : State). Fails p q rest) w.1 h))

-- a step that isn't made ends the run
pub stopped : (p : Problem) (actors : ℕ) (all es rest : List Event) (st now : State) (e : Event) (error : StepError) → es ≡ e ∷ rest → (Fails p st es → Fails p (begin p actors) all) → IsStep p st e now (Err error) → IsRun p actors all (Err error)
stopped p actors all es rest st now e NotAllowed g h w = h (subst (λ (fs : List Event). Fails p st fs) (sym g) (inl w.0))
stopped p actors all es rest st now e Memory g h w = tt

pub stopped_as : (p : Problem) (actors : ℕ) (all : List Event) (r : Result State StepError) (error : StepError) → IsErrAnd r (λ f. f ≡ error) → IsRun p actors all (Err error) → IsRun p actors all r
stopped_as p actors all (Ok last) error e h = absurd e
stopped_as p actors all (Err f) error e h = subst (λ (g : StepError). IsRun p actors all (Err g)) (sym e) h
