use Rattle.std.specs.Prelude.{map}
use Rattle.std.specs.Vec.Iter.{into_iter_items}
use Rattle.scenario_changes.specs.Problems.{problem}
use Rattle.bb_core.specs.Machine.{State, begin, Leads, Fails, Reached}
use Rattle.core_machine.specs.Steps.{event_of}
use Rattle.core_machine.proofs.state.State.run.Given as goal

abbrev pub invariant-loop-event : goal.invariant-loop-event
invariant-loop-event l = record {
  reached : Reached (problem l.problem) l.state;
  leads : (last : State) → Leads (problem l.problem) l.state (map event_of (into_iter_items l.event-iterator)) last → Leads (problem l.problem) (begin (problem l.problem) l.actors) (map event_of l.fn.events.items) last;
  fails : Fails (problem l.problem) l.state (map event_of (into_iter_items l.event-iterator)) → Fails (problem l.problem) (begin (problem l.problem) l.actors) (map event_of l.fn.events.items);
}
