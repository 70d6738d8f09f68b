use Rattle.std.proofs.Common.{◌≡◌, ◌<◌, ℕ, length, drop, true}
use Rattle.tighten.specs.Engines.{IsLoaded, Tightens, IsFresh, RowStays, box_in}
use Rattle.tighten.specs.Steps.{rows_of}
use Rattle.tighten.proofs.engine.Engine.propagate.Given as goal

abbrev pub invariant-rows : goal.invariant-rows
invariant-rows l = record {
  loaded : IsLoaded l.model l.self;
  steps : Tightens l.model l.ends l.initial.self true l.self;
  still : IsFresh l.model l.initial.self → length l.initial.self.trail.items < l.changes → length l.self.trail.items ≡ length l.initial.self.trail.items → (l.self.queue.rows.items ≡ drop l.counter l.initial.self.queue.rows.items) × ((i : ℕ) → i < l.counter → RowStays (rows_of l.model) l.ends i (box_in l.initial.self));
}
