use Rattle.std.proofs.Common.{◌≡◌, ◌<◌, ℕ, ℤ, true, length, get_or}
use Rattle.tighten.specs.Queues.{IsQueue, StillWait, waits}
use Rattle.tighten.proofs.row_queue.RowQueue.add_rows.Given as goal

abbrev pub invariant-loop-row : goal.invariant-loop-row
invariant-loop-row l = record {
  queue : IsQueue l.self;
  count : length l.self.waits.items ≡ length l.initial.self.waits.items;
  added : (k : ℕ) (d : ℕ × ℤ) → k < l.row-index → waits l.self (get_or l.terms k d).0 ≡ true;
  kept : StillWait l.initial.self l.self;
}
