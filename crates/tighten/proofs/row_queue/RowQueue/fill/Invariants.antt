use Rattle.std.proofs.Common.{◌≡◌, ◌<◌, ◌≤◌, ℕ, length, All, deque_len, deque_capacity}
use Rattle.std.specs.Prelude.{slice_index_or}
use Rattle.tighten.proofs.row_queue.RowQueue.fill.Given as goal

abbrev pub invariant-loop-row : goal.invariant-loop-row
invariant-loop-row l = record {
  count : length l.self.waits.items ≡ length l.initial.self.waits.items;
  few : length l.self.waits.items ≤ 1000;
  places : All (λ (row : ℕ). row < length l.self.waits.items) l.self.rows.items;
  filled : deque_len l.self.rows ≡ l.row;
  order : (k : ℕ) → k < l.row → slice_index_or l.self.rows.items k 0 ≡ k;
  room : length l.self.waits.items ≤ deque_capacity l.self.rows;
}
