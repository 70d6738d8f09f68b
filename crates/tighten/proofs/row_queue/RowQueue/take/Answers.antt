use Rattle.std.proofs.Common.{arith, ◌+◌, false}
use Rattle.std.proofs.lemmas.List.{length-set, length-drop, get_or-drop}
use Rattle.tighten.proofs.row_queue.RowQueue.take.Goals as goal

pub returns-clause-queue : goal.returns-clause-queue
returns-clause-queue c = record {
  few = omega (arith, length-set c.args.self.now.waits.items c.in_ok-row.row false, c.requires.few);
  places = rw (c.pop_front.ensures.rest, length-set) (λ k d h. rw get_or-drop (c.requires.places (1 + k) d (omega (arith, length-drop 1 c.args.self.now.rows.items))));
  room = omega (arith, length-set c.args.self.now.waits.items c.in_ok-row.row false, c.requires.room, c.pop_front.ensures.capacity);
}
