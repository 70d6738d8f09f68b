use Rattle.std.proofs.Common.{◌≡◌, ◌≤◌, ◌-◌, length, vec_len}
use Rattle.std.specs.List.{All}
use Rattle.dual_search.proofs.tests.copies.Given as goal

abbrev pub invariant-copies : goal.invariant-copies
invariant-copies l = record {
  count : vec_len l.boxes ≤ l.count;
  columns : All (λ b. length b ≡ length l.bounds) l.boxes.items;
}

abbrev pub decreases-copies : goal.decreases-copies
decreases-copies l = l.count - vec_len l.boxes
