use Rattle.std.proofs.Common.{◌≡◌, drop}
use Rattle.node_work.specs.Refusals.{part_of}
use Rattle.node_work.proofs.remaining.Remaining.part.Given as goal

abbrev pub invariant-loop-k : goal.invariant-loop-k
invariant-loop-k l = part_of l.self.scenarios l.self.boxes.items l.s ≡ part_of l.scenarios (drop l.k l.self.boxes.items) l.s
