use Rattle.std.proofs.Common.{◌≡◌, ◌++◌, drop}
use Rattle.dual_search.specs.Gains.{entries_of}
use Rattle.dual_search.proofs.ascent.Ascent.vector.Given as goal

abbrev pub invariant-loop-row : goal.invariant-loop-row
invariant-loop-row l = l.entries.items ++ entries_of l.row (drop l.row l.self.multipliers.items) ≡ entries_of 0 l.self.multipliers.items
