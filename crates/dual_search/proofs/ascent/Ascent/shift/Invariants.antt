use Rattle.std.proofs.Common.{◌≡◌, ℕ, ◌<◌, ◌≤◌, length, slice_index_or, slice_set}
use Rattle.scenario_changes.specs.Problems.{problem, program_at}
use Rattle.dual_search.specs.Gains.{AreReduced}
use Rattle.dual_search.specs.declared.reduced_costs.ReducedCosts.{ReducedCosts}
use Rattle.dual_search.proofs.ascent.Ascent.shift.Given as goal

abbrev pub invariant-loop-k : goal.invariant-loop-k
invariant-loop-k l = record {
  scale : l.self.scale ≡ l.initial.self.scale;
  scenarios : l.self.scenarios.items ≡ l.initial.self.scenarios.items;
  multipliers : l.self.multipliers.items ≡ l.initial.self.multipliers.items;
  entries : l.self.entries ≡ l.initial.self.entries;
  count : length l.self.reduced.items ≡ length l.initial.self.reduced.items;
  done : (i : ℕ) (d : ReducedCosts) → i < l.k → AreReduced (program_at (problem l.problem) (slice_index_or l.initial.self.scenarios.items i 0)) l.initial.self.scale (slice_set l.initial.self.multipliers.items l.row l.to) (slice_index_or l.self.reduced.items i d).costs.items;
  left : (i : ℕ) (d : ReducedCosts) → l.k ≤ i → slice_index_or l.self.reduced.items i d ≡ slice_index_or l.initial.self.reduced.items i d;
}
