use Rattle.std.proofs.Common.{◌≡◌, ℕ, ◌<◌, length, slice_index_or}
use Rattle.scenario_changes.specs.Problems.{problem, program_at}
use Rattle.dual_search.specs.declared.reduced_costs.ReducedCosts.{ReducedCosts}
use Rattle.dual_search.proofs.ZeroLemmas.{IsScaled}
use Rattle.dual_search.proofs.ascent.Ascent.at_zero.Given as goal

abbrev pub invariant-loop-s : goal.invariant-loop-s
invariant-loop-s l = record {
  count : length l.reduced.items ≡ l.s-index;
  values : (k : ℕ) (d : ReducedCosts) → k < l.s-index → IsScaled (program_at (problem l.problem) (slice_index_or l.s-items k 0)) l.scale (slice_index_or l.reduced.items k d).costs.items;
}
