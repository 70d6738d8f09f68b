use Rattle.std.proofs.Common.{◌≡◌, ℕ, ◌<◌, pos, ◌*ℤ◌, length}
use Rattle.int_model.specs.Integers.{int_at}
use Rattle.dual_search.proofs.reduced_costs.ReducedCosts.new.Given as goal

abbrev pub invariant-loop-cost : goal.invariant-loop-cost
invariant-loop-cost l = record {
  count : length l.reduced.items ≡ l.cost-index;
  values : (j : ℕ) → j < l.cost-index → int_at l.reduced.items j ≡ pos l.scale *ℤ int_at l.costs j;
}
