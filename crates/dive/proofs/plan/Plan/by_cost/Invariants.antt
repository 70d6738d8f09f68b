use Rattle.std.proofs.Common.{◌≡◌, length}
use Rattle.dive.proofs.plan.Plan.by_cost.Given as goal

abbrev pub invariant-loop-j : goal.invariant-loop-j
invariant-loop-j l = record {
  keys : length l.keys.items ≡ l.j;
  targets : length l.targets.items ≡ l.j;
  others : length l.others.items ≡ l.j;
}
