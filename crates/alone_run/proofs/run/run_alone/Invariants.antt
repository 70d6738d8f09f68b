use Rattle.std.proofs.Common.{◌≡◌, ◌≤◌, length}
use Rattle.alone_run.specs.Turns.{IsNoWorse}
use Rattle.alone_run.specs.Steps.{IsReady, weight}
use Rattle.alone_run.proofs.run.run_alone.Given as goal

abbrev pub invariant-running : goal.invariant-running
invariant-running l = record {
  ready : IsReady l.problem l.words l.pool l.finder;
  finder : IsNoWorse l.initial.finder l.finder;
  nodes : l.pool.nodes ≡ l.initial.pool.nodes;
  grown : length l.initial.pool.slots ≤ length l.pool.slots;
  stopped : l.pool.stopped ≡ l.initial.pool.stopped;
  halted : l.pool.halted ≡ l.initial.pool.halted;
}

abbrev pub decreases-running : goal.decreases-running
decreases-running l = weight l.pool
