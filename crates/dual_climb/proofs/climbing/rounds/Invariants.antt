use Rattle.std.proofs.Common.{◌≡◌}
use Rattle.dual_climb.proofs.climbing.rounds.Given as goal

abbrev pub invariant-loop-pass : goal.invariant-loop-pass
invariant-loop-pass l = record {
  of_state : l.state ≡ l.relaxation;
  of_best : l.best ≡ l.relaxation.rows;
  of_correction : l.correction ≡ l.relaxation.rows;
}
