use Rattle.std.proofs.Common.{◌≡◌, ℕ, Some, length}
use Rattle.std.specs.Prelude.{slice_get}
use Rattle.scenario_changes.specs.declared.answer.Answer.{Answer}
use Rattle.scenario_changes.specs.Problems.{problem}
use Rattle.certs.specs.Claims.{bound_of, claim_of}
use Rattle.bb_core.specs.Coverage.{placed_of}
use Rattle.alone_run.specs.Runs.{best_of}
use Rattle.alone_run.proofs.claims.claims.Given as goal

abbrev pub invariant-loop-s : goal.invariant-loop-s
invariant-loop-s l = record {
  count : length l.answers.items ≡ l.s;
  each : (k : ℕ) (a : Answer) → slice_get l.answers.items k ≡ Some a → a ≡ claim_of (best_of l.finder k) (bound_of (problem l.problem) (placed_of l.pool.slots) k);
}
