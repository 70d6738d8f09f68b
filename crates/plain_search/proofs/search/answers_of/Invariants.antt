use Rattle.std.proofs.Common.{◌≡◌, ◌<◌, ℕ, length}
use Rattle.std.specs.List.{All}
use Rattle.scen_report.specs.Reports.{Fits}
use Rattle.scenario_changes.specs.Answers.{RightAnswer}
use Rattle.scenario_changes.specs.Problems.{problem, program_at}
use Rattle.plain_search.specs.Searches.{answer_at}
use Rattle.plain_search.proofs.search.answers_of.Given as goal

abbrev pub invariant-loop-s : goal.invariant-loop-s
invariant-loop-s l = record {
  count : length l.answers.items ≡ l.s;
  right : (k : ℕ) → k < length l.answers.items → RightAnswer (program_at (problem l.problem) k) (answer_at l.answers.items k);
  fits : All (Fits (length l.problem.model.columns)) l.answers.items;
}
