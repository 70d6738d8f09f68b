use Rattle.std.proofs.Common.{◌≡◌, ◌++◌, drop}
use Rattle.scen_report.specs.Summaries.{summary_text, outcomes_from}
use Rattle.scen_report.proofs.summary.write_summary.Given as goal

abbrev pub invariant-loop-s : goal.invariant-loop-s
invariant-loop-s l = summary_text l.problem l.answers l.words ≡ l.out.items ++ outcomes_from l.problem.model.direction l.s (drop l.s l.answers)
