use Rattle.std.proofs.Common.{◌≡◌, ◌++◌, drop}
use Rattle.scen_report.specs.Reports.{report_text, lines_from}
use Rattle.scen_report.proofs.write_report.Given as goal

abbrev pub invariant-loop-s : goal.invariant-loop-s
invariant-loop-s l = report_text l.problem l.answers ≡ l.out.items ++ lines_from l.problem l.s (drop l.s l.answers)
