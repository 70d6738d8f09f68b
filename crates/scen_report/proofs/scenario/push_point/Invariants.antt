use Rattle.std.proofs.Common.{◌≡◌, ◌++◌, drop}
use Rattle.scen_report.specs.Reports.{point_lines}
use Rattle.scen_report.proofs.scenario.push_point.Given as goal

abbrev pub invariant-loop-j : goal.invariant-loop-j
invariant-loop-j l = l.fn.out.items ++ point_lines l.model.columns l.point ≡ l.out.items ++ point_lines (drop l.j l.model.columns) (drop l.j l.point)
