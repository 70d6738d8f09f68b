use Rattle.std.proofs.Common.{rules, arith, pos, get_or, FitsSigned, w32}
use Rattle.std.proofs.lemmas.Int.{to_z-of_z}
use Rattle.scen_report.proofs.ReportLemmas.{point_lines-more}
use Rattle.scen_report.proofs.scenario.push_point.Goals as goal

pub loop-j-preserved : goal.loop-j-preserved
loop-j-preserved c =
    let fits : FitsSigned w32 (get_or c.args.point.now c.loop-j.j (pos 0)) = search rules in
    let line = simp (c.as_slice.ensures.value, to_z-of_z) at c.in_ok-push_column.ensures in
    point_lines-more _ _ c.loop-j.j c.column.result.now _ _ _ c.column.ensures.value (omega arith) c.loop-j.invariant line
