use Rattle.std.proofs.Common.{◌≡◌, ◌∙◌, ap, sym}
use Rattle.std.specs.Prelude.{option_copied}
use Rattle.scen_report.specs.Reports.{answer_lines}
use Rattle.scen_report.proofs.ReportLemmas.{appended_four, line_same, value_same, points_same, points_none}
use Rattle.scen_report.proofs.scenario.push_answer.Goals as goal

pub returns-in_ok-push_point : goal.returns-in_ok-push_point
unfolding answer_lines
returns-in_ok-push_point c =
    let d = c.direction-direction.ensures in
    appended_four _ _ _ _ _ _ _ _ _
    (line_same _ _ _ _ _ c.in_ok-push_text.ensures c.status_word.ensures)
    (value_same _ _ _ _ _ _ _ c.in_ok-push_value.ensures d c.value_of.ensures)
    (value_same _ _ _ _ _ _ _ c.in_ok-push_value-2.ensures d c.bound_of.ensures)
    (points_same _ _ _ _ _ c.in_ok-push_point.ensures (sym c.point_of.ensures ∙ ap option_copied c.in-Some.is))

pub returns-in_default : goal.returns-in_default
unfolding answer_lines
returns-in_default c =
    let d = c.direction-direction.ensures in
    appended_four _ _ _ _ _ _ _ _ _
    (line_same _ _ _ _ _ c.in_ok-push_text.ensures c.status_word.ensures)
    (value_same _ _ _ _ _ _ _ c.in_ok-push_value.ensures d c.value_of.ensures)
    (value_same _ _ _ _ _ _ _ c.in_ok-push_value-2.ensures d c.bound_of.ensures)
    (points_none _ _ _ (sym c.point_of.ensures ∙ ap option_copied c.in_default.is))
