use Rattle.std.proofs.Common.{◌∙◌, ◌++◌, ap}
use Rattle.scen_report.specs.Reports.{scenario_lines, answer_lines}
use Rattle.scen_report.proofs.ReportLemmas.{appended_thrice, line_same}
use Rattle.scen_report.proofs.scenario.push_scenario.Goals as goal

pub returns : goal.returns
unfolding scenario_lines
returns c =
    appended_thrice _ _ _ _ _ _ _ c.in_ok-push_count.ensures
    (line_same _ _ _ _ _ c.in_ok-push_text.ensures c.name_text.ensures)
    (c.in_ok-push_answer.ensures ∙ ap (λ m. c.push_text.new.out.items ++ answer_lines m c.args.answer.now) c.model.ensures)
