use Rattle.std.proofs.Common.{◌∙◌, ap}
use Rattle.std.specs.Prelude.{decimal}
use Rattle.scen_report.specs.Reports.{head_lines}
use Rattle.scen_report.proofs.ReportLemmas.{appended_twice, line_same}
use Rattle.scen_report.proofs.push_head.Goals as goal

pub returns : goal.returns
unfolding head_lines
returns c =
    appended_twice _ _ _ _ _
    (line_same _ _ _ _ _ c.in_ok-push_count.ensures (ap decimal (c.implied.ensures.value ∙ ap (λ m. m.implied) c.model.ensures)))
    (line_same _ _ _ _ _ c.in_ok-push_count-2.ensures (ap decimal c.num_scenarios.ensures))
