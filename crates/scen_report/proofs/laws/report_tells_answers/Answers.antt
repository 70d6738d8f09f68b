use Rattle.scen_report.proofs.ReportLaws.{report-tells}
use Rattle.scen_report.proofs.laws.report_tells_answers.Goals as goal

pub returns : goal.returns
returns c = report-tells
