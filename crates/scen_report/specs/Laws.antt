-- What is proved of reports.
use Rattle.std.specs.Prelude.{◌≡◌, ℤ, ◌≤◌, ◌^◌, ℕ, unsigned_abs, List, length, All, IfSome}
use Rattle.scenario_changes.specs.Problems.{Scenarios}
use Rattle.scenario_changes.specs.declared.answer.Answer.{Answer}
use Rattle.scen_report.specs.Reports.{Fits, point_of, report_text}

-- an answer that can be reported, with a point whose numbers fit 32 bits
pub record IsReportable (columns : ℕ) (a : Answer) : Type 0 where
  pub fits : Fits columns a
  pub numbers : IfSome (point_of a) (All (λ z. unsigned_abs z ≤ 2 ^ 31))

-- a report says which answers it is of: for one problem two different lists of answers have different reports
abbrev pub ReportTellsAnswers : Type 0
ReportTellsAnswers = (p : Scenarios) (a b : List Answer) → All (IsReportable (length p.model.columns)) a → All (IsReportable (length p.model.columns)) b → report_text p a ≡ report_text p b → a ≡ b
