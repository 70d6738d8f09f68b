use Rattle.std.proofs.Common.{length}
use Rattle.std.specs.List.{All}
use Rattle.scenario_changes.specs.Problems.{problem}
use Rattle.scen_report.specs.Reports.{Fits}
use Rattle.alone_run.specs.Runs.{IsRun}
use Rattle.scenopt.proofs.AnswerLemmas.{if_ok, run_fits}
use Rattle.scenopt.proofs.solving.solved.Goals as goal

pub returns-clause-fits : goal.returns-clause-fits
returns-clause-fits c = if_ok c.run_alone.result _ (λ e. All (Fits (length c.args.problem.now.model.columns)) e.answers) (λ e r. run_fits (problem c.args.problem.now) _ _ e.answers e.tree c.count-count.ensures.limits r) c.run_alone.ensures
