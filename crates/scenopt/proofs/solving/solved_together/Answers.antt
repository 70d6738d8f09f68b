use Rattle.std.proofs.Common.{arith, length, subst, ◌≡◌}
use Rattle.std.specs.List.{All}
use Rattle.scenario_changes.specs.Problems.{problem}
use Rattle.scen_report.specs.Reports.{Fits}
use Rattle.open_pool.specs.Pooled.{Pooled}
use Rattle.crew.specs.Crews.{IsCrewRun}
use Rattle.scenopt.specs.Answered.{IsSolved}
use Rattle.scenopt.proofs.AnswerLemmas.{if_ok, run_fits, crew_is_solved}
use Rattle.scenopt.proofs.solving.solved_together.Goals as goal

pub returns-clause-solved : goal.returns-clause-solved
returns-clause-solved g c =
    if_ok c.run_crew.result _ (λ e. IsSolved c.args.problem.now c.args.nodes e.answers e.tree)
    (λ e r. crew_is_solved c.args.problem.now c.args.nodes c.in_ok-finders.finders.items e.answers e.tree (omega (arith, c.in_ok-finders.ensures.count, c.requires.some_workers)) (subst (λ (q : Pooled). IsCrewRun (problem c.args.problem.now) q c.in_ok-finders.finders.items e.answers e.tree) c.in_ok-pool.ensures r))
    c.run_crew.ensures

pub returns-clause-count : goal.returns-clause-count
returns-clause-count g c =
    if_ok c.run_crew.result _ (λ e. length e.answers ≡ length (problem c.args.problem.now).scenarios)
    (λ e r. (crew_is_solved c.args.problem.now c.args.nodes c.in_ok-finders.finders.items e.answers e.tree (omega (arith, c.in_ok-finders.ensures.count, c.requires.some_workers)) (subst (λ (q : Pooled). IsCrewRun (problem c.args.problem.now) q c.in_ok-finders.finders.items e.answers e.tree) c.in_ok-pool.ensures r)).run.count)
    c.run_crew.ensures

pub returns-clause-fits : goal.returns-clause-fits
returns-clause-fits g c =
    if_ok c.run_crew.result _ (λ e. All (Fits (length c.args.problem.now.model.columns)) e.answers)
    (λ e r. run_fits (problem c.args.problem.now) _ _ e.answers e.tree c.count.ensures.limits (crew_is_solved c.args.problem.now c.args.nodes c.in_ok-finders.finders.items e.answers e.tree (omega (arith, c.in_ok-finders.ensures.count, c.requires.some_workers)) (subst (λ (q : Pooled). IsCrewRun (problem c.args.problem.now) q c.in_ok-finders.finders.items e.answers e.tree) c.in_ok-pool.ensures r)).run)
    c.run_crew.ensures
