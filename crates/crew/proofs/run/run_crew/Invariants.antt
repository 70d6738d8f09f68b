use Rattle.scenario_changes.specs.Problems.{problem}
use Rattle.crew.proofs.run.run_crew.Given as goal

abbrev pub ghosts-crew_of : goal.ghosts-crew_of
ghosts-crew_of g a = record { table = a.words.now; problem = problem a.problem.now; nodes = a.pool.nodes }
