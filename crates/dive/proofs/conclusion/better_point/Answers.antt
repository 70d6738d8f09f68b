use Rattle.std.proofs.Common.{◌∙◌}
use Rattle.scenario_changes.specs.Problems.{problem, program_at}
use Rattle.dive.proofs.EndLemmas.{with-point, found-length}
use Rattle.dive.proofs.conclusion.better_point.Goals as goal

pub improved-requires-clause-occupied : goal.improved-requires-clause-occupied
improved-requires-clause-occupied c = with-point c.args.bounds.now c.args.x.now c.requires.found.within

pub improved-requires-clause-point : goal.improved-requires-clause-point
improved-requires-clause-point c = found-length (program_at (problem c.args.problem.now) c.args.s) c.args.bounds.now c.args.x.now c.requires.found ∙ c.requires.columns
