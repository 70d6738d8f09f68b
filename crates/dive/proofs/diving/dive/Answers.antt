use Rattle.std.proofs.Common.{◌∙◌}
use Rattle.scenario_changes.specs.Problems.{problem, program_at}
use Rattle.dive.proofs.EndLemmas.{columns-of, decides-each}
use Rattle.dive.proofs.diving.dive.Goals as goal

pub by_cost-requires-clause-columns : goal.by_cost-requires-clause-columns
by_cost-requires-clause-columns c = columns-of c.args.bounds.now (program_at (problem c.args.problem.now) c.args.s).bounds c.requires.occupied c.requires.within ∙ c.costs-costs.ensures.within.shape.bounds

pub returns-clause-single : goal.returns-clause-single
returns-clause-single c = decides-each (program_at (problem c.args.problem.now) c.args.s) c.args.bounds.now c.dive_by.result c.dive_by.ensures

pub dive_by-requires-clause-columns : goal.dive_by-requires-clause-columns
dive_by-requires-clause-columns c = columns-of c.args.bounds.now (program_at (problem c.args.problem.now) c.args.s).bounds c.requires.occupied c.requires.within ∙ c.costs-costs.ensures.within.shape.bounds
