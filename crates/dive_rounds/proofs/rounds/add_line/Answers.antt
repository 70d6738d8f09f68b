use Rattle.scenario_changes.specs.Problems.{problem, program_at}
use Rattle.dive_rounds.proofs.RootLemmas.{root-lies}
use Rattle.dive_rounds.proofs.rounds.add_line.Goals as goal

pub dive_near-requires-clause-within : goal.dive_near-requires-clause-within
dive_near-requires-clause-within c = root-lies (program_at (problem c.args.problem.now) c.args.s).bounds c.in_ok-root.root c.lows.result.now c.highs.result.now c.lows.ensures.value c.highs.ensures.value c.in_ok-root.ensures

pub dive-requires-clause-within : goal.dive-requires-clause-within
dive-requires-clause-within c = root-lies (program_at (problem c.args.problem.now) c.args.s).bounds c.in_ok-root.root c.lows.result.now c.highs.result.now c.lows.ensures.value c.highs.ensures.value c.in_ok-root.ensures
