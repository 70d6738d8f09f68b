use Rattle.std.proofs.Common.{◌∙◌}
use Rattle.scenario_changes.specs.Problems.{problem, program_at}
use Rattle.dive.proofs.PartLemmas.{part-length}
use Rattle.dive.proofs.EndLemmas.{part-stuck, corner-length, corner-answer, corner-refused}
use Rattle.dive.proofs.conclusion.conclude.Goals as goal

pub missed_row-requires-clause-columns : goal.missed_row-requires-clause-columns
missed_row-requires-clause-columns c = part-length c.args.part c.args.bounds.now c.requires.part ∙ c.requires.columns

pub returns-in-Some : goal.returns-in-Some
returns-in-Some c = part-stuck (program_at (problem c.args.problem.now) c.args.s) c.args.bounds.now c.args.part c.in-Some.row c.requires.part c.requires.occupied c.in-Some.ensures.row

pub missed_row-requires-2-clause-columns : goal.missed_row-requires-2-clause-columns
missed_row-requires-2-clause-columns c = corner-length c.args.part c.in_ok-corner.corner c.lows.result.now c.lows-2.result.now c.lows.ensures.value c.lows-2.ensures.value c.in_ok-corner.ensures c.requires.occupied ∙ part-length c.args.part c.args.bounds.now c.requires.part ∙ c.requires.columns

pub returns-in-Some-missed_row : goal.returns-in-Some-missed_row
returns-in-Some-missed_row c = corner-refused (program_at (problem c.args.problem.now) c.args.s) c.args.bounds.now c.args.part c.in_ok-corner.corner c.lows.result.now c.lows-2.result.now c.in-Some-missed_row.row c.lows.ensures.value c.lows-2.ensures.value c.in_ok-corner.ensures c.requires.part c.requires.occupied c.in-Some-missed_row.ensures.row

pub better_point-requires-clause-found : goal.better_point-requires-clause-found
better_point-requires-clause-found c = corner-answer (program_at (problem c.args.problem.now) c.args.s) c.args.bounds.now c.args.part c.in_ok-corner.corner c.lows.result.now c.lows-2.result.now c.lows-3.result.now c.lows.ensures.value c.lows-2.ensures.value c.in_ok-corner.ensures c.missed_row.ensures.shape c.requires.within c.requires.part c.requires.occupied c.in_default-missed_row.ensures.row c.lows-3.ensures.value
