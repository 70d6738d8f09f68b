use Rattle.std.proofs.Common.{arith, sym, ◌∙◌, ap, length}
use Rattle.int_model.specs.Models.{IntegerModel}
use Rattle.scenario_changes.specs.Problems.{problem, program_at}
use Rattle.certs.proofs.ProblemLemmas.{row_level-true, row_level-false}
use Rattle.certs.proofs.StayerLemmas.{is_missed, not_missed, some_misses, none_misses}
use Rattle.certs.proofs.stayers.missed_row.Goals as goal

pub returns-then-misses-clause-some : goal.returns-then-misses-clause-some
returns-then-misses-clause-some c = is_missed (program_at (problem c.args.problem.now) c.args.s) c.loop-i.i c.args.part.now (row_level-true c.args.problem.now c.args.s c.args.part.now _ _ c.loop-i.i _ _ c.requires.scenario c.model-model.ensures c.ends-ends.ensures.value c.row-row.ensures.value c.as_slice.ensures (sym c.if-misses.true ∙ c.misses.ensures))

pub returns-then-misses-clause-missed : goal.returns-then-misses-clause-missed
returns-then-misses-clause-missed c = sym (some_misses (program_at (problem c.args.problem.now) c.args.s) _ c.loop-i.i _ (omega (arith, ap (λ (m : IntegerModel). length m.rows) c.model-model.ensures)) (is_missed (program_at (problem c.args.problem.now) c.args.s) c.loop-i.i c.args.part.now (row_level-true c.args.problem.now c.args.s c.args.part.now _ _ c.loop-i.i _ _ c.requires.scenario c.model-model.ensures c.ends-ends.ensures.value c.row-row.ensures.value c.as_slice.ensures (sym c.if-misses.true ∙ c.misses.ensures))))

pub loop-i-preserved : goal.loop-i-preserved
loop-i-preserved c = none_misses (program_at (problem c.args.problem.now) c.args.s) c.loop-i.i _ (not_missed (program_at (problem c.args.problem.now) c.args.s) c.loop-i.i c.args.part.now (row_level-false c.args.problem.now c.args.s c.args.part.now _ _ c.loop-i.i _ _ c.requires.scenario c.model-model.ensures c.ends-ends.ensures.value c.row-row.ensures.value c.as_slice.ensures (sym c.if-misses.false ∙ c.misses.ensures))) c.loop-i.invariant
