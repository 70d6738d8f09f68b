use Rattle.std.proofs.Common.{arith, below_more, ap, length}
use Rattle.int_model.specs.Models.{IntegerModel}
use Rattle.dive.proofs.EndLemmas.{row-verdict, row-count, scenario-shape}
use Rattle.dive.proofs.conclusion.missed_row.Goals as goal

pub returns-then-misses-clause-row : goal.returns-then-misses-clause-row
returns-then-misses-clause-row c = record {
  is_row = omega (arith, row-count c.args.problem.now c.args.s c.requires.scenario, ap (λ (m : IntegerModel). length m.rows) c.model-model.ensures);
  misses = row-verdict c.args.problem.now c.args.s c.args.bounds.now _ _ c.loop-i.i _ _ _ c.requires.scenario c.model-model.ensures c.ends-ends.ensures.value c.row.ensures.value c.as_slice-terms.ensures c.if-misses.ensures;
}

pub returns-then-misses-clause-shape : goal.returns-then-misses-clause-shape
returns-then-misses-clause-shape c = scenario-shape c.args.problem.now c.args.s _ c.requires.scenario c.ends-ends.ensures.value c.ends-ends.ensures.count

pub loop-i-preserved : goal.loop-i-preserved
loop-i-preserved c = below_more _ _ c.loop-i.invariant (row-verdict c.args.problem.now c.args.s c.args.bounds.now _ _ c.loop-i.i _ _ _ c.requires.scenario c.model-model.ensures c.ends-ends.ensures.value c.row.ensures.value c.as_slice-terms.ensures c.if-misses.ensures)

pub returns-clause-row : goal.returns-clause-row
returns-clause-row c k h = c.loop-i.invariant k (omega (arith, row-count c.args.problem.now c.args.s c.requires.scenario, ap (λ (m : IntegerModel). length m.rows) c.model-model.ensures))

pub returns-clause-shape : goal.returns-clause-shape
returns-clause-shape c = scenario-shape c.args.problem.now c.args.s _ c.requires.scenario c.ends-ends.ensures.value c.ends-ends.ensures.count
