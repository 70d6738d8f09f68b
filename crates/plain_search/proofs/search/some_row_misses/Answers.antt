use Rattle.std.proofs.Common.{rules, below_more}
use Rattle.plain_search.specs.Searches.{program_over}
use Rattle.plain_search.proofs.SearchLemmas.{missed_none, row_verdict, scenario_shape}
use Rattle.plain_search.proofs.search.some_row_misses.Goals as goal

pub returns-then-misses : goal.returns-then-misses
returns-then-misses c = record {
  verdict = missed_none (program_over c.args.problem.now c.args.s c.args.bounds.now) c.loop-i.i (row_verdict c.args.problem.now c.args.s c.args.bounds.now _ _ c.loop-i.i _ _ _ c.requires.scenario c.model-model.ensures c.ends-ends.ensures.value c.row.ensures.value c.as_slice-terms.ensures c.if-misses.ensures);
  few = search rules;
  shape = scenario_shape c.args.problem.now c.args.s _ c.requires.scenario c.ends-ends.ensures.value c.ends-ends.ensures.count;
}

pub returns-clause-shape : goal.returns-clause-shape
returns-clause-shape c = scenario_shape c.args.problem.now c.args.s _ c.requires.scenario c.ends-ends.ensures.value c.ends-ends.ensures.count

pub loop-i-preserved : goal.loop-i-preserved
loop-i-preserved c = below_more _ _ c.loop-i.invariant (row_verdict c.args.problem.now c.args.s c.args.bounds.now _ _ c.loop-i.i _ _ _ c.requires.scenario c.model-model.ensures c.ends-ends.ensures.value c.row.ensures.value c.as_slice-terms.ensures c.if-misses.ensures)
