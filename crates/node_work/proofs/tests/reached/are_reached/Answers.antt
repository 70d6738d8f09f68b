use Rattle.std.proofs.Common.{rules, arith, ◌≡◌, ◌≤◌, length, List, ℤ, subst, Some}
use Rattle.std.specs.Prelude.{slice_get}
use Rattle.scenario_changes.specs.Problems.{problem}
use Rattle.node_work.proofs.ReachedLaws.{IsReached}
use Rattle.node_work.proofs.ReachedLaws.{get_here, reached_next, reached_all}
use Rattle.node_work.proofs.tests.reached.are_reached.Goals as goal

pub loop-i-preserved : goal.loop-i-preserved
loop-i-preserved c =
    let point : List ℤ = c.index-found-i.result.1 in
    let there : slice_get c.args.found.now c.loop-i.i ≡ Some (c.index-found-i.result.0, point) = get_here c.args.found.now c.loop-i.i c.index-found-i.result (search rules) c.index-found-i.is in
    let reached : IsReached (problem c.args.problem.now) c.args.cuts.now c.index-found-i.result.0 point = subst (λ (x : List ℤ). IsReached (problem c.args.problem.now) c.args.cuts.now c.index-found-i.result.0 x) c.as_slice.ensures (c.is_reached.ensures c.if-not-is_reached.false) in
    reached_next (problem c.args.problem.now) c.args.found.now c.args.cuts.now c.loop-i.i c.loop-i.invariant c.index-found-i.result.0 point there reached

pub returns : goal.returns
returns c = λ _. reached_all (problem c.args.problem.now) c.args.found.now c.args.cuts.now c.loop-i.i c.loop-i.invariant (omega arith)
