use Rattle.std.proofs.Common.{◌≡◌, ◌≤◌, ℕ, List, [], length, sym, subst, All}
use Rattle.std.proofs.Common.{arith, ap}
use Rattle.int_model.specs.Boxes.{Box}
use Rattle.tighten.specs.Steps.{IsStep}
use Rattle.tighten.specs.declared.step.Step.{Step}
use Rattle.scenario_changes.specs.Problems.{problem}
use Rattle.dual_bounds.specs.Vectors.{Multipliers}
use Rattle.node_work.specs.Probes.{HasAscent, IsAscent, remaining, scenarios_of, boxes_of}
use Rattle.node_work.proofs.FitLaws.{fits-by}
use Rattle.node_work.proofs.probing.probe.Goals as goal

pub judge_live-requires-clause-scenarios : goal.judge_live-requires-clause-scenarios
judge_live-requires-clause-scenarios c = subst (λ (b : Box). c.in_ok-remaining.remaining.scenarios ≡ scenarios_of (remaining (problem c.args.problem.now) b (record { steps = c.from_vec.result; vectors = c.in_ok-bounding.bounding.vectors }) c.args.work.now.live)) c.deref-2.ensures c.in_ok-remaining.ensures.scenarios

pub judge_live-requires-clause-boxes : goal.judge_live-requires-clause-boxes
judge_live-requires-clause-boxes c = subst (λ (b : Box). c.in_ok-remaining.remaining.boxes.items ≡ boxes_of (remaining (problem c.args.problem.now) b (record { steps = c.from_vec.result; vectors = c.in_ok-bounding.bounding.vectors }) c.args.work.now.live)) c.deref-2.ensures c.in_ok-remaining.ensures.boxes

pub returns-clause-good : goal.returns-clause-good
returns-clause-good c =
    let steps : All (IsStep c.args.problem.now.model) c.from_vec.result = subst (λ (xs : List Step). All (IsStep c.args.problem.now.model) xs) (sym c.from_vec.ensures) c.in_ok-steps.ensures.steps in
    let few : length c.from_vec.result ≤ 128 = omega (arith, ap length c.from_vec.ensures, c.in_ok-steps.ensures.few) in
    record {
      fits = fits-by c.args.problem.now (record { steps = c.from_vec.result; vectors = c.in_ok-bounding.bounding.vectors }) steps few c.in_ok-bounding.ensures.rows_below c.in_ok-bounding.ensures.few;
      are_good = c.in_ok-judgement.ensures.good;
      are_found = c.in_ok-judgement.ensures.found;
    }

pub returns-clause-ascent : goal.returns-clause-ascent
returns-clause-ascent c =
    let v : Multipliers = c.in_ok-bounding.ensures.vector in
    let one = subst (λ (ks : List ℕ). IsAscent (problem c.args.problem.now) ks c.in_ok-remaining.remaining.boxes.items v) c.in_ok-remaining.ensures.scenarios c.in_ok-bounding.ensures.ascent in
    let two = subst (λ (bs : List Box). IsAscent (problem c.args.problem.now) (scenarios_of (remaining (problem c.args.problem.now) c.deref-2.result.now (record { steps = c.from_vec.result; vectors = [] }) c.args.work.now.live)) bs v) c.in_ok-remaining.ensures.boxes one in
    subst (λ (b : Box). HasAscent (problem c.args.problem.now) b (record { steps = c.from_vec.result; vectors = c.in_ok-bounding.bounding.vectors }) c.args.work.now.live) c.deref-2.ensures (record { vector = v; first = c.in_ok-bounding.ensures.first; ascent = two })
