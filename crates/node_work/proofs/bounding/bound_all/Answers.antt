use Rattle.std.proofs.Common.{◌≡◌, ◌++◌, ◌∷◌, [], List, length, ap, ◌∙◌}
use Rattle.dual_bounds.specs.Vectors.{Multipliers}
use Rattle.scenario_changes.specs.Problems.{problem}
use Rattle.node_work.proofs.BoundingLaws.{bounding}
use Rattle.node_work.proofs.bounding.bound_all.Goals as goal

pub returns : goal.returns
returns c =
    let pushed : c.push.new.self ≡ c.in_ok-vector.vector ∷ [] = c.push.ensures ∙ ap (λ (vs : List Multipliers). vs ++ c.in_ok-vector.vector ∷ []) c.new-vectors.ensures in
    bounding (problem c.args.problem.now) (length c.args.problem.now.model.rows) c.args.remaining.now.scenarios c.args.remaining.now.boxes.items c.in_ok-vector.vector c.in_ok-vector.ensures.rows c.in_ok-vector.ensures.ascent c.push.new.self c.with_more-vectors.result c.in_ok-more.more pushed c.in_ok-more.ensures c.with_more-vectors.ensures.none c.with_more-vectors.ensures.some
