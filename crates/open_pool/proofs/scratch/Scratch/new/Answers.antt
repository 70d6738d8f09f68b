use Rattle.std.proofs.Common.{arith, ◌∙◌, ap, length}
use Rattle.scenario_changes.specs.Problems.{problem}
use Rattle.certs.proofs.ArrivalLemmas.{root_wide}
use Rattle.open_pool.proofs.scratch.Scratch.new.Goals as goal

pub returns : goal.returns
returns c =
    let wide = root_wide (problem c.args.problem.now) c.count.ensures.limits in
    record {
      room = omega (arith, c.in_ok-raised.ensures.capacity, c.count.ensures.count);
      replay = ap length c.in_ok-replay.ensures ∙ wide;
      hull = ap length c.in_ok-hull.ensures ∙ wide;
    }
