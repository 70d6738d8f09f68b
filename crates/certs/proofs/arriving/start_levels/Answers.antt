use Rattle.std.proofs.Common.{arith, ◌≡◌, ◌<◌, ◌++◌, ◌∷◌, [], List, ap, ◌∙◌, length, map, take, pos}
use Rattle.std.proofs.lemmas.List.{length-append}
use Rattle.int_model.specs.Programs.{Program}
use Rattle.scenario_changes.specs.Problems.{problem, root_box, program_at}
use Rattle.certs.specs.Verdicts.{start_level}
use Rattle.certs.specs.declared.level.Level.{Level}
use Rattle.certs.proofs.ArrivalLemmas.{map_next, map_done}
use Rattle.certs.proofs.arriving.start_levels.Goals as goal

pub loop-s-preserved : goal.loop-s-preserved
loop-s-preserved c =
    let ss = (problem c.args.problem.now).scenarios in
    let below : c.loop-s.s < length (problem c.args.problem.now).scenarios = omega (arith, c.loop-s-test.true, c.count-count.ensures.count) in
    let own : c.start_level.result ≡ start_level (root_box (problem c.args.problem.now).scenarios) (program_at (problem c.args.problem.now) c.loop-s.s) = c.start_level.ensures in
    record {
      items = c.push_reserved.ensures.items ∙ ap (λ (ls : List Level). ls ++ c.start_level.result ∷ []) c.loop-s.invariant.items ∙ ap (λ (l : Level). map (λ (s : Program). start_level (root_box ss) s) (take c.loop-s.s ss) ++ l ∷ []) own ∙ map_next (λ (s : Program). start_level (root_box ss) s) ss c.loop-s.s (record { costs = []; constant = pos 0; bounds = []; rows = []; ends = [] }) below;
      long = omega (arith, ap length c.push_reserved.ensures.items, length-append c.loop-s.levels.items (c.start_level.result ∷ []), c.loop-s.invariant.long);
      room = omega (arith, c.push_reserved.ensures.capacity, c.loop-s.invariant.room);
    }

pub returns : goal.returns
returns c =
    let ss = (problem c.args.problem.now).scenarios in
    c.from_vec.ensures ∙ c.loop-s.invariant.items ∙ map_done (λ (s : Program). start_level (root_box ss) s) ss c.loop-s.s (omega (arith, c.loop-s-test.false, c.count-count.ensures.count))
