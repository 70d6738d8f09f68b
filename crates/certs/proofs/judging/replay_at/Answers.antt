use Rattle.std.proofs.Common.{◌≡◌, ◌∙◌, ap, sym, List, None, Some}
use Rattle.tighten.specs.declared.step.Step.{Step}
use Rattle.tighten.specs.Replay.{replayed}
use Rattle.tighten.specs.Steps.{rows_of}
use Rattle.certs.proofs.ReplayLemmas.{IsPartOf, replay-read, replay-yes, replay-no, length-after}
use Rattle.certs.proofs.judging.replay_at.Goals as goal

pub returns-clause-yes : goal.returns-clause-yes
returns-clause-yes c = λ yes.
    let part : IsPartOf c.args.problem.now c.args.s c.model.result.now c.ends.result.now c.args.bounds.now c.cut_to_scenario.new.part = record { scenario = c.requires.scenario; model = c.model.ensures; ends_are = c.ends.ensures.value; part_is = c.cut_to_scenario.ensures.value } in
    let some : replayed (rows_of c.model.result.now) c.ends.result.now c.args.cert.now.steps c.cut_to_scenario.new.part ≡ Some c.replay.new.bounds = ap (λ (steps : List Step). replayed (rows_of c.model.result.now) c.ends.result.now steps c.cut_to_scenario.new.part) (sym c.as_slice.ensures) ∙ replay-yes (rows_of c.model.result.now) c.ends.result.now c.as_slice.result.now c.cut_to_scenario.new.part c.replay.new.bounds c.replay.result yes c.replay.ensures in
    replay-read c.args.problem.now c.args.s _ _ c.args.cert.now.steps c.args.bounds.now _ (Some c.replay.new.bounds) part some

pub returns-clause-no : goal.returns-clause-no
returns-clause-no c = λ no_.
    let part : IsPartOf c.args.problem.now c.args.s c.model.result.now c.ends.result.now c.args.bounds.now c.cut_to_scenario.new.part = record { scenario = c.requires.scenario; model = c.model.ensures; ends_are = c.ends.ensures.value; part_is = c.cut_to_scenario.ensures.value } in
    let none : replayed (rows_of c.model.result.now) c.ends.result.now c.args.cert.now.steps c.cut_to_scenario.new.part ≡ None = ap (λ (steps : List Step). replayed (rows_of c.model.result.now) c.ends.result.now steps c.cut_to_scenario.new.part) (sym c.as_slice.ensures) ∙ replay-no (rows_of c.model.result.now) c.ends.result.now c.as_slice.result.now c.cut_to_scenario.new.part c.replay.new.bounds c.replay.result no_ c.replay.ensures in
    replay-read c.args.problem.now c.args.s _ _ c.args.cert.now.steps c.args.bounds.now _ None part none

pub returns-clause-count : goal.returns-clause-count
returns-clause-count c = length-after (rows_of c.model.result.now) c.ends.result.now c.as_slice.result.now c.cut_to_scenario.new.part c.replay.new.bounds c.replay.result c.replay.ensures ∙ c.cut_to_scenario.ensures.count
