use Rattle.std.proofs.Common.{arith, ◌≡◌, ◌∙◌, ◌++◌, ◌<◌, ◌≤◌, ◌+◌, ◌*◌, ◌-◌, ap, sym, subst, List, take, length}
use Rattle.std.specs.List.{All}
use Rattle.std.proofs.lemmas.List.{append-nil, length-append, length-take}
use Rattle.std.proofs.lemmas.List.Elements.{All-take}
use Rattle.tighten.specs.Engines.{EachNarrows}
use Rattle.tighten.specs.Steps.{IsStep, rows_of}
use Rattle.tighten.specs.declared.step.Step.{Step}
use Rattle.tighten.proofs.StillLemmas.{at-rest, none-occupied}
use Rattle.tighten.proofs.StepRuns.{narrows-take, settled-none}
use Rattle.tighten.proofs.proposal.propose.Goals as goal

pub returns-clause-steps : goal.returns-clause-steps
returns-clause-steps c =
    let rows = rows_of c.args.model.now in
    let t = c.in_ok-propagate.ensures.steps in
    let found : c.steps-found.result.now ≡ take 128 t.taken = c.steps-found.ensures ∙ t.kept ∙ ap (λ (s : List Step). take 128 (s ++ t.taken)) c.load.ensures.steps in
    let first : EachNarrows (rows_of c.args.model.now) c.args.ends.now t.taken c.args.bounds.now = subst (EachNarrows (rows_of c.args.model.now) c.args.ends.now t.taken) c.load.ensures.bounds t.narrows in
    let narrows : EachNarrows (rows_of c.args.model.now) c.args.ends.now (take c.min-kept.result c.steps-found.result.now) c.args.bounds.now =
    subst (λ (s : List Step). EachNarrows (rows_of c.args.model.now) c.args.ends.now (take c.min-kept.result s) c.args.bounds.now) (sym found)
    (narrows-take (rows_of c.args.model.now) c.args.ends.now (take 128 t.taken) c.min-kept.result c.args.bounds.now (narrows-take (rows_of c.args.model.now) c.args.ends.now t.taken 128 c.args.bounds.now first)) in
    let are_steps : All (IsStep c.args.model.now) (take c.min-kept.result c.steps-found.result.now) =
    subst (λ (s : List Step). All (IsStep c.args.model.now) (take c.min-kept.result s)) (sym found) (All-take (IsStep c.args.model.now) c.min-kept.result (take 128 t.taken) (All-take (IsStep c.args.model.now) 128 t.taken t.are_steps)) in
    record {
      added = take c.min-kept.result c.steps-found.result.now;
      extends = c.in_ok-extend_from_slice.ensures.items;
      are_steps = are_steps;
      narrows = narrows;
      few = omega (arith, ap length c.in_ok-extend_from_slice.ensures.items, length-append c.args.steps.now.items (take c.min-kept.result c.steps-found.result.now), length-take c.min-kept.result c.steps-found.result.now, c.min-kept.ensures, c.len-room.ensures, c.requires.few);
    }

pub returns-clause-settled : goal.returns-clause-settled
returns-clause-settled c none =
    let rows = rows_of c.args.model.now in
    let t = c.in_ok-propagate.ensures.steps in
    let found : c.steps-found.result.now ≡ take 128 t.taken = c.steps-found.ensures ∙ t.kept ∙ ap (λ (s : List Step). take 128 (s ++ t.taken)) c.load.ensures.steps in
    let first : EachNarrows (rows_of c.args.model.now) c.args.ends.now t.taken c.args.bounds.now = subst (EachNarrows (rows_of c.args.model.now) c.args.ends.now t.taken) c.load.ensures.bounds t.narrows in
    let narrows : EachNarrows (rows_of c.args.model.now) c.args.ends.now (take c.min-kept.result c.steps-found.result.now) c.args.bounds.now =
    subst (λ (s : List Step). EachNarrows (rows_of c.args.model.now) c.args.ends.now (take c.min-kept.result s) c.args.bounds.now) (sym found)
    (narrows-take (rows_of c.args.model.now) c.args.ends.now (take 128 t.taken) c.min-kept.result c.args.bounds.now (narrows-take (rows_of c.args.model.now) c.args.ends.now t.taken 128 c.args.bounds.now first)) in
    let are_steps : All (IsStep c.args.model.now) (take c.min-kept.result c.steps-found.result.now) =
    subst (λ (s : List Step). All (IsStep c.args.model.now) (take c.min-kept.result s)) (sym found) (All-take (IsStep c.args.model.now) c.min-kept.result (take 128 t.taken) (All-take (IsStep c.args.model.now) 128 t.taken t.are_steps)) in
    let empty = settled-none c.args.model.now c.args.ends.now (take c.min-kept.result c.steps-found.result.now) c.args.bounds.now narrows are_steps none in
    c.in_ok-extend_from_slice.ensures.items ∙ ap (λ (s : List Step). c.args.steps.now.items ++ s) empty ∙ append-nil c.args.steps.now.items

pub returns-clause-narrows : goal.returns-clause-narrows
returns-clause-narrows c same few occupied =
    let t = c.in_ok-propagate.ensures.steps in
    let found : c.steps-found.result.now ≡ take 128 t.taken = c.steps-found.ensures ∙ t.kept ∙ ap (λ (s : List Step). take 128 (s ++ t.taken)) c.load.ensures.steps in
    let no_more : length (take c.min-kept.result c.steps-found.result.now) ≡ 0 = omega (arith, ap length (sym c.in_ok-extend_from_slice.ensures.items ∙ same), length-append c.args.steps.now.items (take c.min-kept.result c.steps-found.result.now)) in
    let no_steps : length c.steps-found.result.now ≡ 0 = omega (arith, no_more, length-take c.min-kept.result c.steps-found.result.now, c.min-kept.ensures, c.len-room.ensures, few) in
    let none : length t.taken ≡ 0 = omega (arith, no_steps, ap length found, length-take 128 t.taken) in
    let still : length c.propagate.new.self.trail.items ≡ length c.load.new.self.trail.items = omega (arith, ap length t.follows.trail, length-append c.load.new.self.trail.items t.follows.added, t.count, none) in
    let enough : length c.args.model.now.rows ≤ 20 * c.rows.result + 100 = omega (arith, c.rows.ensures.count) in
    let start : length c.load.new.self.trail.items < 128 - c.len-room.result = omega (arith, ap length c.load.ensures.trail, c.len-room.ensures, few) in
    at-rest c.args.model.now c.args.ends.now c.args.bounds.now c.load.new.self c.propagate.new.self c.in_ok-propagate.field-0 (none-occupied c.args.model.now c.args.ends.now c.load.new.self c.propagate.new.self c.in_ok-propagate.field-0 t none)
    (c.in_ok-propagate.ensures.rest c.load.ensures.fresh enough start) still c.load.ensures.bounds
