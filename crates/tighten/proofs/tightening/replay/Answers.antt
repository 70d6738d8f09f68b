use Rattle.std.proofs.Common.{rules, ◌∙◌, add-one, get_or, FitsSigned, w64}
use Rattle.std.proofs.lemmas.Int.{to_z-of_z}
use Rattle.tighten.specs.Steps.{rows_of}
use Rattle.tighten.specs.declared.step.Step.{Step}
use Rattle.tighten.specs.declared.step.RowEnd.TheVariants.{Lower}
use Rattle.tighten.proofs.StepLemmas.{stops-at, tightened-next, tightened_by-more}
use Rattle.tighten.proofs.tightening.replay.Goals as goal

-- what is read past the last step
abbrev past : Step
past = record { row = 0; column = 0; side = Lower }

pub returns-in_default : goal.returns-in_default
returns-in_default c =
    stops-at (rows_of c.args.model.now) c.args.ends.now c.args.steps.now c.loop-step.step-index past c.args.bounds.now c.loop-step.bounds c.apply_by.new.bounds c.loop-step.invariant.initially c.loop-step-test.true c.loop-step.invariant.reached c.in_default.ensures.0 c.in_default.ensures.1

pub loop-step-preserved : goal.loop-step-preserved
loop-step-preserved c =
    let fits : FitsSigned w64 c.in-Some.sum = search rules in
    let next = tightened-next (rows_of c.args.model.now) c.args.ends.now (get_or c.args.steps.now c.loop-step.step-index past) c.loop-step.bounds c.apply_by.new.bounds c.loop-step.invariant.occupied c.in-Some.ensures.0 in
    record {
      columns = next.count ∙ c.loop-step.invariant.columns;
      occupied = next.occupied;
      initially = c.loop-step.invariant.initially;
      kept = simp to_z-of_z c.in-Some.ensures.1;
      reached = rw add-one (tightened_by-more (rows_of c.args.model.now) c.args.ends.now c.args.steps.now c.loop-step.step-index past c.args.bounds.now c.loop-step.bounds c.loop-step-test.true c.loop-step.invariant.reached ∙ c.in-Some.ensures.0);
    }
