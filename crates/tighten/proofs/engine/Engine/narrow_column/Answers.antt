use Rattle.std.proofs.Common.{true}
use Rattle.tighten.proofs.EngineLemmas.{tightened-then, tightens-as}
use Rattle.tighten.proofs.StillLemmas.{column-still, still-as}
use Rattle.tighten.proofs.engine.Engine.narrow_column.Goals as goal

pub returns-clause-steps : goal.returns-clause-steps
returns-clause-steps c =
    tightened-then c.args.model.now c.args.ends.now c.args.self.now c.narrow_by.new.self c.narrow_by-2.new.self c.narrow_by-2.result
    (tightens-as c.args.model.now c.args.ends.now c.args.self.now c.narrow_by.new.self c.in_ok-narrow_by.field-0 true c.if-not-branch.false c.in_ok-narrow_by.ensures.steps) c.narrow_by-2.ensures.steps

pub returns-clause-still : goal.returns-clause-still
returns-clause-still c =
    column-still c.args.model.now c.args.ends.now c.args.self.now c.narrow_by.new.self c.narrow_by-2.new.self c.args.row c.args.column c.narrow_by-2.result
    c.in_ok-narrow_by.ensures.steps.follows c.narrow_by-2.ensures.steps
    (still-as _ c.args.self.now c.narrow_by.new.self c.in_ok-narrow_by.field-0 c.if-not-branch.false c.in_ok-narrow_by.ensures.still) c.narrow_by-2.ensures.still
