use Rattle.std.proofs.Common.{arith, ◌≡◌, ◌∙◌, Some, true, false, subst, Bool, length}
use Rattle.int_model.specs.Boxes.{Box}
use Rattle.tighten.specs.declared.engine.Engine.{Engine}
use Rattle.tighten.specs.Engines.{box_in, Tightens, Follows}
use Rattle.tighten.specs.Steps.{rows_of}
use Rattle.dive.proofs.PartLemmas.{steps-part}
use Rattle.dive.proofs.FollowLemmas.{follows-more}
use Rattle.dive.proofs.diver.Diver.tighten.Goals as goal

pub returns-then-branch-clause-tightened : goal.returns-then-branch-clause-tightened
returns-then-branch-clause-tightened c =
    let taken : Tightens c.model-model.result.now c.ends-ends.result.now c.args.self.now.engine true c.propagate.new.self = subst (λ (b : Bool). Tightens c.model-model.result.now c.ends-ends.result.now c.args.self.now.engine b c.propagate.new.self) c.if-branch.true c.in_ok-propagate.ensures.steps in
    steps-part (rows_of c.model-model.result.now) c.ends-ends.result.now taken.taken (box_in c.args.self.now.engine) (box_in c.propagate.new.self) taken.leads

pub returns-clause-tightened : goal.returns-clause-tightened
returns-clause-tightened c start at follows = c.undo.ensures.back start at (follows-more start c.args.self.now.engine c.propagate.new.self follows c.in_ok-propagate.ensures.steps.follows)
