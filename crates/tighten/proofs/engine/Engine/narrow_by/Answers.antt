use Rattle.std.proofs.Common.{arith, FitsSigned, w32}
use Rattle.std.proofs.lemmas.Int.{ints, to_z-of_z}
use Rattle.tighten.proofs.EngineLemmas.{loaded-kept, tightens-same, tightens-less, tightens-empty, tightened-at_err}
use Rattle.tighten.proofs.StepRuns.{tightens-none}
use Rattle.tighten.proofs.engine.Engine.narrow_by.Goals as goal

pub returns-in_err-set-in-Less-clause-steps : goal.returns-in_err-set-in-Less-clause-steps
returns-in_err-set-in-Less-clause-steps c =
    tightened-at_err c.args.model.now c.args.ends.now c.args.self.now c.set.new.self c.from_residual.result c.from_residual.ensures.0
    (tightens-none c.args.model.now c.args.ends.now c.args.self.now c.set.new.self c.requires.loaded.sized.few c.in_err-set-in-Less.ensures.set)

pub returns-in-Same-clause-steps : goal.returns-in-Same-clause-steps
returns-in-Same-clause-steps c = tightens-same c.args.model.now c.args.ends.now c.args.self.now c.requires.loaded

pub returns-in_ok-set-in-Less-clause-loaded : goal.returns-in_ok-set-in-Less-clause-loaded
returns-in_ok-set-in-Less-clause-loaded c = loaded-kept c.args.model.now c.set.new.self c.keep.new.self c.args.step c.in_ok-set-in-Less.ensures.loaded c.keep.ensures

pub returns-in_ok-set-in-Less-clause-steps : goal.returns-in_ok-set-in-Less-clause-steps
returns-in_ok-set-in-Less-clause-steps c =
    let low_fits : FitsSigned w32 c.in-Less.low = omega (arith, ints, c.in-Less.ensures.3) in
    let high_fits : FitsSigned w32 c.in-Less.high = omega (arith, ints, c.in-Less.ensures.4) in
    let moves = simp to_z-of_z at c.in_ok-set-in-Less.ensures.set in
    tightens-less c.args.model.now c.args.ends.now c.args.self.now c.set.new.self c.keep.new.self c.args.step c.in-Less.low c.in-Less.high c.requires.loaded c.requires.step c.in-Less.ensures moves c.keep.ensures

pub returns-in-Empty-clause-loaded : goal.returns-in-Empty-clause-loaded
returns-in-Empty-clause-loaded c = loaded-kept c.args.model.now c.args.self.now c.keep-in-Empty.new.self c.args.step c.requires.loaded c.keep-in-Empty.ensures

pub returns-in-Empty-clause-steps : goal.returns-in-Empty-clause-steps
returns-in-Empty-clause-steps c = tightens-empty c.args.model.now c.args.ends.now c.args.self.now c.keep-in-Empty.new.self c.args.step c.requires.step c.in-Empty.ensures c.keep-in-Empty.ensures
