use Rattle.std.proofs.Common.{arith, ◌≤◌, ◌∙◌, ◌∷◌, [], ap, Vec, length, length-append, FitsSigned, w32}
use Rattle.std.specs.declared.alloc.Global.{Global}
use Rattle.std.proofs.lemmas.Int.{ints, to_z-of_z}
use Rattle.tighten.specs.declared.engine.Change.{Change}
use Rattle.tighten.specs.declared.step.Step.{Step}
use Rattle.tighten.specs.Engines.{IsChange}
use Rattle.tighten.proofs.EngineLemmas.{undo-step, undo-trail, last-change}
use Rattle.tighten.proofs.engine.Engine.undo.Goals as goal

pub changes-preserved : goal.changes-preserved
changes-preserved c =
    let change : IsChange c.args.model.now c.in-Some.change = last-change (IsChange c.args.model.now) c.pop.new.self.items c.changes.self.trail.items c.in-Some.change c.in-Some.ensures.items c.changes.invariant.loaded.trail in
    let low_fits : FitsSigned w32 c.in-Some.change.low = omega (arith, ints, change.low) in
    let high_fits : FitsSigned w32 c.in-Some.change.high = omega (arith, ints, change.high) in
    let enough : c.args.mark ≤ length c.pop.new.self.items = omega (arith, ap length c.in-Some.ensures.items, length-append c.pop.new.self.items (c.in-Some.change ∷ [])) in
    let bounds = simp to_z-of_z at c.move_column.ensures.bounds in
    let trail = ap (λ (t : Vec Change Global). t.items) c.move_column.ensures.trail in
    record {
      loaded = c.move_column.ensures.loaded;
      bounds = rw trail (undo-step c.args.mark c.pop.new.self.items c.changes.self.trail.items c.in-Some.change _ _ c.in-Some.ensures.items enough bounds) ∙ c.changes.invariant.bounds;
      trail = rw trail (undo-trail c.args.mark c.pop.new.self.items c.changes.self.trail.items c.in-Some.change c.in-Some.ensures.items enough) ∙ c.changes.invariant.trail;
      steps = ap (λ (t : Vec Step Global). t.items) c.move_column.ensures.steps ∙ c.changes.invariant.steps;
    }
