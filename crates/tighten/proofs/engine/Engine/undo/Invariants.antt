use Rattle.std.proofs.Common.{◌≡◌, length, take, drop}
use Rattle.tighten.specs.Engines.{IsLoaded, box_in, restored}
use Rattle.tighten.proofs.engine.Engine.undo.Given as goal

abbrev pub invariant-changes : goal.invariant-changes
invariant-changes l = record {
  loaded : IsLoaded l.model l.self;
  bounds : restored (drop l.mark l.self.trail.items) (box_in l.self) ≡ restored (drop l.mark l.initial.self.trail.items) (box_in l.initial.self);
  trail : take l.mark l.self.trail.items ≡ take l.mark l.initial.self.trail.items;
  steps : l.self.steps.items ≡ l.initial.self.steps.items;
}

abbrev pub decreases-changes : goal.decreases-changes
decreases-changes l = length l.self.trail.items
