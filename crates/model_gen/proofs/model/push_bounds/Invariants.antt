use Rattle.std.proofs.Common.{◌≡◌, ◌++◌}
use Rattle.model_gen.specs.Texts as texts
use Rattle.model_gen.proofs.model.push_bounds.Given as goal

abbrev pub invariant-loop-j : goal.invariant-loop-j
invariant-loop-j l = l.out.items ≡ l.fn.out.items ++ texts.for_each l.j (texts.bound_line)
