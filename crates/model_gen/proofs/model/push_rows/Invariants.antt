use Rattle.std.proofs.Common.{◌≡◌, ◌++◌}
use Rattle.model_gen.specs.Texts as texts
use Rattle.model_gen.proofs.model.push_rows.Given as goal

abbrev pub invariant-loop-i : goal.invariant-loop-i
invariant-loop-i l = l.out.items ≡ l.fn.out.items ++ texts.for_each l.i (texts.row_line)
