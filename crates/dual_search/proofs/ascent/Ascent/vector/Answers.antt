use Rattle.std.proofs.Common.{arith}
use Rattle.dual_search.proofs.ascent.Ascent.vector.Goals as goal

pub overflow_cast-row : goal.overflow_cast-row
overflow_cast-row c = omega (arith, c.requires.few_rows, c.loop-row-test.true)
