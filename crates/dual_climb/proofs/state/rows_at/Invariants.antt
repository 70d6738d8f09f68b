use Rattle.std.proofs.Common.{◌≡◌, length}
use Rattle.dual_climb.proofs.state.rows_at.Given as goal

abbrev pub invariant-loop-i : goal.invariant-loop-i
invariant-loop-i l = length l.rows.items ≡ l.i
