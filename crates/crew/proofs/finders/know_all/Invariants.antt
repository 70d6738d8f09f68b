use Rattle.std.proofs.Common.{ℕ, ◌<◌, get_or}
use Rattle.finder.specs.Found.{Found, IsSound}
use Rattle.crew.proofs.finders.know_all.Given as goal

abbrev pub invariant-loop-i : goal.invariant-loop-i
invariant-loop-i l = (k : ℕ) (d : Found) → k < l.i → IsSound (get_or l.finders k d)
