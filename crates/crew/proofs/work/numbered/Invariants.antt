use Rattle.std.proofs.Common.{◌≡◌, map}
use Rattle.crew.proofs.work.numbered.Given as goal

abbrev pub invariant-loop-finder : goal.invariant-loop-finder
invariant-loop-finder l = map (λ w. w.finder) l.workers.items ≡ l.yielded
