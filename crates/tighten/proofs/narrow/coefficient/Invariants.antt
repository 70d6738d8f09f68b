use Rattle.std.proofs.Common.{◌≡◌, ℕ, ◌<◌, get_or, pos}
use Rattle.tighten.proofs.narrow.coefficient.Given as goal

abbrev pub invariant-loop-other : goal.invariant-loop-other
invariant-loop-other l = (k : ℕ) → k < l.other-index → (get_or l.terms k (0, pos 0)).0 ≡ l.column → ⊥
