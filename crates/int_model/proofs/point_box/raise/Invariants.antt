use Rattle.std.proofs.Common.{◌≡◌, ℕ, ◌<◌, ◌≤◌, get_or, pos}
use Rattle.std.specs.Int.{int_max}
use Rattle.int_model.proofs.point_box.raise.Given as goal

abbrev pub invariant-loop-j : goal.invariant-loop-j
invariant-loop-j l = record {
  done : (k : ℕ) → k < l.j → get_or l.items k (pos 0) ≡ int_max (get_or l.initial.items k (pos 0)) (get_or l.others k (pos 0));
  rest : (k : ℕ) → l.j ≤ k → get_or l.items k (pos 0) ≡ get_or l.initial.items k (pos 0);
}
