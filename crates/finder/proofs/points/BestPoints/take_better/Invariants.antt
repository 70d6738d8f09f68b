use Rattle.std.proofs.Common.{◌≡◌, ℕ, ◌<◌, ◌≤◌, length}
use Rattle.incumbent_words.specs.Rule.{code_at}
use Rattle.finder.specs.Kept.{place_at}
use Rattle.finder.proofs.points.BestPoints.take_better.Given as goal

abbrev pub invariant-loop-place : goal.invariant-loop-place
invariant-loop-place l = record {
  here : l.s ≡ length l.yielded;
  len : length l.self ≡ length l.initial.self;
  less : (k : ℕ) → k < l.s → code_at l.theirs.view.offers k < code_at l.mine.view.offers k → place_at l.self k ≡ place_at l.yielded k;
  most : (k : ℕ) → k < l.s → code_at l.mine.view.offers k ≤ code_at l.theirs.view.offers k → place_at l.self k ≡ place_at l.initial.self k;
  rest : (k : ℕ) → l.s ≤ k → place_at l.self k ≡ place_at l.initial.self k;
}
