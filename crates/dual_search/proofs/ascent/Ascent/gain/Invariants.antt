use Rattle.std.proofs.Common.{◌≤◌, ◌*◌, ◌^◌, unsigned_abs}
use Rattle.scenario_changes.specs.Problems.{problem}
use Rattle.dual_search.specs.Ascents.{vector_at, with_multiplier}
use Rattle.dual_search.proofs.TotalLemmas.{AreApart}
use Rattle.dual_search.proofs.ascent.Ascent.gain.Given as goal

abbrev pub invariant-loop-k : goal.invariant-loop-k
invariant-loop-k l = record {
  apart : AreApart (problem l.problem) l.self.scenarios.items l.boxes (vector_at l.self) (with_multiplier l.self l.row l.to) l.k l.gain;
  limit : unsigned_abs l.gain ≤ 2 ^ 116 * l.k;
}
