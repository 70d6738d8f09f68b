use Rattle.std.proofs.Common.{◌≡◌, length, All}
use Rattle.dual_climb.specs.Climbs.{IsBelow, IsPart}
use Rattle.dual_climb.proofs.interior.Interior.new.Given as goal

abbrev pub invariant-loop-t : goal.invariant-loop-t
invariant-loop-t l = record {
  parts : All (IsPart (length l.terms.items)) l.spans.items;
  below : All (IsBelow l.relaxation.rows) l.terms.items;
  each : length l.columns.items ≡ length l.spans.items;
}
