use Rattle.std.proofs.Common.{arith, length}
use Rattle.std.proofs.lemmas.List.Elements.{All-push}
use Rattle.dual_climb.specs.Climbs.{IsSpan}
use Rattle.dual_climb.proofs.relaxation.free_columns.Goals as goal

pub loop-number-preserved : goal.loop-number-preserved
loop-number-preserved c = record {
  spans = rw c.in_ok-push.ensures.items (All-push (IsSpan (length c.append.new.terms.items)) c.loop-number.columns.items _
      (λ k d h. let s = c.loop-number.invariant.spans k d h in (s.0, omega (arith, s.1, c.in_ok-append.ensures.longer)))
      (omega (arith, c.in_ok-append.ensures.longer), omega arith));
  rows = c.in_ok-append.ensures.rows;
}
