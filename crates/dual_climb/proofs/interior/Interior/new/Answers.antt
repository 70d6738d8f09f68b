use Rattle.std.proofs.Common.{arith, length}
use Rattle.std.proofs.lemmas.List.Elements.{All-push}
use Rattle.dual_climb.specs.Climbs.{IsPart}
use Rattle.dual_climb.proofs.interior.Interior.new.Goals as goal

pub loop-t-preserved : goal.loop-t-preserved
loop-t-preserved c = record {
  parts = rw c.in_ok-push.ensures.items (All-push (IsPart (length c.append_active.new.terms.items)) c.loop-t.spans.items _
      (λ k d h. let s = c.loop-t.invariant.parts k d h in (s.0, omega (arith, s.1, c.in_ok-append_active.ensures.longer)))
      (omega (arith, c.in_ok-append_active.ensures.longer), omega arith));
  below = rw (← c.requires.rows) c.in_ok-append_active.ensures.rows;
  each = omega (arith, c.in_ok-push.ensures.len, c.in_ok-push-2.ensures.len, c.loop-t.invariant.each);
}
