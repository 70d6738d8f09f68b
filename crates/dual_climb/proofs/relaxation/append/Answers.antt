use Rattle.std.proofs.Common.{arith, ℕ, ℤ, pos, get_or}
use Rattle.std.proofs.lemmas.List.Elements.{All-push}
use Rattle.dual_climb.specs.Climbs.{IsBelow}
use Rattle.dual_climb.specs.Terms.{IsTerm}
use Rattle.dual_climb.proofs.relaxation.append.Goals as goal

pub loop-row-preserved : goal.loop-row-preserved
loop-row-preserved c =
    let t : ℕ × ℤ = get_or c.args.column.now c.loop-row.row-index (0, pos 0) in
    let fit : IsTerm c.args.rows t = c.requires.column c.loop-row.row-index (0, pos 0) c.loop-row-test.true in
    record {
      longer = omega (arith, c.in_ok-push.ensures.len, c.loop-row.invariant.longer);
      rows = rw c.in_ok-push.ensures.items (All-push (IsBelow c.args.rows) c.loop-row.terms.items _ c.loop-row.invariant.rows fit.row);
    }
