use Rattle.std.proofs.Common.{arith, ◌≡◌, sym, ◌∙◌, ap, FitsSigned, w32, Vec, Global, Option}
use Rattle.std.proofs.lemmas.Int.{to_z-of_z}
use Rattle.std.proofs.Common.{length}
use Rattle.int_model.specs.Models.{IntegerModel}
use Rattle.certs.specs.declared.level.Level.{Level}
use Rattle.open_pool.proofs.lawful.is_branched.Goals as goal

pub returns-then-are_kept-clause-yes : goal.returns-then-are_kept-clause-yes
returns-then-are_kept-clause-yes c = λ e.
    let fits : FitsSigned w32 c.args.value = c.ranges.value in
    let hull = simp to_z-of_z at (c.is_hull_split.ensures.yes c.if-not-is_hull_split.false) in
    let same : c.as_slice-raised.result.now ≡ c.args.scratch.now.raised.items = c.as_slice-raised.ensures.value ∙ ap (λ (v : Vec (Option Level) Global). v.items) c.is_hull_split.ensures.same in
    record {
      live = sym (rw c.deref.ensures at c.are_live.ensures) ∙ c.if-not-are_live.false;
      below = omega (arith, c.columns.ensures.count, ap (λ (m : IntegerModel). length m.columns) c.model.ensures);
      hull = hull;
      left_kept = rw same at (c.are_kept.ensures.yes c.if-are_kept.true);
      right_kept = rw same at (c.are_kept-then-are_kept.ensures.yes e);
    }
