use Rattle.std.proofs.Common.{◌≡◌, ◌∙◌, sym, ap, arith}
use Rattle.std.proofs.lemmas.List.{at_drop_all}
use Rattle.num_text.specs.NumberText.{digits_after}
use Rattle.num_text.specs.Held.{held}
use Rattle.num_text.proofs.NumberLaws.{held_more}
use Rattle.num_text.proofs.value.number_after.Goals as goal

pub loop-digit-preserved : goal.loop-digit-preserved
loop-digit-preserved c = record {
  so_far = held_more c.args.start c.loop-digit.number c.saturating_add-number.result c.args.digits.now c.loop-digit.digit-index c.loop-digit-test.true c.loop-digit.invariant.so_far (omega arith);
  fits = omega arith;
}

pub returns : goal.returns
returns c =
    let exact : c.loop-digit.number ≡ held c.loop-digit.number = omega (arith, c.loop-digit.invariant.fits) in
    exact ∙ sym (c.loop-digit.invariant.so_far ∙ ap held (at_drop_all (digits_after c.loop-digit.number) c.args.digits.now c.loop-digit.digit-index c.loop-digit-test.false))
