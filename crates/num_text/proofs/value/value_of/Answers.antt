use Rattle.std.proofs.Common.{◌≡◌, ◌∙◌, sym, length, inl, inr, arith}
use Rattle.num_text.specs.NumberText.{digits_number}
use Rattle.num_text.proofs.CutLaws.{whole_of-front, whole_of-within, whole_of-back, power_cases}
use Rattle.num_text.proofs.value.value_of.Goals as goal

pub returns-then-exponent : goal.returns-then-exponent
returns-then-exponent c =
    c.value_below.ensures
    ∙ rw c.if-exponent.true (sym (whole_of-front c.args.negative c.args.whole.now c.args.behind.now (digits_number c.args.exponent.digits.now) c.number_after-power.result c.requires.digits c.number_after-power.ensures (omega arith)))

pub returns-then-power-places : goal.returns-then-power-places
returns-then-power-places c =
    let exact : c.number_after-power.result ≡ digits_number c.args.exponent.digits.now =
    elim (power_cases c.args.exponent.digits.now c.number_after-power.result (length c.args.behind.now) c.requires.exponent_digits c.number_after-power.ensures (omega arith)) [
      | inl same ↦ same
      | inr far ↦ absurd (omega arith)
    ] in
    c.value_within.ensures
    ∙ rw (c.if-exponent.false, exact) (sym (whole_of-within c.args.negative c.args.whole.now c.args.behind.now (digits_number c.args.exponent.digits.now) c.requires.digits (omega arith)))

pub returns-else-power-places : goal.returns-else-power-places
returns-else-power-places c =
    c.value_past.ensures
    ∙ rw c.if-exponent.false (sym (whole_of-back c.args.negative c.args.whole.now c.args.behind.now c.args.exponent.digits.now c.number_after-power.result c.requires.exponent_digits c.number_after-power.ensures (omega arith) c.if-power-places.false))
