use Rattle.std.proofs.Common.{◌≡◌, ◌∙◌, ap, ◌*◌, ◌^◌, ◌++◌, min, arith}
use Rattle.std.proofs.Math.Nat.{one-le-pow}
use Rattle.num_text.specs.NumberText.{digits_number, fitting}
use Rattle.num_text.specs.Held.{held}
use Rattle.num_text.proofs.NumberLaws.{held_product}
use Rattle.num_text.proofs.value.value_past.Goals as goal

pub returns : goal.returns
returns c =
    let power : c.saturating_pow-power.result ≡ held (10 ^ min c.args.zeros 20) = c.saturating_pow-power.ensures ∙ ap (λ n. held (10 ^ n)) c.min.ensures in
    c.fitted.ensures
    ∙ ap (fitting c.args.negative) (c.saturating_mul.ensures ∙ ap (λ n. held (n * c.saturating_pow-power.result)) c.number_of_both.ensures ∙ ap (λ n. held (held (digits_number (c.args.whole.now ++ c.args.behind.now)) * n)) power)
    ∙ held_product c.args.negative (digits_number (c.args.whole.now ++ c.args.behind.now)) (10 ^ min c.args.zeros 20) (one-le-pow (min c.args.zeros 20) 10 (omega arith))
