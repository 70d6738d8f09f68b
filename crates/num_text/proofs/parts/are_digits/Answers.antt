use Rattle.std.proofs.Common.{◌∙◌, sym, ap, ◌<◌, ◌&&◌, length, arith}
use Rattle.std.specs.List.{list_all}
use Rattle.std.specs.Char.{is_ascii_digit}
use Rattle.std.proofs.lemmas.Bool.Decides.{nat_tests}
use Rattle.num_text.proofs.PartLaws.{is_digits-append}
use Rattle.num_text.proofs.parts.are_digits.Goals as goal

pub returns-then-are_all_digits : goal.returns-then-are_all_digits
returns-then-are_all_digits c =
    let some : 0 < length c.args.front.now = grind (arith, nat_tests) in
    c.are_all_digits-then-are_all_digits.ensures
    ∙ sym (is_digits-append c.args.front.now c.args.back.now some ∙ ap (λ t. t && list_all is_ascii_digit c.args.back.now) (sym c.are_all_digits.ensures ∙ c.if-are_all_digits.true))
