use Rattle.std.proofs.Common.{◌≡◌, ◌∙◌, ap, ◌++◌, ◌<◌, ◌^◌, unsigned_abs, FitsSigned, w64, arith}
use Rattle.std.proofs.lemmas.Int.{ints, to_z-of_z}
use Rattle.num_text.specs.NumberText.{integer_text}
use Rattle.num_text.proofs.TextLaws.{appended_text}
use Rattle.num_text.proofs.decimal.write_number.Goals as goal

pub returns-clause-meaning : goal.returns-clause-meaning
returns-clause-meaning c =
    let fits : FitsSigned w64 c.args.value = c.ranges.value in
    let short : unsigned_abs c.args.value < 2 ^ 64 = omega (arith, ints) in
    let text : c.as_bytes.result.now ≡ integer_text c.args.value = c.as_bytes.ensures.value ∙ (simp to_z-of_z at c.format.ensures.text) in
    appended_text c.args.value c.args.out.now.items c.extend_from_slice.new.self.items short (c.in_ok-extend_from_slice.ensures.items ∙ ap (λ l. c.args.out.now.items ++ l) text)
