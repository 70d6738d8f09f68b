use Rattle.std.proofs.Common.{◌∙◌, sym, ap}
use Rattle.num_text.specs.NumberText.{digits_after, digits_number}
use Rattle.num_text.specs.Held.{held}
use Rattle.num_text.proofs.NumberLaws.{held_after, digits_after-append}
use Rattle.num_text.proofs.value.number_of_both.Goals as goal

pub returns : goal.returns
returns c =
    c.number_after-2.ensures
    ∙ ap (λ n. held (digits_after n c.args.back.now)) c.number_after.ensures
    ∙ held_after (digits_number c.args.front.now) c.args.back.now
    ∙ ap held (sym (digits_after-append 0 c.args.front.now c.args.back.now))
