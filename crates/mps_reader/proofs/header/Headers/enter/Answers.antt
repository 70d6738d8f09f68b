use Rattle.std.proofs.Common.{◌∙◌, sym, ap, Some}
use Rattle.mps_reader.proofs.OpeningLemmas.{entered, lacks_same, header_lacks, header_direction_refused, first_and_rest}
use Rattle.mps_reader.proofs.FaultLemmas.{refused_as}
use Rattle.mps_reader.proofs.header.Headers.enter.Goals as goal

pub returns-clause-ok : goal.returns-clause-ok
returns-clause-ok c = λ earlier l a is.
    let told = c.in_ok-section.ensures.ok in
    entered c.args.self.now _ earlier l _ _ c.in_ok-section.section a
    (record { header = is.header; section = is.section; fields = is.fields ∙ first_and_rest c.args.fields.now _ c.requires })
    (sym (lacks_same c.args.self.now earlier a) ∙ sym c.if-lacks_direction.ensures)
    told.0 told.1 c.in_ok-direction.ensures.ok c.in_ok-push.ensures.items

pub returns-then-lacks_direction-clause-err : goal.returns-then-lacks_direction-clause-err
returns-then-lacks_direction-clause-err c = λ earlier l a is. header_lacks earlier l (sym (lacks_same c.args.self.now earlier a) ∙ sym c.if-lacks_direction.ensures)

pub returns-in_err-direction-clause-err : goal.returns-in_err-direction-clause-err
returns-in_err-direction-clause-err c =
    refused_as c.from_residual-in_err-direction.result c.in_err-direction.field-0.0 _ c.from_residual-in_err-direction.ensures.1
    (λ earlier l a is.
    let told = c.in_ok-section.ensures.ok in
    let bad = c.in_err-direction.ensures.err in
    header_direction_refused c.args.self.now earlier l _ _ c.in_ok-section.section a
    (record { header = is.header; section = is.section; fields = is.fields ∙ first_and_rest c.args.fields.now _ c.requires })
    (sym (lacks_same c.args.self.now earlier a) ∙ sym c.if-lacks_direction.ensures) told.0 told.1 bad.1
    ∙ ap Some (sym bad.0))
