use Rattle.std.proofs.Common.{◌∙◌, ap, sym, refl, Some}
use Rattle.std.specs.Prelude.{slice_index_or, []}
use Rattle.mps_reader.proofs.OpeningLemmas.{direction_taken, first_and_rest, none_when}
use Rattle.mps_reader.proofs.header.Headers.take_direction.Goals as goal

pub returns-clause-ok : goal.returns-clause-ok
returns-clause-ok c = λ earlier l a d last.
    let told = c.in_ok-direction_named.ensures.ok in
    direction_taken c.args.self.now _ earlier l _ _ a d last (none_when c.args.self.now.direction (sym c.if-is_some.ensures))
    (ap (λ fs. slice_index_or fs 0 []) (d.fields ∙ first_and_rest c.args.fields.now _ c.requires)) told.0 refl (ap Some told.1)
