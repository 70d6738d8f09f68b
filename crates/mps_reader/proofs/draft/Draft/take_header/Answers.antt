use Rattle.std.proofs.Common.{◌∙◌, ap}
use Rattle.std.specs.Prelude.{bytes_eq, codes}
use Rattle.mps_reader.proofs.draft.Draft.take_header.Goals as goal

pub returns-clause-ok : goal.returns-clause-ok
returns-clause-ok c = λ ls l is a.
    let e = c.in_ok-section.ensures.ok ls l a is in
    (e.0, c.progress_at.ensures ∙ ap (λ w. bytes_eq w (codes "ENDATA")) e.1, e.2)
