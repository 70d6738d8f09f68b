use Rattle.std.proofs.Common.{◌≡◌, Some, length, ap, sym, ◌∙◌, subst}
use Rattle.std.specs.Prelude.{slice_get, option_copied}
use Rattle.int_model.specs.Models.{IntegerModel}
use Rattle.dual_bounds.specs.Vectors.{RowsBelow}
use Rattle.certs.proofs.ProblemLemmas.{rows-at}
use Rattle.judge_rounds.proofs.rounds.evaluated.Goals as goal

pub evaluate-sum-requires-clause-rows : goal.evaluate-sum-requires-clause-rows
evaluate-sum-requires-clause-rows c =
    let at : slice_get c.args.cert.now.vectors 0 ≡ Some c.in-Some.vector.now = sym c.get.ensures ∙ ap option_copied c.in-Some.is in
    subst (λ (m : IntegerModel). RowsBelow (length m.rows) c.in-Some.vector.now.entries) (sym c.model-in-Some.ensures)
    (rows-at (length c.args.problem.now.model.rows) c.args.cert.now.vectors 0 c.in-Some.vector.now c.requires.vectors at)
