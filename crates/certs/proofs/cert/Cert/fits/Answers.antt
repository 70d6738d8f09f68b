use Rattle.std.proofs.Common.{◌≡◌, ℕ, ap, sym, ◌∙◌, subst, length, true}
use Rattle.std.specs.List.{list_all}
use Rattle.int_model.specs.Models.{IntegerModel}
use Rattle.certs.specs.Trees.{vector_within}
use Rattle.certs.proofs.FitLemmas.{vectors-within}
use Rattle.certs.proofs.cert.Cert.fits.Goals as goal

pub returns-then-steps_fit-clause-vectors : goal.returns-then-steps_fit-clause-vectors
returns-then-steps_fit-clause-vectors c = λ t.
    let rows : c.rows-rows.result ≡ length c.args.problem.now.model.rows = c.rows-rows.ensures.count ∙ ap (λ (m : IntegerModel). length m.rows) c.model-model.ensures in
    let tested : list_all (vector_within c.rows-rows.result) c.args.self.now.vectors ≡ true = sym c.vectors_fit.ensures.value ∙ t in
    vectors-within (length c.args.problem.now.model.rows) c.args.self.now.vectors (subst (λ (n : ℕ). list_all (vector_within n) c.args.self.now.vectors ≡ true) rows tested)
