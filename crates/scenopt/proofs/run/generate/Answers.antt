use Rattle.std.proofs.Common.{◌≡◌, ◌∙◌, ◌∷◌, [], ℕ, List, refl, inl}
use Rattle.scenario_changes.specs.Problems.{Scenarios}
use Rattle.scenario_changes.specs.declared.answer.Answer.{Answer}
use Rattle.scen_report.specs.Summaries.{summary_text}
use Rattle.scenopt.proofs.RunLemmas.{prints_as}
use Rattle.scenopt.proofs.run.generate.Goals as goal

pub returns : goal.returns
returns g c =
    let p : Scenarios = c.in-Ok.problem in
    let answers : List Answer = c.in-Ok-solved.ended.answers in
    let text : c.in-Ok-write_summary.text.items ≡ summary_text p answers (c.args.seed ∷ c.args.columns ∷ c.args.rows ∷ c.args.scenarios ∷ []) = rw (c.from.ensures, c.from-2.ensures, c.from-3.ensures) at c.in-Ok-write_summary.ensures in
    record {
      sums = inl (p, c.in-Ok.ensures, (answers, c.in-Ok-solved.ended.tree, c.in-Ok-solved.ensures.solved, prints_as _ _ _ _ _ _ _ c.status_of.ensures (c.deref.ensures.value ∙ text) c.print.ensures.prints));
      files = c.print.ensures.files;
      fetched = c.print.ensures.fetched;
    }
