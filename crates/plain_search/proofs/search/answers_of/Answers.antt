use Rattle.std.proofs.Common.{rules, arith, ◌≡◌, ◌∙◌, ◌++◌, ◌∷◌, [], ap, sym, subst, length, List}
use Rattle.std.specs.List.{All}
use Rattle.std.proofs.lemmas.List.{append-nil}
use Rattle.std.proofs.lemmas.List.Elements.{All-push, All-nil}
use Rattle.std.proofs.Math.ListN.{length-append}
use Rattle.scen_report.specs.Reports.{Fits}
use Rattle.scenario_changes.specs.Problems.{problem}
use Rattle.scenario_changes.specs.declared.answer.Answer.{Answer}
use Rattle.plain_search.specs.Searches.{AreRight}
use Rattle.plain_search.proofs.SearchLemmas.{right_more}
use Rattle.plain_search.proofs.search.answers_of.Goals as goal

pub loop-s-init : goal.loop-s-init
loop-s-init c = record {
  count = ap length c.new-answers.ensures.items;
  right = λ k h. absurd (omega (arith, h, ap length c.new-answers.ensures.items));
  fits = subst (λ (l : List Answer). All (Fits (length c.args.problem.now.model.columns)) l) (sym c.new-answers.ensures.items) (All-nil (Fits (length c.args.problem.now.model.columns)));
}

pub loop-s-preserved : goal.loop-s-preserved
loop-s-preserved c = record {
  count = omega (arith, c.loop-s.invariant.count, ap length c.in_ok-push.ensures.items, length-append c.loop-s.answers.items (c.in_ok-answer_of.field-0 ∷ []));
  right = right_more (problem c.args.problem.now) c.loop-s.answers.items c.push.new.self.items c.in_ok-answer_of.field-0 c.loop-s.s c.in_ok-push.ensures.items c.loop-s.invariant.count c.loop-s.invariant.right c.in_ok-answer_of.ensures.right;
  fits = subst (λ (l : List Answer). All (Fits (length c.args.problem.now.model.columns)) l) (sym c.in_ok-push.ensures.items) (All-push (Fits (length c.args.problem.now.model.columns)) c.loop-s.answers.items c.in_ok-answer_of.field-0 c.loop-s.invariant.fits c.in_ok-answer_of.ensures.fits);
}

pub returns-clause-right : goal.returns-clause-right
returns-clause-right c = subst (λ (l : List Answer). AreRight (problem c.args.problem.now) l) (sym c.from_vec.ensures) (record {
  count = omega (arith, c.loop-s.invariant.count, c.loop-s.auto.s-end, c.loop-s-test.false, c.count-s-end.ensures.count);
  right = λ k h. c.loop-s.invariant.right k (omega (arith, h, c.loop-s.invariant.count, c.loop-s.auto.s-end, c.loop-s-test.false, c.count-s-end.ensures.count));
})

pub returns-clause-fits : goal.returns-clause-fits
returns-clause-fits c = subst (λ (l : List Answer). All (Fits (length c.args.problem.now.model.columns)) l) (sym c.from_vec.ensures) c.loop-s.invariant.fits
