use Rattle.std.proofs.Common.{rules, arith, ◌∙◌, ◌++◌, ◌<◌, ◌≤◌, ap, length}
use Rattle.scen_report.specs.Summaries.{command_line, summary_text}
use Rattle.scen_report.proofs.SummaryLemmas.{outcomes_begun, outcomes_more, outcomes_ended}
use Rattle.scen_report.proofs.summary.write_summary.Goals as goal

pub loop-s-init : goal.loop-s-init
loop-s-init c = outcomes_begun c.args.problem.now.model.direction _ (command_line c.args.words.now) _ (c.in_ok-push_command.ensures ∙ ap (λ l. l ++ command_line c.args.words.now) c.new-out.ensures.items)

pub loop-s-preserved : goal.loop-s-preserved
loop-s-preserved c =
    let some : c.loop-s.s < length c.as_slice-answers.result.now = omega (arith, c.requires.count, c.count-s-end.ensures.count, ap length c.as_slice-answers.ensures, c.loop-s-test.true) in
    outcomes_more c.args.problem.now.model.direction _ _ c.loop-s.s c.index-answers-s.result _ _ _ some (search rules) (cc) c.loop-s.invariant c.in_ok-push_outcome.ensures

pub returns : goal.returns
returns c =
    let all : length c.as_slice-answers.result.now ≤ c.loop-s.s = omega (arith, c.requires.count, c.count-s-end.ensures.count, ap length c.as_slice-answers.ensures, c.loop-s-test.false) in
    outcomes_ended c.args.problem.now.model.direction _ c.loop-s.s _ _ all c.loop-s.invariant ∙ ap (λ a. summary_text c.args.problem.now a c.args.words.now) c.as_slice-answers.ensures
