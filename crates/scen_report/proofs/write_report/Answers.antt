use Rattle.std.proofs.Common.{rules, arith, ◌≡◌, ◌∙◌, ◌++◌, ◌<◌, ◌≤◌, ap, sym, subst, length, get_or}
use Rattle.scen_report.specs.Reports.{head_lines, report_text}
use Rattle.scen_report.proofs.ReportLemmas.{lines_begun, lines_more, lines_ended}
use Rattle.scen_report.proofs.write_report.Goals as goal

pub loop-s-init : goal.loop-s-init
loop-s-init c = lines_begun c.args.problem.now _ _ (c.in_ok-push_head.ensures ∙ ap (λ l. l ++ head_lines c.args.problem.now) c.new-out.ensures.items)

pub loop-s-preserved : goal.loop-s-preserved
loop-s-preserved c =
    let some : c.loop-s.s < length c.as_slice-answers.result.now = omega (arith, c.requires.count, c.count-s-end.ensures.count, ap length c.as_slice-answers.ensures, c.loop-s-test.true) in
    lines_more c.args.problem.now _ c.loop-s.s c.index-answers-s.result _ _ _ some (search rules) c.loop-s.invariant c.in_ok-push_scenario.ensures

pub returns : goal.returns
returns c =
    let all : length c.as_slice-answers.result.now ≤ c.loop-s.s = omega (arith, c.requires.count, c.count-s-end.ensures.count, ap length c.as_slice-answers.ensures, c.loop-s-test.false) in
    lines_ended c.args.problem.now _ c.loop-s.s _ _ all c.loop-s.invariant ∙ ap (λ a. report_text c.args.problem.now a) c.as_slice-answers.ensures
