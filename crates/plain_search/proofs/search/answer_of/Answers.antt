use Rattle.std.proofs.Common.{◌≡◌, ◌∙◌, arith, FitsSigned, w64}
use Rattle.std.proofs.lemmas.Int.{ints, to_z-of_z}
use Rattle.scenario_changes.specs.Problems.{problem, program_at}
use Rattle.plain_search.specs.Searches.{program_over}
use Rattle.plain_search.proofs.SearchLemmas.{scenario_root, root_length, answered, answered_none, kept_fits}
use Rattle.plain_search.proofs.search.answer_of.Goals as goal

pub search-requires-clause-columns : goal.search-requires-clause-columns
search-requires-clause-columns c =
    root_length (program_at (problem c.args.problem.now) c.args.s).bounds c.in_ok-root.root c.lows.result.now _ (scenario_root c.args.problem.now c.args.s _ _ c.in_ok-root.root c.lows.ensures.value c.highs.ensures.value c.in_ok-root.ensures) c.lows.ensures.value c.lows.ensures.count

pub returns-in-Some-clause-right : goal.returns-in-Some-clause-right
returns-in-Some-clause-right c =
    let root = scenario_root c.args.problem.now c.args.s _ _ c.in_ok-root.root c.lows.ensures.value c.highs.ensures.value c.in_ok-root.ensures in
    let kept = kept_fits (program_over c.args.problem.now c.args.s c.in_ok-root.root) c.in_ok-best.field-0 c.in-Some.best c.in_ok-best.ensures.kept c.in-Some.is in
    let fits : FitsSigned w64 c.in-Some.best.value = omega (arith, ints, kept.1) in
    rw (to_z-of_z w64 c.in-Some.best.value fits) (answered c.args.problem.now c.args.s c.in_ok-root.root c.in_ok-best.field-0 c.in-Some.best root c.in_ok-best.ensures c.in-Some.is)

pub returns-in-Some-clause-fits : goal.returns-in-Some-clause-fits
returns-in-Some-clause-fits c =
    let columns = root_length (program_at (problem c.args.problem.now) c.args.s).bounds c.in_ok-root.root c.lows.result.now _ (scenario_root c.args.problem.now c.args.s _ _ c.in_ok-root.root c.lows.ensures.value c.highs.ensures.value c.in_ok-root.ensures) c.lows.ensures.value c.lows.ensures.count in
    let kept = kept_fits (program_over c.args.problem.now c.args.s c.in_ok-root.root) c.in_ok-best.field-0 c.in-Some.best c.in_ok-best.ensures.kept c.in-Some.is in
    let fits : FitsSigned w64 c.in-Some.best.value = omega (arith, ints, kept.1) in
    rw (to_z-of_z w64 c.in-Some.best.value fits) (record { value = kept.1; bound = kept.1; point = kept.0 ∙ columns })

pub returns-in-None-clause-right : goal.returns-in-None-clause-right
returns-in-None-clause-right c =
    answered_none c.args.problem.now c.args.s c.in_ok-root.root c.in_ok-best.field-0 (scenario_root c.args.problem.now c.args.s _ _ c.in_ok-root.root c.lows.ensures.value c.highs.ensures.value c.in_ok-root.ensures) c.in_ok-best.ensures c.in-None.is
