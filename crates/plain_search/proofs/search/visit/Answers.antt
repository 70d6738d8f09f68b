use Rattle.std.proofs.Common.{◌≡◌, ◌∙◌, sym, subst, length, List, ℤ}
use Rattle.std.proofs.lemmas.List.{length-map}
use Rattle.int_model.specs.Programs.{value}
use Rattle.int_model.specs.declared.model.Row.{Row}
use Rattle.plain_search.specs.Searches.{program_over, Keeps}
use Rattle.plain_search.proofs.SearchLemmas.{single_feasible, visit_missed, visit_single, visit_halves}
use Rattle.plain_search.proofs.search.visit.Goals as goal

pub returns-then-some_row_misses : goal.returns-then-some_row_misses
returns-then-some_row_misses c = visit_missed (program_over c.args.problem.now c.args.s c.args.bounds.now) _ _ c.requires.occupied c.if-some_row_misses.ensures.verdict

pub returns-in_ok-keep_better-in-None : goal.returns-in_ok-keep_better-in-None
returns-in_ok-keep_better-in-None c =
    let p = program_over c.args.problem.now c.args.s c.args.bounds.now in
    let same : length p.ends ≡ length p.rows = c.some_row_misses.ensures.shape in
    visit_single p _ _ _ c.requires.occupied c.in-None.ensures (single_feasible p same c.requires.occupied c.in-None.ensures c.if-some_row_misses.ensures.verdict) (subst (λ (x : List ℤ). Keeps x (value p x) c.args.best.now c.keep_better.new.best) c.lows.ensures.value c.in_ok-keep_better-in-None.ensures)

pub returns-in_ok-cut_in_two-in-Some : goal.returns-in_ok-cut_in_two-in-Some
returns-in_ok-cut_in_two-in-Some c = visit_halves (program_over c.args.problem.now c.args.s c.args.bounds.now) _ _ _ c.requires.occupied c.in_ok-cut_in_two-in-Some.ensures
