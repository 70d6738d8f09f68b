use Rattle.std.proofs.Common.{◌≡◌, ◌++◌}
use Rattle.model_gen.specs.Texts as texts
use Rattle.model_gen.proofs.changes.changes_text.Given as goal

abbrev pub invariant-loop-s : goal.invariant-loop-s
invariant-loop-s l = l.out.items ≡ texts.scenarios_line l.scenarios ++ texts.for_each l.s (texts.scenario_lines l.words l.columns l.rows)
