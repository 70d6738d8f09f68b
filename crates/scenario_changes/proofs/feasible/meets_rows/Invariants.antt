use Rattle.std.proofs.Common.{◌↔◌, map, drop}
use Rattle.int_model.specs.Programs.{MeetsRows}
use Rattle.int_model.specs.declared.model.Row.{Row}
use Rattle.scenario_changes.proofs.feasible.meets_rows.Given as goal

abbrev pub invariant-loop-i : goal.invariant-loop-i
invariant-loop-i l = MeetsRows (map (λ (i : Row). i.terms) l.model.rows) l.ends l.x ↔ MeetsRows (map (λ (i : Row). i.terms) (drop l.i l.model.rows)) (drop l.i l.ends) l.x
