-- Worked reports, by computing.
use Rattle.std.proofs.Common.{◌≡◌, ℕ, ℤ, pos, negsuc, List, [], ◌∷◌, ◌++◌, Option, None, Some, refl, codes, map}
use Rattle.std.specs.Prelude.{flat_map}
use Rattle.std.specs.Fmt.{digits}
use Rattle.int_model.specs.Models.{IntegerModel}
use Rattle.int_model.specs.declared.model.Column.{Column}
use Rattle.int_model.specs.declared.model.Direction.{Direction}
use Rattle.int_model.specs.declared.model.Direction.TheVariants.{Min, Max}
use Rattle.scenario_changes.specs.Changes.{Change, no_change}
use Rattle.scenario_changes.specs.Problems.{Scenarios}
use Rattle.scenario_changes.specs.declared.answer.Answer.{Answer}
use Rattle.scenario_changes.specs.declared.answer.Answer.TheVariants.{Infeasible, Optimal, Limit}
use Rattle.scen_report.specs.Reports.{text_line, column_line, answer_lines, scenario_lines, head_lines, report_text}

-- two columns x and y without rows
abbrev model : Direction → IntegerModel
model d = record {
  columns = record { name = codes "x"; cost = negsuc 2; low = pos 0; high = pos 3 } ∷ record { name = codes "y"; cost = negsuc 1; low = pos 0; high = pos 3 } ∷ [];
  rows = [];
  constant = pos 0;
  direction = d;
  implied = 1;
}

abbrev lines : List (List ℕ) → List ℕ
lines ls = flat_map (λ l. l ++ 10 ∷ []) ls

-- without scenarios the base is reported as scenario 0, without a name
base : report_text (record { model = model Min; changes = [] }) (Optimal (pos 1 ∷ pos 2 ∷ []) (negsuc 6) ∷ []) ≡ lines (codes "ImpliedBinary 1" ∷ codes "NumScenarios 0" ∷ codes "ScenarioNumber 0" ∷ codes "ScenNName -" ∷ codes "Status optimal" ∷ codes "ScenNObjVal -7" ∷ codes "ScenNObjBound -7" ∷ codes "ScenNX x 1" ∷ codes "ScenNX y 2" ∷ [])
unfolding digits text_line column_line answer_lines scenario_lines head_lines
base = refl

-- for a maximum, values are printed negated, and what stands for none is less than each value
maximum : report_text (record { model = model Max; changes = record (no_change 2 0) { name = Some (codes "high") } ∷ no_change 2 0 ∷ [] }) (Optimal (pos 1 ∷ pos 2 ∷ []) (negsuc 6) ∷ Infeasible ∷ []) ≡ lines (codes "ImpliedBinary 1" ∷ codes "NumScenarios 2" ∷ codes "ScenarioNumber 0" ∷ codes "ScenNName high" ∷ codes "Status optimal" ∷ codes "ScenNObjVal 7" ∷ codes "ScenNObjBound 7" ∷ codes "ScenNX x 1" ∷ codes "ScenNX y 2" ∷ codes "ScenarioNumber 1" ∷ codes "ScenNName -" ∷ codes "Status infeasible" ∷ codes "ScenNObjVal -inf" ∷ codes "ScenNObjBound -inf" ∷ [])
unfolding digits text_line column_line answer_lines scenario_lines head_lines
maximum = refl

-- a limit has a bound, and a value only where a point was found
limits : report_text (record { model = model Min; changes = no_change 2 0 ∷ no_change 2 0 ∷ [] }) (Limit None (negsuc 8) ∷ Limit (Some (pos 0 ∷ pos 0 ∷ [], pos 0)) (negsuc 8) ∷ []) ≡ lines (codes "ImpliedBinary 1" ∷ codes "NumScenarios 2" ∷ codes "ScenarioNumber 0" ∷ codes "ScenNName -" ∷ codes "Status limit" ∷ codes "ScenNObjVal inf" ∷ codes "ScenNObjBound -9" ∷ codes "ScenarioNumber 1" ∷ codes "ScenNName -" ∷ codes "Status limit" ∷ codes "ScenNObjVal 0" ∷ codes "ScenNObjBound -9" ∷ codes "ScenNX x 0" ∷ codes "ScenNX y 0" ∷ [])
unfolding digits text_line column_line answer_lines scenario_lines head_lines
limits = refl
