-- Worked summaries, by computing.
use Rattle.std.proofs.Common.{◌≡◌, ℕ, pos, negsuc, List, [], ◌∷◌, ◌++◌, Some, refl, codes}
use Rattle.std.specs.Prelude.{flat_map}
use Rattle.std.specs.Fmt.{digits}
use Rattle.int_model.specs.Models.{IntegerModel}
use Rattle.int_model.specs.declared.model.Direction.{Direction}
use Rattle.int_model.specs.declared.model.Direction.TheVariants.{Min, Max}
use Rattle.scenario_changes.specs.Changes.{no_change}
use Rattle.scenario_changes.specs.declared.answer.Answer.TheVariants.{Infeasible, Optimal, Limit}
use Rattle.scen_report.specs.Summaries.{command_line, outcome_line, summary_text}

-- one column without rows
abbrev model : Direction → IntegerModel
model d = record {
  columns = record { name = codes "c0"; cost = pos 3; low = pos 0; high = pos 9 } ∷ [];
  rows = [];
  constant = pos 0;
  direction = d;
  implied = 0;
}

abbrev lines : List (List ℕ) → List ℕ
lines ls = flat_map (λ l. l ++ 10 ∷ []) ls

-- without scenarios the base is scenario 0; the numbers of the command are printed, also the greatest seed, and not those of the problem
base : summary_text (record { model = model Min; changes = [] }) (Optimal (pos 0 ∷ []) (pos 0) ∷ []) (18446744073709551615 ∷ 1 ∷ 0 ∷ 7 ∷ []) ≡ lines (codes "gen 18446744073709551615 1 0 7" ∷ codes "scenario 0 optimal 0" ∷ [])
unfolding digits command_line outcome_line
base = refl

-- a limit's point and its bound aren't printed, nor is a word other than `infeasible` where no point is feasible
each_word : summary_text (record { model = model Min; changes = no_change 1 0 ∷ no_change 1 0 ∷ no_change 1 0 ∷ [] }) (Limit (Some (pos 1 ∷ [], pos 3)) (negsuc 8) ∷ Infeasible ∷ Optimal (pos 9 ∷ []) (negsuc 26) ∷ []) (7 ∷ 1 ∷ 0 ∷ 3 ∷ []) ≡ lines (codes "gen 7 1 0 3" ∷ codes "scenario 0 limit" ∷ codes "scenario 1 infeasible" ∷ codes "scenario 2 optimal -27" ∷ [])
unfolding digits command_line outcome_line
each_word = refl

-- for a maximum a value is printed negated
maximum : summary_text (record { model = model Max; changes = [] }) (Optimal (pos 9 ∷ []) (negsuc 26) ∷ []) (7 ∷ 1 ∷ 0 ∷ 0 ∷ []) ≡ lines (codes "gen 7 1 0 0" ∷ codes "scenario 0 optimal 27" ∷ [])
unfolding digits command_line outcome_line
maximum = refl
