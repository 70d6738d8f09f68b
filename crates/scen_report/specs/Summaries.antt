-- The summary of the answers to the scenarios of a generated problem: one line a scenario, after the words of the
-- command that generated it.
use Rattle.std.specs.Prelude.{ℕ, List, ◌++◌, [], ◌∷◌, codes, decimal, map, flat_map, Some}
use Rattle.std.specs.List.{enumerate_from}
use Rattle.num_text.specs.Words.{line}
use Rattle.int_model.specs.declared.model.Direction.{Direction}
use Rattle.scenario_changes.specs.Problems.{Scenarios}
use Rattle.scenario_changes.specs.declared.answer.Answer.{Answer}
use Rattle.scenario_changes.specs.declared.answer.Answer.TheVariants.{Infeasible, Optimal, Limit}
use Rattle.scen_report.specs.Reports.{value_text}

-- `gen` and its numbers in plain decimal
unfoldable pub command_line : List ℕ → List ℕ
command_line numbers = line (codes "gen" ∷ map decimal numbers)

-- the word of an answer, and the optimal value in the model's own direction
abbrev pub outcome_words : Direction → Answer → List (List ℕ)
outcome_words d Infeasible = codes "infeasible" ∷ []
outcome_words d (Optimal x v) = codes "optimal" ∷ value_text d (Some v) ∷ []
outcome_words d (Limit best b) = codes "limit" ∷ []

-- scenario k and what is known of it
unfoldable pub outcome_line : Direction → ℕ → Answer → List ℕ
outcome_line d k a = line (codes "scenario" ∷ decimal k ∷ outcome_words d a)

-- the scenarios from number k on, in order
abbrev pub outcomes_from : Direction → ℕ → List Answer → List ℕ
outcomes_from d k answers = flat_map (λ (a : ℕ × Answer). outcome_line d a.0 a.1) (enumerate_from k answers)

abbrev pub summary_text : Scenarios → List Answer → List ℕ → List ℕ
summary_text p answers numbers = command_line numbers ++ outcomes_from p.model.direction 0 answers
