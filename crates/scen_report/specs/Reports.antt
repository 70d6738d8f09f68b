-- The report of the answers to the scenarios of a problem. Its words are the attributes of the Gurobi manual's
-- Multiple Scenarios.
use Rattle.std.specs.Prelude.{◌≡◌, ℕ, ◌≤◌, ◌^◌, ℤ, unsigned_abs, List, ◌++◌, [], ◌∷◌, length, codes, decimal, zip, flat_map, Option, Some, None, IfSome, unwrap_or}
use Rattle.std.specs.List.{enumerate_from}
use Rattle.num_text.specs.NumberText.{integer_text}
use Rattle.num_text.specs.Words.{line}
use Rattle.int_model.specs.Models.{IntegerModel, minimized}
use Rattle.int_model.specs.declared.model.Column.{Column}
use Rattle.int_model.specs.declared.model.Direction.{Direction}
use Rattle.int_model.specs.declared.model.Direction.TheVariants.{Min, Max}
use Rattle.scenario_changes.specs.Problems.{Scenarios, name_at}
use Rattle.scenario_changes.specs.declared.answer.Answer.{Answer}
use Rattle.scenario_changes.specs.declared.answer.Answer.TheVariants.{Infeasible, Optimal, Limit}

-- ---- what an answer says

abbrev pub status_word : Answer → List ℕ
status_word Infeasible = codes "infeasible"
status_word (Optimal x v) = codes "optimal"
status_word (Limit best b) = codes "limit"

-- the value of the best point that was found
abbrev pub value_of : Answer → Option ℤ
value_of Infeasible = None
value_of (Optimal x v) = Some v
value_of (Limit None b) = None
value_of (Limit (Some (x, v)) b) = Some v

-- no feasible point has a value below it
abbrev pub bound_of : Answer → Option ℤ
bound_of Infeasible = None
bound_of (Optimal x v) = Some v
bound_of (Limit best b) = Some b

abbrev pub point_of : Answer → Option (List ℤ)
point_of Infeasible = None
point_of (Optimal x v) = Some x
point_of (Limit None b) = None
point_of (Limit (Some (x, v)) b) = Some x

abbrev pub IsValue : ℤ → Type 0
IsValue z = unsigned_abs z ≤ 2 ^ 60

-- value and bound lie within ±2^60, and the point has so many columns
pub record Fits (columns : ℕ) (a : Answer) : Type 0 where
  pub value : IfSome (value_of a) IsValue
  pub bound : IfSome (bound_of a) IsValue
  pub point : IfSome (point_of a) (λ x. length x ≡ columns)

-- ---- the text

-- a word and a text on a line
unfoldable pub text_line : List ℕ → List ℕ → List ℕ
text_line word text = line (word ∷ text ∷ [])

-- what stands for no value: more than each for Min, less than each for Max
abbrev pub infinite : Direction → List ℕ
infinite Min = codes "inf"
infinite Max = codes "-inf"

-- a value in the model's own direction
abbrev pub value_text : Direction → Option ℤ → List ℕ
value_text d None = infinite d
value_text d (Some z) = integer_text (minimized d z)

-- a column's name and its number
unfoldable pub column_line : List ℕ → ℤ → List ℕ
column_line name z = line (codes "ScenNX" ∷ name ∷ integer_text z ∷ [])

-- a line for each column
abbrev pub point_lines : List Column → List ℤ → List ℕ
point_lines columns x = flat_map (λ (c : Column × ℤ). column_line c.0.name c.1) (zip columns x)

abbrev pub lines_of_point : List Column → Option (List ℤ) → List ℕ
lines_of_point columns None = []
lines_of_point columns (Some x) = point_lines columns x

unfoldable pub answer_lines : IntegerModel → Answer → List ℕ
answer_lines m a =
    text_line (codes "Status") (status_word a)
    ++ text_line (codes "ScenNObjVal") (value_text m.direction (value_of a))
    ++ text_line (codes "ScenNObjBound") (value_text m.direction (bound_of a))
    ++ lines_of_point m.columns (point_of a)

-- scenario k, which may have a name, and its answer
unfoldable pub scenario_lines : Scenarios → ℕ → Answer → List ℕ
scenario_lines p k a =
    text_line (codes "ScenarioNumber") (decimal k)
    ++ text_line (codes "ScenNName") (unwrap_or (name_at p k) (codes "-"))
    ++ answer_lines p.model a

-- the scenarios from number k on, in order
abbrev pub lines_from : Scenarios → ℕ → List Answer → List ℕ
lines_from p k answers = flat_map (λ (a : ℕ × Answer). scenario_lines p a.0 a.1) (enumerate_from k answers)

unfoldable pub head_lines : Scenarios → List ℕ
head_lines p = text_line (codes "ImpliedBinary") (decimal p.model.implied) ++ text_line (codes "NumScenarios") (decimal (length p.changes))

abbrev pub report_text : Scenarios → List Answer → List ℕ
report_text p answers = head_lines p ++ lines_from p 0 answers
