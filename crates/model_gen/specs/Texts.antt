-- The two texts of a generated problem: a model, and changes of it by scenarios.
use Rattle.std.specs.Prelude.{ℕ, zero, suc, ◌+◌, ◌*◌, ◌%◌, List, ◌++◌, [], ◌∷◌, codes, decimal, flat_map}
use Rattle.std.specs.List.{range_with_len}
use Rattle.num_text.specs.Words.{line}
use Rattle.model_gen.specs.Draws.{words_of, word, size, cost, cost_of, demand, first_word, kinds}

-- ---- names and lines

abbrev pub column_name : ℕ → List ℕ
column_name j = codes "c" ++ decimal j

abbrev pub row_name : ℕ → List ℕ
row_name i = codes "r" ++ decimal i

-- a line of data of a model begins with a space
abbrev pub data_line : List (List ℕ) → List ℕ
data_line words = 32 ∷ line words

-- one text for each number below n
abbrev pub for_each : ℕ → (ℕ → List ℕ) → List ℕ
for_each n text = flat_map text (range_with_len 0 n)

-- ---- the model

unfoldable pub row_line : ℕ → List ℕ
row_line i = data_line (codes "G" ∷ row_name i ∷ [])

unfoldable pub cost_line : ℕ → ℕ → List ℕ
cost_line j number = data_line (column_name j ∷ codes "obj" ∷ decimal number ∷ [])

unfoldable pub entry_line : ℕ → ℕ → List ℕ
entry_line j i = data_line (column_name j ∷ row_name i ∷ codes "1" ∷ [])

-- the entry of column j in its row, where there are rows
abbrev pub entry : ℕ → ℕ → List ℕ
entry zero j = []
entry (suc rows) j = entry_line j (j % suc rows)

abbrev pub column_lines : List ℕ → ℕ → ℕ → List ℕ
column_lines words rows j = cost_line j (cost words j) ++ entry rows j

unfoldable pub demand_line : ℕ → ℕ → List ℕ
demand_line i number = data_line (codes "rhs" ∷ row_name i ∷ decimal number ∷ [])

unfoldable pub bound_line : ℕ → List ℕ
bound_line j = data_line (codes "UP" ∷ codes "bnd" ∷ column_name j ∷ codes "9" ∷ [])

unfoldable pub head_lines : List ℕ
head_lines = line (codes "NAME" ∷ codes "gen" ∷ []) ++ line (codes "ROWS" ∷ []) ++ data_line (codes "N" ∷ codes "obj" ∷ [])

unfoldable pub columns_begin : List ℕ
columns_begin = line (codes "COLUMNS" ∷ []) ++ data_line (codes "M" ∷ codes "'MARKER'" ∷ codes "'INTORG'" ∷ [])

unfoldable pub columns_end : List ℕ
columns_end = data_line (codes "M" ∷ codes "'MARKER'" ∷ codes "'INTEND'" ∷ [])

-- each column has a cost from 1 to 100, the bounds 0 and 9 and the entry 1 in its row, and each row asks for a least
-- sum of its columns
abbrev pub model_text : List ℕ → ℕ → ℕ → List ℕ
model_text words columns rows =
    head_lines
    ++ for_each rows row_line
    ++ columns_begin
    ++ for_each columns (column_lines words rows)
    ++ columns_end
    ++ line (codes "RHS" ∷ [])
    ++ for_each rows (λ i. demand_line i (demand words columns rows i))
    ++ line (codes "BOUNDS" ∷ [])
    ++ for_each columns bound_line
    ++ line (codes "ENDATA" ∷ [])

-- ---- the changes

unfoldable pub new_cost_line : ℕ → ℕ → List ℕ
new_cost_line j number = line (codes "obj" ∷ column_name j ∷ decimal number ∷ [])

unfoldable pub new_bound_line : ℕ → ℕ → List ℕ
new_bound_line j number = line (codes "ub" ∷ column_name j ∷ decimal number ∷ [])

unfoldable pub new_demand_line : ℕ → ℕ → List ℕ
new_demand_line i number = line (codes "rhs" ∷ row_name i ∷ decimal number ∷ [])

-- a change of kind 0, 1 or 2 by two words: the first says of which column or row, the second to what number
abbrev pub change_line : ℕ → ℕ → ℕ → ℕ → ℕ → List ℕ
change_line columns rows zero v w = new_cost_line (v % columns) (cost_of w)
change_line columns rows (suc zero) v w = new_bound_line (v % columns) (w % 10)
change_line columns rows (suc (suc kind)) v w = new_demand_line (v % rows) (w % (9 * size columns rows (v % rows) + 5))

-- the change by the three words from word k on
unfoldable pub change_at : List ℕ → ℕ → ℕ → ℕ → List ℕ
change_at words columns rows k = change_line columns rows (word words k % kinds rows) (word words (k + 1)) (word words (k + 2))

unfoldable pub scenario_line : ℕ → List ℕ
scenario_line k = line (codes "scenario" ∷ decimal k ∷ [])

-- scenario k has three changes
abbrev pub scenario_lines : List ℕ → ℕ → ℕ → ℕ → List ℕ
scenario_lines words columns rows k =
    let first = first_word columns rows k in
    scenario_line k
    ++ change_at words columns rows first
    ++ change_at words columns rows (first + 3)
    ++ change_at words columns rows (first + 6)

unfoldable pub scenarios_line : ℕ → List ℕ
scenarios_line scenarios = line (codes "scenarios" ∷ decimal scenarios ∷ [])

abbrev pub changes_text : List ℕ → ℕ → ℕ → ℕ → List ℕ
changes_text words columns rows scenarios = scenarios_line scenarios ++ for_each scenarios (scenario_lines words columns rows)

-- ---- both from a number

-- as many words as the costs, the demands and all scenarios use
abbrev pub words_used : ℕ → ℕ → ℕ → ℕ → List ℕ
words_used seed columns rows scenarios = words_of seed (first_word columns rows scenarios)

abbrev pub generated_model : ℕ → ℕ → ℕ → ℕ → List ℕ
generated_model seed columns rows scenarios = model_text (words_used seed columns rows scenarios) columns rows

abbrev pub generated_changes : ℕ → ℕ → ℕ → ℕ → List ℕ
generated_changes seed columns rows scenarios = changes_text (words_used seed columns rows scenarios) columns rows scenarios
