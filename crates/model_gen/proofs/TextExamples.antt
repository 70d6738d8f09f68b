-- Worked texts, by computing.
use Rattle.std.proofs.Common.{◌≡◌, ℕ, List, [], ◌∷◌, ◌++◌, refl, codes}
use Rattle.std.specs.Prelude.{flat_map}
use Rattle.std.specs.Fmt.{digits}
use Rattle.rand_core.specs.Steps.{first_words, u32_at, word_bytes}
use Rattle.rand_core.specs.Pcg32Seed.{pcg32_seed}
use Rattle.model_gen.specs.Draws.{words_of, size, filled, first_word}
use Rattle.model_gen.specs.Texts.{row_line, cost_line, entry_line, demand_line, bound_line, head_lines, columns_begin, columns_end, new_cost_line, new_bound_line, new_demand_line, change_at, scenario_line, scenarios_line, model_text, changes_text}

abbrev lines : List (List ℕ) → List ℕ
lines ls = flat_map (λ l. l ++ 10 ∷ []) ls

-- the first words of the number 7, calculated apart from the code by the steps of PCG's reference implementation
words : words_of 7 3 ≡ 2442223337 ∷ 414063806 ∷ 2743600285 ∷ []
unfolding first_words u32_at word_bytes pcg32_seed
words = refl

-- one column, no row and no scenario: one word is used
one_column : model_text (words_of 1 (first_word 1 0 0)) 1 0 ≡ lines (codes "NAME gen" ∷ codes "ROWS" ∷ codes " N obj" ∷ codes "COLUMNS" ∷ codes " M 'MARKER' 'INTORG'" ∷ codes " c0 obj 75" ∷ codes " M 'MARKER' 'INTEND'" ∷ codes "RHS" ∷ codes "BOUNDS" ∷ codes " UP bnd c0 9" ∷ codes "ENDATA" ∷ [])
unfolding digits first_words u32_at word_bytes pcg32_seed size filled row_line cost_line entry_line demand_line bound_line head_lines columns_begin columns_end
one_column = refl

no_scenario : changes_text (words_of 1 (first_word 1 0 0)) 1 0 0 ≡ lines (codes "scenarios 0" ∷ [])
unfolding digits first_words u32_at word_bytes pcg32_seed size filled scenarios_line scenario_line change_at new_cost_line new_bound_line new_demand_line
no_scenario = refl

-- Three columns in two rows. A cost is from 1 to 100, a demand from 1 to 9 a column of the row, and the words of the costs
-- come before those of the demands
abbrev three : List ℕ
three = 199 ∷ 200 ∷ 250 ∷ 17 ∷ 9 ∷ 3 ∷ 5 ∷ 199 ∷ 4 ∷ 3 ∷ 19 ∷ 5 ∷ 3 ∷ 13 ∷ []

three_columns : model_text three 3 2 ≡ lines (codes "NAME gen" ∷ codes "ROWS" ∷ codes " N obj" ∷ codes " G r0" ∷ codes " G r1" ∷ codes "COLUMNS" ∷ codes " M 'MARKER' 'INTORG'" ∷ codes " c0 obj 100" ∷ codes " c0 r0 1" ∷ codes " c1 obj 1" ∷ codes " c1 r1 1" ∷ codes " c2 obj 51" ∷ codes " c2 r0 1" ∷ codes " M 'MARKER' 'INTEND'" ∷ codes "RHS" ∷ codes " rhs r0 18" ∷ codes " rhs r1 1" ∷ codes "BOUNDS" ∷ codes " UP bnd c0 9" ∷ codes " UP bnd c1 9" ∷ codes " UP bnd c2 9" ∷ codes "ENDATA" ∷ [])
unfolding digits size filled row_line cost_line entry_line demand_line bound_line head_lines columns_begin columns_end
three_columns = refl

-- of the three words of a change the first is its kind, the second the column or row, and the third the number: a cost from
-- 1 to 100, a bound from 0 to 9, or a right-hand side from 0 to 4 more than its row's columns can reach
three_changes : changes_text three 3 2 1 ≡ lines (codes "scenarios 1" ∷ codes "scenario 0" ∷ codes "obj c2 100" ∷ codes "ub c0 9" ∷ codes "rhs r1 13" ∷ [])
unfolding digits size filled scenarios_line scenario_line change_at new_cost_line new_bound_line new_demand_line
three_changes = refl

-- a row without columns has the demand 0 and uses no word, so that the next one is the first of scenario 0
abbrev empty_row : List ℕ
empty_row = 0 ∷ 8 ∷ 2 ∷ 1 ∷ 4 ∷ 2 ∷ 0 ∷ 13 ∷ 1 ∷ 0 ∷ 10 ∷ 0 ∷ 1 ∷ 100 ∷ 2 ∷ 1 ∷ 5 ∷ 1 ∷ 0 ∷ 9 ∷ []

empty_row_model : model_text empty_row 1 2 ≡ lines (codes "NAME gen" ∷ codes "ROWS" ∷ codes " N obj" ∷ codes " G r0" ∷ codes " G r1" ∷ codes "COLUMNS" ∷ codes " M 'MARKER' 'INTORG'" ∷ codes " c0 obj 1" ∷ codes " c0 r0 1" ∷ codes " M 'MARKER' 'INTEND'" ∷ codes "RHS" ∷ codes " rhs r0 9" ∷ codes " rhs r1 0" ∷ codes "BOUNDS" ∷ codes " UP bnd c0 9" ∷ codes "ENDATA" ∷ [])
unfolding digits size filled row_line cost_line entry_line demand_line bound_line head_lines columns_begin columns_end
empty_row_model = refl

empty_row_changes : changes_text empty_row 1 2 2 ≡ lines (codes "scenarios 2" ∷ codes "scenario 0" ∷ codes "rhs r1 4" ∷ codes "rhs r0 13" ∷ codes "ub c0 0" ∷ codes "scenario 1" ∷ codes "obj c0 1" ∷ codes "rhs r1 0" ∷ codes "ub c0 9" ∷ [])
unfolding digits size filled scenarios_line scenario_line change_at new_cost_line new_bound_line new_demand_line
empty_row_changes = refl

-- without rows there are two kinds of change
no_rows : changes_text (5 ∷ 2 ∷ 0 ∷ 7 ∷ 3 ∷ 0 ∷ 7 ∷ 4 ∷ 0 ∷ 0 ∷ []) 1 0 1 ≡ lines (codes "scenarios 1" ∷ codes "scenario 0" ∷ codes "obj c0 8" ∷ codes "ub c0 7" ∷ codes "obj c0 1" ∷ [])
unfolding digits size filled scenarios_line scenario_line change_at new_cost_line new_bound_line new_demand_line
no_rows = refl
