-- The changes text of a generated problem is accepted.
use Rattle.std.proofs.Common.{◌≡◌, ◌∙◌, refl, ℕ, zero, suc, ◌+◌, ◌*◌, ◌%◌, ◌^◌, ◌<◌, ◌≤◌, true, false, List, [], ◌∷◌, ◌++◌, codes, length, None, Ok, arith, decimal}
use Rattle.std.specs.List.{list_all, join_with_byte, range_with_len}
use Rattle.std.proofs.lemmas.Nat.{mod_below}
use Rattle.std.proofs.lemmas.List.{length-map}
use Rattle.std.proofs.lemmas.List.FromFn.{length-range_with_len}
use Rattle.num_text.specs.Words.{line, is_read}
use Rattle.int_model.specs.Models.{IntegerModel}
use Rattle.scenario_changes.specs.Changes.{ChangeSet}
use Rattle.changes_reader.specs.ChangesText.{Line, is_empty, scenario_count, changes_of, changes_of_lines, change_of}
use Rattle.changes_reader.specs.Kinds.{line_kind}
use Rattle.model_gen.specs.Draws.{word, size, cost_of, kinds, first_word}
use Rattle.model_gen.specs.Texts.{column_name, row_name, new_cost_line, new_bound_line, new_demand_line, change_line, change_at, scenario_line, scenario_lines, scenarios_line, for_each, changes_text}
use Rattle.made_problems.specs.Laws.{HasNames}
use Rattle.made_problems.proofs.LineTexts.{is_word, joined_read}
use Rattle.made_problems.proofs.SizeLaws.{size_at_most}
use Rattle.made_problems.proofs.NumberTexts.{number_word, name_word, number_read}
use Rattle.made_problems.proofs.NameTexts.{name_known}
use Rattle.made_problems.proofs.Triples.{Leads, one_then_other, each_leads, leads_to_end}
use Rattle.made_problems.proofs.ChangeLines.{Place, run, behind, line_moves, scenarios_accepted, scenario_accepted, cost_accepted, bound_accepted, demand_accepted}

-- the first line has been read, which says how many scenarios there are
pub record IsBegun (scenarios : ℕ) (p : Place) : Type 0 where
  pub some : is_empty p.earlier ≡ false
  pub count : scenario_count p.earlier ≡ scenarios

still_begun : (earlier : List Line) (l : Line) → is_empty earlier ≡ false → (is_empty (earlier ++ l ∷ []) ≡ false) × (scenario_count (earlier ++ l ∷ []) ≡ scenario_count earlier)
still_begun [] l h = absurd (cc)
still_begun (first ∷ earlier) l h = (refl, refl)

-- a line behind the first one
line_leads : (m : IntegerModel) (scenarios : ℕ) (w : List ℕ) (ws : List (List ℕ)) → list_all is_word (w ∷ ws) ≡ true → is_read (join_with_byte 32 (w ∷ ws)) ≡ true → line_kind m false scenarios (w ∷ ws) ≡ None → Leads (run m) (IsBegun scenarios) (line (w ∷ ws)) (IsBegun scenarios)
line_leads m scenarios w ws words read kind p begun =
    let still = still_begun p.earlier (record { number = p.number; fields = w ∷ ws }) begun.some in
    (behind p (w ∷ ws), record { some = still.0; count = still.1 ∙ begun.count }, line_moves m p w ws words read (rw (begun.some, begun.count) kind))

IsStart : Place → Type 0
IsStart p = p ≡ record { number = 1; earlier = [] }

scenarios_lead : (m : IntegerModel) (n : ℕ) → n ≤ 64 → Leads (run m) IsStart (scenarios_line n) (IsBegun n)
unfolding scenarios_line IsStart
scenarios_lead m n h p start =
    let words : list_all is_word (codes "scenarios" ∷ decimal n ∷ []) ≡ true = rw (number_word n (omega arith)) refl in
    let read : is_read (join_with_byte 32 (codes "scenarios" ∷ decimal n ∷ [])) ≡ true = joined_read 115 (codes "cenarios") (decimal n ∷ []) refl words in
    let first : Place = record { number = 1; earlier = [] } in
    let moves = line_moves m first (codes "scenarios") (decimal n ∷ []) words read (scenarios_accepted m n h) in
    (behind first (codes "scenarios" ∷ decimal n ∷ []), record { some = refl; count = rw (number_read n (omega arith)) refl }, rw start moves)

scenario_leads : (m : IntegerModel) (scenarios k : ℕ) → k < scenarios → scenarios ≤ 64 → Leads (run m) (IsBegun scenarios) (scenario_line k) (IsBegun scenarios)
unfolding scenario_line
scenario_leads m scenarios k h most =
    let words : list_all is_word (codes "scenario" ∷ decimal k ∷ []) ≡ true = rw (number_word k (omega arith)) refl in
    line_leads m scenarios (codes "scenario") (decimal k ∷ []) words (joined_read 115 (codes "cenario") (decimal k ∷ []) refl words) (scenario_accepted m scenarios k h (omega arith))

module _ (m : IntegerModel) (columns rows scenarios : ℕ) (names : HasNames columns rows m) (some : 1 ≤ columns) (few_columns : columns ≤ 1000) (few_rows : rows ≤ 1000) (any : 0 < scenarios) where
  cost_leads : (j n : ℕ) → j < columns → n ≤ 10 ^ 9 → Leads (run m) (IsBegun scenarios) (new_cost_line j n) (IsBegun scenarios)
  unfolding new_cost_line
  cost_leads j n h small =
      let words : list_all is_word (codes "obj" ∷ column_name j ∷ decimal n ∷ []) ≡ true = rw (name_word 99 j refl (omega arith), number_word n (omega arith)) refl in
      line_leads m scenarios (codes "obj") (column_name j ∷ decimal n ∷ []) words (joined_read 111 (codes "bj") (column_name j ∷ decimal n ∷ []) refl words) (cost_accepted m scenarios n (column_name j) any small (name_known _ column_name columns j names.columns_named h))

  bound_leads : (j n : ℕ) → j < columns → n ≤ 10 ^ 6 → Leads (run m) (IsBegun scenarios) (new_bound_line j n) (IsBegun scenarios)
  unfolding new_bound_line
  bound_leads j n h small =
      let words : list_all is_word (codes "ub" ∷ column_name j ∷ decimal n ∷ []) ≡ true = rw (name_word 99 j refl (omega arith), number_word n (omega arith)) refl in
      line_leads m scenarios (codes "ub") (column_name j ∷ decimal n ∷ []) words (joined_read 117 (codes "b") (column_name j ∷ decimal n ∷ []) refl words) (bound_accepted m scenarios n (column_name j) any small (name_known _ column_name columns j names.columns_named h))

  demand_leads : (i n : ℕ) → i < rows → n ≤ 10 ^ 6 → Leads (run m) (IsBegun scenarios) (new_demand_line i n) (IsBegun scenarios)
  unfolding new_demand_line
  demand_leads i n h small =
      let words : list_all is_word (codes "rhs" ∷ row_name i ∷ decimal n ∷ []) ≡ true = rw (name_word 114 i refl (omega arith), number_word n (omega arith)) refl in
      line_leads m scenarios (codes "rhs") (row_name i ∷ decimal n ∷ []) words (joined_read 114 (codes "hs") (row_name i ∷ decimal n ∷ []) refl words) (demand_accepted m scenarios n (row_name i) any (omega arith) (name_known _ row_name rows i names.rows_named h))

  change_leads : (kind v w : ℕ) → (2 ≤ kind → 0 < rows) → Leads (run m) (IsBegun scenarios) (change_line columns rows kind v w) (IsBegun scenarios)
  change_leads zero v w h = cost_leads (v % columns) (cost_of w) (mod_below v columns some) (omega (arith, mod_below w 100 (omega arith)))
  change_leads (suc zero) v w h = bound_leads (v % columns) (w % 10) (mod_below v columns some) (omega (arith, mod_below w 10 (omega arith)))
  change_leads (suc (suc kind)) v w h =
      let there : 0 < rows = h (omega arith) in
      let most : 9 * size columns rows (v % rows) + 5 ≤ 9005 = omega (arith, size_at_most columns rows (v % rows)) in
      demand_leads (v % rows) (w % (9 * size columns rows (v % rows) + 5)) (mod_below v rows there) (omega (arith, mod_below w (9 * size columns rows (v % rows) + 5) (omega arith)))

  kind_of_row : (w r : ℕ) → 2 ≤ w % kinds r → 0 < r
  kind_of_row w zero h = absurd (omega (arith, mod_below w 2 (omega arith)))
  kind_of_row w (suc r) h = omega arith

  change_at_leads : (words : List ℕ) (k : ℕ) → Leads (run m) (IsBegun scenarios) (change_at words columns rows k) (IsBegun scenarios)
  unfolding change_at
  change_at_leads words k = change_leads (word words k % kinds rows) (word words (k + 1)) (word words (k + 2)) (kind_of_row (word words k) rows)

  scenario_lines_lead : (words : List ℕ) (k : ℕ) → k < scenarios → scenarios ≤ 64 → Leads (run m) (IsBegun scenarios) (scenario_lines words columns rows k) (IsBegun scenarios)
  scenario_lines_lead words k h most =
      let B : Place → Type 0 = IsBegun scenarios in
      let first : ℕ = first_word columns rows k in
      let one : List ℕ = scenario_line k ++ change_at words columns rows first in
      let two : List ℕ = one ++ change_at words columns rows (first + 3) in
      one_then_other (run m) B B B two (change_at words columns rows (first + 6))
      (one_then_other (run m) B B B one (change_at words columns rows (first + 3))
      (one_then_other (run m) B B B (scenario_line k) (change_at words columns rows first) (scenario_leads m scenarios k h most) (change_at_leads words first))
      (change_at_leads words (first + 3)))
      (change_at_leads words (first + 6))

pub changes_accepted : (m : IntegerModel) (words : List ℕ) (columns rows scenarios : ℕ) → 1 ≤ columns → columns ≤ 1000 → rows ≤ 1000 → scenarios ≤ 64 → HasNames columns rows m → (c : ChangeSet) × (changes_of m (changes_text words columns rows scenarios) ≡ Ok c) × (length c.scenarios ≡ scenarios)
unfolding IsStart
changes_accepted m words columns rows scenarios some few_columns few_rows most names =
    let B : Place → Type 0 = IsBegun scenarios in
    let lines = each_leads (run m) (λ k. B) (scenario_lines words columns rows) scenarios (λ k h. scenario_lines_lead m columns rows scenarios names some few_columns few_rows (omega arith) words k h most) in
    let end = leads_to_end (run m) IsStart B (changes_text words columns rows scenarios) (one_then_other (run m) IsStart B B (scenarios_line scenarios) (for_each scenarios (scenario_lines words columns rows)) (scenarios_lead m scenarios most) lines) (record { number = 1; earlier = [] }) refl in
    let counted : length (changes_of_lines m end.0.earlier).scenarios ≡ scenarios = length-map (range_with_len 0 (scenario_count end.0.earlier)) (change_of m end.0.earlier) ∙ length-range_with_len 0 (scenario_count end.0.earlier) ∙ end.1.count in
    (changes_of_lines m end.0.earlier, end.2, counted)
