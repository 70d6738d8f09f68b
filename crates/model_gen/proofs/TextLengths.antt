-- How great the numbers and how long the texts are at most.
use Rattle.std.proofs.Common.{◌≡◌, ◌∙◌, ap, sym, refl, ℕ, zero, suc, ◌+◌, ◌*◌, ◌%◌, ◌<◌, ◌≤◌, List, [], ◌++◌, length, nat_eq, arith, length-append, decimal}
use Rattle.std.specs.List.{range_with_len}
use Rattle.std.proofs.lemmas.Fmt.{length-decimal-le}
use Rattle.std.proofs.lemmas.List.FromFn.{length-range_with_len}
use Rattle.std.proofs.lemmas.List.Sums.{length-filter, count_by-le-length}
use Rattle.std.proofs.lemmas.Nat.{mod_below}
use Rattle.model_gen.specs.Draws.{word, size, filled, cost_of, cost, demand_of, demand, first_word, kinds}
use Rattle.model_gen.specs.Texts.{row_line, cost_line, entry_line, entry, column_lines, demand_line, bound_line, head_lines, columns_begin, columns_end, new_cost_line, new_bound_line, new_demand_line, change_line, change_at, scenario_line, scenario_lines, scenarios_line, for_each, model_text, changes_text}
use Rattle.model_gen.proofs.TextLemmas.{each_more}

-- ---- lines

digits_short : (n : ℕ) → n < 100000 → length (decimal n) ≤ 5
digits_short n h = length-decimal-le 5 n (omega arith) h (omega arith)

row_line-short : (i : ℕ) → i < 100000 → length (row_line i) ≤ 40
unfolding row_line
row_line-short i h = simp (length-append) (omega (arith, digits_short i h))

cost_line-short : (j n : ℕ) → j < 100000 → n < 100000 → length (cost_line j n) ≤ 40
unfolding cost_line
cost_line-short j n h k = simp (length-append) (omega (arith, digits_short j h, digits_short n k))

entry_line-short : (j n : ℕ) → j < 100000 → n < 100000 → length (entry_line j n) ≤ 40
unfolding entry_line
entry_line-short j n h k = simp (length-append) (omega (arith, digits_short j h, digits_short n k))

demand_line-short : (i n : ℕ) → i < 100000 → n < 100000 → length (demand_line i n) ≤ 40
unfolding demand_line
demand_line-short i n h k = simp (length-append) (omega (arith, digits_short i h, digits_short n k))

bound_line-short : (j : ℕ) → j < 100000 → length (bound_line j) ≤ 40
unfolding bound_line
bound_line-short j h = simp (length-append) (omega (arith, digits_short j h))

new_cost_line-short : (j n : ℕ) → j < 100000 → n < 100000 → length (new_cost_line j n) ≤ 40
unfolding new_cost_line
new_cost_line-short j n h k = simp (length-append) (omega (arith, digits_short j h, digits_short n k))

new_bound_line-short : (j n : ℕ) → j < 100000 → n < 100000 → length (new_bound_line j n) ≤ 40
unfolding new_bound_line
new_bound_line-short j n h k = simp (length-append) (omega (arith, digits_short j h, digits_short n k))

new_demand_line-short : (i n : ℕ) → i < 100000 → n < 100000 → length (new_demand_line i n) ≤ 40
unfolding new_demand_line
new_demand_line-short i n h k = simp (length-append) (omega (arith, digits_short i h, digits_short n k))

scenario_line-short : (k : ℕ) → k < 100000 → length (scenario_line k) ≤ 40
unfolding scenario_line
scenario_line-short k h = simp (length-append) (omega (arith, digits_short k h))

scenarios_line-short : (k : ℕ) → k < 100000 → length (scenarios_line k) ≤ 40
unfolding scenarios_line
scenarios_line-short k h = simp (length-append) (omega (arith, digits_short k h))

head_lines-short : length head_lines ≤ 40
unfolding head_lines
head_lines-short = omega arith

columns_begin-short : length columns_begin ≤ 40
unfolding columns_begin
columns_begin-short = omega arith

columns_end-short : length columns_end ≤ 40
unfolding columns_end
columns_end-short = omega arith

-- ---- numbers

size_at_most : (columns rows i : ℕ) → size columns rows i ≤ columns
unfolding size
size_at_most columns rows i =
    let p = λ (j : ℕ). nat_eq (j % rows) i in
    let counted = length-filter p (range_with_len 0 columns) in
    let few = count_by-le-length p (range_with_len 0 columns) in
    omega (arith, counted, few, length-range_with_len 0 columns)

demand_of_at_most : (n w : ℕ) → demand_of n w ≤ 9 * n
demand_of_at_most zero w = omega arith
demand_of_at_most (suc n) w =
    let below : w % (9 * suc n) < 9 * suc n = mod_below w (9 * suc n) (omega arith) in
    omega (arith, below)

pub demand_at_most : (words : List ℕ) (columns rows i : ℕ) → demand words columns rows i ≤ 9 * size columns rows i
demand_at_most words columns rows i = demand_of_at_most (size columns rows i) (word words (columns + filled columns rows i))

kinds_some : (rows : ℕ) → 0 < kinds rows
kinds_some zero = omega arith
kinds_some (suc rows) = omega arith

-- ---- the texts

each_short : (text : ℕ → List ℕ) (k n : ℕ) → ((i : ℕ) → i < n → length (text i) ≤ k) → length (for_each n text) ≤ n * k
each_short text k zero h = omega arith
each_short text k (suc n) h =
    let next : suc n ≡ n + 1 = omega arith in
    let more : for_each (suc n) text ≡ for_each n text ++ text n = ap (λ m. for_each m text) next ∙ sym (each_more text n [] (for_each n text) _ refl refl) in
    let parts : length (for_each (suc n) text) ≡ length (for_each n text) + length (text n) = ap length more ∙ length-append (for_each n text) (text n) in
    omega (arith, parts, each_short text k n (λ i l. h i (omega arith)), h n (omega arith))

entry-short : (rows j : ℕ) → rows ≤ 1000 → j < 100000 → length (entry rows j) ≤ 40
entry-short zero j h k = omega arith
entry-short (suc rows) j h k =
    let below : j % suc rows < suc rows = mod_below j (suc rows) (omega arith) in
    entry_line-short j (j % suc rows) k (omega (arith, below))

column_lines-short : (words : List ℕ) (rows j : ℕ) → rows ≤ 1000 → j < 100000 → length (column_lines words rows j) ≤ 80
column_lines-short words rows j h k =
    let both = length-append (cost_line j (cost words j)) (entry rows j) in
    omega (arith, both, cost_line-short j (cost words j) k (omega arith), entry-short rows j h k)

pub model_text-short : (words : List ℕ) (columns rows : ℕ) → columns ≤ 1000 → rows ≤ 1000 → length (model_text words columns rows) ≤ 250000
model_text-short words columns rows h k =
    let numbers : (i : ℕ) → demand words columns rows i < 100000 = λ i. omega (arith, demand_at_most words columns rows i, size_at_most columns rows i) in
    let rows_short = each_short row_line 40 rows (λ i l. row_line-short i (omega arith)) in
    let columns_short = each_short (column_lines words rows) 80 columns (λ j l. column_lines-short words rows j k (omega arith)) in
    let demands_short = each_short (λ i. demand_line i (demand words columns rows i)) 40 rows (λ i l. demand_line-short i _ (omega arith) (numbers i)) in
    let bounds_short = each_short bound_line 40 columns (λ j l. bound_line-short j (omega arith)) in
    simp (length-append) (omega (arith, head_lines-short, columns_begin-short, columns_end-short, rows_short, columns_short, demands_short, bounds_short))

change_line-short : (columns rows kind v w : ℕ) → 0 < columns → columns ≤ 1000 → rows ≤ 1000 → kind < kinds rows → length (change_line columns rows kind v w) ≤ 40
change_line-short columns rows zero v w some h k l =
    let below : v % columns < columns = mod_below v columns some in
    new_cost_line-short (v % columns) (cost_of w) (omega (arith, below)) (omega arith)
change_line-short columns rows (suc zero) v w some h k l =
    let below : v % columns < columns = mod_below v columns some in
    new_bound_line-short (v % columns) (w % 10) (omega (arith, below)) (omega arith)
change_line-short columns zero (suc (suc kind)) v w some h k l = absurd (omega arith)
change_line-short columns (suc rows) (suc (suc kind)) v w some h k l =
    let below : v % suc rows < suc rows = mod_below v (suc rows) (omega arith) in
    let few = size_at_most columns (suc rows) (v % suc rows) in
    let least = mod_below w (9 * size columns (suc rows) (v % suc rows) + 5) (omega arith) in
    new_demand_line-short (v % suc rows) _ (omega (arith, below)) (omega (arith, few, least))

change_at-short : (words : List ℕ) (columns rows k : ℕ) → 0 < columns → columns ≤ 1000 → rows ≤ 1000 → length (change_at words columns rows k) ≤ 40
unfolding change_at
change_at-short words columns rows k some h l = change_line-short columns rows _ _ _ some h l (mod_below (word words k) (kinds rows) (kinds_some rows))

scenario_lines-short : (words : List ℕ) (columns rows k : ℕ) → 0 < columns → columns ≤ 1000 → rows ≤ 1000 → k < 100000 → length (scenario_lines words columns rows k) ≤ 160
scenario_lines-short words columns rows k some h l m =
    let change : (n : ℕ) → length (change_at words columns rows n) ≤ 40 = λ n. change_at-short words columns rows n some h l in
    let first = first_word columns rows k in
    simp (length-append) (omega (arith, scenario_line-short k m, change first, change (first + 3), change (first + 6)))

pub changes_text-short : (words : List ℕ) (columns rows scenarios : ℕ) → 0 < columns → columns ≤ 1000 → rows ≤ 1000 → scenarios ≤ 64 → length (changes_text words columns rows scenarios) ≤ 20000
changes_text-short words columns rows scenarios some h k l =
    let each = each_short (scenario_lines words columns rows) 160 scenarios (λ s m. scenario_lines-short words columns rows s some h k (omega arith)) in
    simp (length-append) (omega (arith, scenarios_line-short scenarios (omega arith), each))

pub model_fits : (text words : List ℕ) (columns rows : ℕ) → text ≡ model_text words columns rows → columns ≤ 1000 → rows ≤ 1000 → length text ≤ 250000
model_fits text words columns rows e h k = rw e (model_text-short words columns rows h k)

pub changes_fit : (text words : List ℕ) (columns rows scenarios : ℕ) → text ≡ changes_text words columns rows scenarios → 0 < columns → columns ≤ 1000 → rows ≤ 1000 → scenarios ≤ 64 → length text ≤ 20000
changes_fit text words columns rows scenarios e some h k l = rw e (changes_text-short words columns rows scenarios some h k l)
