-- The model text of a generated problem is accepted, and has the problem's columns and rows.
use Rattle.std.proofs.Common.{◌≡◌, ◌∙◌, ap, refl, ℕ, zero, suc, ◌+◌, ◌%◌, ◌<◌, ◌≤◌, true, false, not, List, [], ◌∷◌, ◌++◌, map, filter, codes, length, append-nil, Option, None, Ok, arith}
use Rattle.std.specs.Prelude.{flat_map}
use Rattle.std.specs.List.{list_any}
use Rattle.std.specs.Str.{bytes_eq}
use Rattle.std.proofs.lemmas.List.Elements.{filter-append}
use Rattle.std.proofs.lemmas.Nat.{mod_below}
use Rattle.num_text.specs.Lines.{lines_of}
use Rattle.num_text.specs.Words.{line, last_of}
use Rattle.int_model.specs.Models.{IntegerModel}
use Rattle.mps_reader.specs.MpsLines.{Line, Entry, field, is_marker, data_of, column_lines, column_names, column_entries, entries_of, kept_rows, begins_part, begins_behind}
use Rattle.mps_reader.specs.MpsRules.{line_kind}
use Rattle.mps_reader.specs.MpsModels.{model_of, model_of_lines, column_of, row_of, end_kind}
use Rattle.mps_reader.proofs.BoundLemmas.{last_of-push}
use Rattle.mps_reader.proofs.ColumnLemmas.{names_then, integers_then}
use Rattle.changes_reader.specs.Names as names
use Rattle.model_gen.specs.Draws.{word, cost, demand}
use Rattle.model_gen.specs.Texts.{column_name, row_name, data_line, row_line, cost_line, entry, entry_line, demand_line, bound_line, head_lines, columns_begin, columns_end, for_each, model_text}
use Rattle.model_gen.specs.Texts as text
use Rattle.model_gen.proofs.TextLengths.{demand_at_most}
use Rattle.made_problems.specs.Laws.{HasNames}
use Rattle.made_problems.proofs.SizeLaws.{size_at_most}
use Rattle.made_problems.proofs.Triples.{Leads, one_then_other, each_leads}
use Rattle.made_problems.proofs.ModelLines.{Place, run, IsIn, data_leads, header_leads, grown_section}
use Rattle.made_problems.proofs.ModelFacts.{ColumnFacts, Facts, header_added}
use Rattle.made_problems.proofs.RowLines.{row_leads}
use Rattle.made_problems.proofs.ColumnLines.{Columns, Costed, others_stay, cost_leads, entry_leads}
use Rattle.made_problems.proofs.SideLines.{side_leads}
use Rattle.made_problems.proofs.BoundLines.{bound_leads, ended}

-- ---- the head

abbrev name_at : ℕ → Line
name_at n = record { number = n; section = codes "NAME"; header = true; fields = codes "NAME" ∷ codes "gen" ∷ [] }

abbrev rows_at : ℕ → Line
rows_at n = record { number = n; section = codes "ROWS"; header = true; fields = codes "ROWS" ∷ [] }

abbrev objective_at : ℕ → Line
objective_at n = record { number = n; section = codes "ROWS"; header = false; fields = codes "N" ∷ codes "obj" ∷ [] }

abbrev IsFirst : List Line → Type 0
IsFirst earlier = earlier ≡ []

abbrev IsNamed : List Line → Type 0
IsNamed earlier = (k : ℕ) × (earlier ≡ name_at k ∷ [])

abbrev IsOpened : List Line → Type 0
IsOpened earlier = (k : ℕ) × (m : ℕ) × (earlier ≡ name_at k ∷ rows_at m ∷ [])

abbrev first_headers : List (List ℕ)
first_headers = codes "NAME" ∷ codes "ROWS" ∷ []

abbrev column_headers : List (List ℕ)
column_headers = codes "NAME" ∷ codes "ROWS" ∷ codes "COLUMNS" ∷ []

abbrev side_headers : List (List ℕ)
side_headers = codes "NAME" ∷ codes "ROWS" ∷ codes "COLUMNS" ∷ codes "RHS" ∷ []

abbrev all_headers : List (List ℕ)
all_headers = codes "NAME" ∷ codes "ROWS" ∷ codes "COLUMNS" ∷ codes "RHS" ∷ codes "BOUNDS" ∷ []

first_facts : (k m n : ℕ) → Facts first_headers 0 0 0 0 (name_at k ∷ rows_at m ∷ objective_at n ∷ [])
first_facts k m n = record {
  headed = refl;
  directions = refl;
  rows = record { all = refl; free = refl; kept = refl };
  columns = record { named = refl; integers = refl; fresh = λ j h g. refl; few = omega arith };
  sides = record { rows = refl; set = refl };
  bounds = record { set = refl; each = λ j h few. absurd (omega arith); none = λ j h few. refl };
}

head_leads : (last : ℕ) → Leads (run last) (IsIn [] IsFirst) head_lines (IsIn (codes "ROWS") (Facts first_headers 0 0 0 0))
unfolding head_lines
head_leads last =
    let named = header_leads last [] (codes "NAME") IsFirst IsNamed (codes "gen" ∷ []) refl refl refl refl (λ n earlier e. (rw e refl, (n, rw e refl))) in
    let opened = header_leads last (codes "NAME") (codes "ROWS") IsNamed IsOpened [] refl refl refl refl (λ n earlier e. (rw (e.1) refl, (e.0, n, rw (e.1) refl))) in
    let begun = data_leads last (codes "ROWS") IsOpened (Facts first_headers 0 0 0 0) (codes "N") (codes "obj" ∷ []) refl (λ n earlier e. (rw (e.2) refl, rw (e.2) (first_facts e.0 e.1 n))) in
    one_then_other (run last) (IsIn [] IsFirst) (IsIn (codes "ROWS") IsOpened) (IsIn (codes "ROWS") (Facts first_headers 0 0 0 0)) (line (codes "NAME" ∷ codes "gen" ∷ []) ++ line (codes "ROWS" ∷ [])) (data_line (codes "N" ∷ codes "obj" ∷ []))
    (one_then_other (run last) (IsIn [] IsFirst) (IsIn (codes "NAME") IsNamed) (IsIn (codes "ROWS") IsOpened) (line (codes "NAME" ∷ codes "gen" ∷ [])) (line (codes "ROWS" ∷ [])) named opened)
    begun

-- ---- markers

abbrev marker_at : ℕ → List ℕ → Line
marker_at n word = record { number = n; section = codes "COLUMNS"; header = false; fields = codes "M" ∷ codes "'MARKER'" ∷ word ∷ [] }

entries_marked : (n : ℕ) (word : List ℕ) (earlier : List Line) → entries_of (codes "COLUMNS") (earlier ++ marker_at n word ∷ []) ≡ entries_of (codes "COLUMNS") earlier
entries_marked n word earlier =
    ap (λ (ls : List Line). flat_map column_entries (filter (λ q. not (is_marker q)) ls)) (grown_section (codes "COLUMNS") earlier (marker_at n word) refl)
    ∙ ap (flat_map column_entries) (filter-append (λ q. not (is_marker q)) (data_of (codes "COLUMNS") earlier) (marker_at n word ∷ []) ∙ append-nil (column_lines earlier))

marked : (c n : ℕ) (word : List ℕ) (earlier : List Line) → ColumnFacts c earlier → ColumnFacts c (earlier ++ marker_at n word ∷ [])
marked c n word earlier f = record {
  named = names_then earlier (marker_at n word) ∙ append-nil (column_names earlier) ∙ f.named;
  integers = integers_then earlier (marker_at n word) ∙ append-nil _ ∙ f.integers;
  fresh = λ j g k. ap (λ (es : List Entry). list_any (λ (b : Entry). bytes_eq b.owner (column_name j)) es) (entries_marked n word earlier) ∙ f.fresh j g k;
  few = omega (arith, ap (λ (es : List Entry). length es) (entries_marked n word earlier), f.few);
}

part_begun : (headers : List (List ℕ)) (r n : ℕ) (earlier : List Line) → Facts headers r 0 0 0 earlier → Columns headers r 0 (earlier ++ marker_at n (codes "'INTORG'") ∷ [])
part_begun headers r n earlier f =
    let l : Line = marker_at n (codes "'INTORG'") in
    let grown : data_of (codes "COLUMNS") (earlier ++ l ∷ []) ≡ data_of (codes "COLUMNS") earlier ++ l ∷ [] = grown_section (codes "COLUMNS") earlier l refl in
    record {
      facts = others_stay headers r 0 0 n (codes "M" ∷ codes "'MARKER'" ∷ codes "'INTORG'" ∷ []) earlier f (marked 0 n (codes "'INTORG'") earlier f.columns);
      integer = ap (λ (ls : List Line). begins_part (last_of (filter is_marker ls))) grown ∙ ap (λ (ls : List Line). begins_part (last_of ls)) (filter-append is_marker (data_of (codes "COLUMNS") earlier) (l ∷ [])) ∙ ap begins_part (last_of-push (filter is_marker (data_of (codes "COLUMNS") earlier)) l);
      begins = λ j h few. ap (λ (ls : List Line). begins_behind (last_of ls) (column_name j)) grown ∙ ap (λ (o : Option Line). begins_behind o (column_name j)) (last_of-push (data_of (codes "COLUMNS") earlier) l);
    }

columns_begin_leads : (last r : ℕ) → Leads (run last) (IsIn (codes "ROWS") (Facts first_headers r 0 0 0)) columns_begin (IsIn (codes "COLUMNS") (Columns column_headers r 0))
unfolding columns_begin
columns_begin_leads last r =
    one_then_other (run last) (IsIn (codes "ROWS") (Facts first_headers r 0 0 0)) (IsIn (codes "COLUMNS") (Facts column_headers r 0 0 0)) (IsIn (codes "COLUMNS") (Columns column_headers r 0)) (line (codes "COLUMNS" ∷ [])) (data_line (codes "M" ∷ codes "'MARKER'" ∷ codes "'INTORG'" ∷ []))
    (header_leads last (codes "ROWS") (codes "COLUMNS") (Facts first_headers r 0 0 0) (Facts column_headers r 0 0 0) [] refl refl refl refl (λ n earlier f. (rw (f.headed) refl, header_added first_headers r 0 0 0 n (codes "COLUMNS") earlier refl f)))
    (data_leads last (codes "COLUMNS") (Facts column_headers r 0 0 0) (Columns column_headers r 0) (codes "M") (codes "'MARKER'" ∷ codes "'INTORG'" ∷ []) refl (λ n earlier f. (refl, part_begun column_headers r n earlier f)))

columns_end_leads : (last r c : ℕ) → Leads (run last) (IsIn (codes "COLUMNS") (Columns column_headers r c)) columns_end (IsIn (codes "COLUMNS") (Facts column_headers r c 0 0))
unfolding columns_end
columns_end_leads last r c =
    data_leads last (codes "COLUMNS") (Columns column_headers r c) (Facts column_headers r c 0 0) (codes "M") (codes "'MARKER'" ∷ codes "'INTEND'" ∷ []) refl (λ n earlier f. (refl, others_stay column_headers r c c n (codes "M" ∷ codes "'MARKER'" ∷ codes "'INTEND'" ∷ []) earlier f.facts (marked c n (codes "'INTEND'") earlier f.facts.columns)))

-- ---- a column

entry_or_none : (last r j : ℕ) → j < 1000 → r ≤ 1000 → Leads (run last) (IsIn (codes "COLUMNS") (Costed column_headers r j)) (entry r j) (IsIn (codes "COLUMNS") (Columns column_headers r (suc j)))
entry_or_none last zero j h few = λ p at. (p, record { under = at.under; before = at.before.columns }, λ rest. refl)
entry_or_none last (suc r) j h few = entry_leads last column_headers (suc r) j (j % suc r) h (mod_below j (suc r) (omega arith)) few

column_leads : (last r : ℕ) (words : List ℕ) (j : ℕ) → j < 1000 → r ≤ 1000 → Leads (run last) (IsIn (codes "COLUMNS") (Columns column_headers r j)) (text.column_lines words r j) (IsIn (codes "COLUMNS") (Columns column_headers r (suc j)))
column_leads last r words j h few =
    one_then_other (run last) (IsIn (codes "COLUMNS") (Columns column_headers r j)) (IsIn (codes "COLUMNS") (Costed column_headers r j)) (IsIn (codes "COLUMNS") (Columns column_headers r (suc j))) (cost_line j (cost words j)) (entry r j)
    (cost_leads last column_headers r j (cost words j) h (omega (arith, mod_below (word words j) 100 (omega arith))))
    (entry_or_none last r j h few)

-- ---- all lines but the last

abbrev body : List ℕ → ℕ → ℕ → List ℕ
body words columns rows =
    head_lines
    ++ for_each rows row_line
    ++ columns_begin
    ++ for_each columns (text.column_lines words rows)
    ++ columns_end
    ++ line (codes "RHS" ∷ [])
    ++ for_each rows (λ i. demand_line i (demand words columns rows i))
    ++ line (codes "BOUNDS" ∷ [])
    ++ for_each columns bound_line

module _ (last : ℕ) (words : List ℕ) (c r : ℕ) (few_columns : c ≤ 1000) (few_rows : r ≤ 1000) where
  small_demand : (i : ℕ) → demand words c r i ≤ 10000
  small_demand i = omega (arith, demand_at_most words c r i, size_at_most c r i)

  body_leads : Leads (run last) (IsIn [] IsFirst) (body words c r) (IsIn (codes "BOUNDS") (Facts all_headers r c r c))
  body_leads =
      let P0 : Place → Type 0 = IsIn [] IsFirst in
      let P1 : Place → Type 0 = IsIn (codes "ROWS") (Facts first_headers 0 0 0 0) in
      let P2 : Place → Type 0 = IsIn (codes "ROWS") (Facts first_headers r 0 0 0) in
      let P3 : Place → Type 0 = IsIn (codes "COLUMNS") (Columns column_headers r 0) in
      let P4 : Place → Type 0 = IsIn (codes "COLUMNS") (Columns column_headers r c) in
      let P5 : Place → Type 0 = IsIn (codes "COLUMNS") (Facts column_headers r c 0 0) in
      let P6 : Place → Type 0 = IsIn (codes "RHS") (Facts side_headers r c 0 0) in
      let P7 : Place → Type 0 = IsIn (codes "RHS") (Facts side_headers r c r 0) in
      let P8 : Place → Type 0 = IsIn (codes "BOUNDS") (Facts all_headers r c r 0) in
      let P9 : Place → Type 0 = IsIn (codes "BOUNDS") (Facts all_headers r c r c) in
      let rows = each_leads (run last) (λ k. IsIn (codes "ROWS") (Facts first_headers k 0 0 0)) row_line r (λ k h. row_leads last first_headers k (omega arith)) in
      let columns = each_leads (run last) (λ k. IsIn (codes "COLUMNS") (Columns column_headers r k)) (text.column_lines words r) c (λ k h. column_leads last r words k (omega arith) few_rows) in
      let sides_begin = header_leads last (codes "COLUMNS") (codes "RHS") (Facts column_headers r c 0 0) (Facts side_headers r c 0 0) [] refl refl refl refl (λ n earlier f. (rw (f.headed) refl, header_added column_headers r c 0 0 n (codes "RHS") earlier refl f)) in
      let sides = each_leads (run last) (λ k. IsIn (codes "RHS") (Facts side_headers r c k 0)) (λ i. demand_line i (demand words c r i)) r (λ k h. side_leads last side_headers r c k (demand words c r k) h few_rows (small_demand k)) in
      let bounds_begin = header_leads last (codes "RHS") (codes "BOUNDS") (Facts side_headers r c r 0) (Facts all_headers r c r 0) [] refl refl refl refl (λ n earlier f. (rw (f.headed) refl, header_added side_headers r c r 0 n (codes "BOUNDS") earlier refl f)) in
      let bounds = each_leads (run last) (λ k. IsIn (codes "BOUNDS") (Facts all_headers r c r k)) bound_line c (λ k h. bound_leads last all_headers r c r k h few_columns) in
      let t2 : List ℕ = head_lines ++ for_each r row_line in
      let t3 : List ℕ = t2 ++ columns_begin in
      let t4 : List ℕ = t3 ++ for_each c (text.column_lines words r) in
      let t5 : List ℕ = t4 ++ columns_end in
      let t6 : List ℕ = t5 ++ line (codes "RHS" ∷ []) in
      let t7 : List ℕ = t6 ++ for_each r (λ i. demand_line i (demand words c r i)) in
      let t8 : List ℕ = t7 ++ line (codes "BOUNDS" ∷ []) in
      let to_2 = one_then_other (run last) P0 P1 P2 head_lines (for_each r row_line) (head_leads last) rows in
      let to_3 = one_then_other (run last) P0 P2 P3 t2 columns_begin to_2 (columns_begin_leads last r) in
      let to_4 = one_then_other (run last) P0 P3 P4 t3 (for_each c (text.column_lines words r)) to_3 columns in
      let to_5 = one_then_other (run last) P0 P4 P5 t4 columns_end to_4 (columns_end_leads last r c) in
      let to_6 = one_then_other (run last) P0 P5 P6 t5 (line (codes "RHS" ∷ [])) to_5 sides_begin in
      let to_7 = one_then_other (run last) P0 P6 P7 t6 (for_each r (λ i. demand_line i (demand words c r i))) to_6 sides in
      let to_8 = one_then_other (run last) P0 P7 P8 t7 (line (codes "BOUNDS" ∷ [])) to_7 bounds_begin in
      one_then_other (run last) P0 P8 P9 t8 (for_each c bound_line) to_8 bounds

-- ---- the end

end_read : (last : ℕ) (p : Place) → line_kind p.earlier (record { number = p.number; section = codes "ENDATA"; header = true; fields = codes "ENDATA" ∷ [] }) ≡ None → end_kind p.earlier (column_names p.earlier) ≡ None → run last p (line (codes "ENDATA" ∷ [])) ≡ Ok (model_of_lines p.earlier)
end_read last p kind none = rw (kind, none) refl

columns_named : (earlier : List Line) (ws : List (List ℕ)) → names.column_names (record (model_of_lines earlier) { columns = map (column_of earlier) ws }) ≡ ws
columns_named earlier [] = refl
columns_named earlier (w ∷ ws) = ap (λ (vs : List (List ℕ)). w ∷ vs) (columns_named earlier ws)

rows_named : (earlier ls : List Line) → names.row_names (record (model_of_lines earlier) { rows = map (row_of earlier) ls }) ≡ map (field 1) ls
rows_named earlier [] = refl
rows_named earlier (l ∷ ls) = ap (λ (vs : List (List ℕ)). field 1 l ∷ vs) (rows_named earlier ls)

pub model_accepted : (words : List ℕ) (columns rows : ℕ) → columns ≤ 1000 → rows ≤ 1000 → (m : IntegerModel) × (model_of (model_text words columns rows) ≡ Ok m) × HasNames columns rows m
model_accepted words c r few_columns few_rows =
    let last : ℕ = length (lines_of (model_text words c r)) + 1 in
    let start : Place = record { number = 1; section = []; earlier = [] } in
    let at = body_leads last words c r few_columns few_rows start (record { under = refl; before = refl }) in
    let f : Facts all_headers r c r c at.0.earlier = at.1.before in
    let kind : line_kind at.0.earlier (record { number = at.0.number; section = codes "ENDATA"; header = true; fields = codes "ENDATA" ∷ [] }) ≡ None = rw (f.headed) refl in (
      model_of_lines at.0.earlier,
      at.2 (line (codes "ENDATA" ∷ [])) ∙ end_read last at.0 kind (ended all_headers r c r at.0.earlier few_columns f),
      record {
        columns_named = columns_named at.0.earlier (column_names at.0.earlier) ∙ f.columns.named;
        rows_named = rows_named at.0.earlier (kept_rows at.0.earlier) ∙ f.rows.kept;
      },
    )
