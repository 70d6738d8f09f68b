-- The lines of columns are accepted.
use Rattle.std.proofs.Common.{◌≡◌, ◌∙◌, ap, sym, refl, ℕ, suc, ◌+◌, ◌*◌, ◌^◌, ◌<◌, ◌≤◌, true, false, not, ◌&&◌, nat_lt, nat_le, List, [], ◌∷◌, ◌++◌, filter, codes, length, length-append, append-nil, Option, Some, None, arith, decimal}
use Rattle.std.specs.Prelude.{flat_map}
use Rattle.std.specs.List.{list_any, list_all}
use Rattle.std.specs.Str.{bytes_eq}
use Rattle.std.proofs.lemmas.Grind.{flat_map-append}
use Rattle.std.proofs.lemmas.List.{length-map}
use Rattle.std.proofs.lemmas.List.Elements.{filter-append}
use Rattle.std.proofs.lemmas.List.Sums.{count_by-le-length}
use Rattle.num_text.specs.Words.{is_one_of, last_of}
use Rattle.mps_reader.specs.MpsLines.{Line, Entry, field, is_marker, is_data_of, data_of, column_lines, column_starts, column_names, integer_names, column_entries, entries_of, begins_behind, begins_part, in_integer_part, is_kept}
use Rattle.mps_reader.specs.MpsRules.{line_kind, term_count, is_nonzero}
use Rattle.mps_reader.proofs.OpeningLemmas.{headers_of-data, direction_words-append, list_any-append, bytes_eq-refl, or-parts}
use Rattle.mps_reader.proofs.BoundLemmas.{last_of-push}
use Rattle.mps_reader.proofs.ColumnLemmas.{names_then, integers_then}
use Rattle.model_gen.specs.Texts.{column_name, row_name, cost_line, entry_line}
use Rattle.made_problems.proofs.LineTexts.{is_word}
use Rattle.made_problems.proofs.NumberTexts.{words_apart, name_word, names_apart, number_word}
use Rattle.made_problems.proofs.NameTexts.{names, names_more, names_count, name_is_new, among_names}
use Rattle.made_problems.proofs.Triples.{Leads}
use Rattle.made_problems.proofs.ModelLines.{run, IsIn, data_leads, grown_section}
use Rattle.made_problems.proofs.ModelFacts.{ColumnFacts, Facts, rows_stay, sides_stay, bounds_stay}
use Rattle.made_problems.proofs.RowLines.{at_most, below, short_name, number_accepted, row_known, row_not_dropped}

-- between two columns, in an integer part
pub record Columns (headers : List (List ℕ)) (r c : ℕ) (earlier : List Line) : Type 0 where
  pub facts : Facts headers r c 0 0 earlier
  pub integer : in_integer_part earlier ≡ true
  pub begins : (j : ℕ) → c ≤ j → j < 2 ^ 63 → begins_behind (last_of (data_of (codes "COLUMNS") earlier)) (column_name j) ≡ true

-- behind the cost of column j
pub record Costed (headers : List (List ℕ)) (r j : ℕ) (earlier : List Line) : Type 0 where
  pub columns : Columns headers r (suc j) earlier
  pub goes_on : begins_behind (last_of (data_of (codes "COLUMNS") earlier)) (column_name j) ≡ false
  pub apart : (i : ℕ) → list_any (λ (b : Entry). bytes_eq b.owner (column_name j) && bytes_eq b.row (row_name i)) (entries_of (codes "COLUMNS") earlier) ≡ false
  pub fewer : length (entries_of (codes "COLUMNS") earlier) ≤ 2 * j + 1

abbrev cost_at : ℕ → ℕ → ℕ → Line
cost_at n j number = record { number = n; section = codes "COLUMNS"; header = false; fields = column_name j ∷ codes "obj" ∷ decimal number ∷ [] }

abbrev entry_at : ℕ → ℕ → ℕ → Line
entry_at n j i = record { number = n; section = codes "COLUMNS"; header = false; fields = column_name j ∷ row_name i ∷ codes "1" ∷ [] }

-- ---- one more line

entries_grow : (earlier : List Line) (l : Line) → is_data_of (codes "COLUMNS") l ≡ true → is_marker l ≡ false → entries_of (codes "COLUMNS") (earlier ++ l ∷ []) ≡ entries_of (codes "COLUMNS") earlier ++ column_entries l
entries_grow earlier l h k =
    ap (λ (ls : List Line). flat_map column_entries (filter (λ q. not (is_marker q)) ls)) (grown_section (codes "COLUMNS") earlier l h)
    ∙ ap (flat_map column_entries) (filter-append (λ q. not (is_marker q)) (data_of (codes "COLUMNS") earlier) (l ∷ []))
    ∙ flat_map-append column_entries (column_lines earlier) (filter (λ q. not (is_marker q)) (l ∷ []))
    ∙ ap (λ (es : List Entry). entries_of (codes "COLUMNS") earlier ++ es) (rw k (append-nil (column_entries l)))

last_grown : (earlier : List Line) (l : Line) → is_data_of (codes "COLUMNS") l ≡ true → last_of (data_of (codes "COLUMNS") (earlier ++ l ∷ [])) ≡ Some l
last_grown earlier l h = ap last_of (grown_section (codes "COLUMNS") earlier l h) ∙ last_of-push (data_of (codes "COLUMNS") earlier) l

part_stays : (earlier : List Line) (l : Line) → is_data_of (codes "COLUMNS") l ≡ true → is_marker l ≡ false → in_integer_part (earlier ++ l ∷ []) ≡ in_integer_part earlier
part_stays earlier l h k =
    let markers : filter is_marker (data_of (codes "COLUMNS") earlier ++ l ∷ []) ≡ filter is_marker (data_of (codes "COLUMNS") earlier) = filter-append is_marker (data_of (codes "COLUMNS") earlier) (l ∷ []) ∙ rw k (append-nil (filter is_marker (data_of (codes "COLUMNS") earlier))) in
    ap (λ (ls : List Line). begins_part (last_of (filter is_marker ls))) (grown_section (codes "COLUMNS") earlier l h)
    ∙ ap (λ (ls : List Line). begins_part (last_of ls)) markers

-- tests of both an owner and a row fail where one of them does
both_fail : (owner row : List ℕ) (es : List Entry) → list_any (λ (b : Entry). bytes_eq b.owner owner) es ≡ false → list_any (λ (b : Entry). bytes_eq b.owner owner && bytes_eq b.row row) es ≡ false
both_fail owner row [] h = refl
both_fail owner row (e ∷ es) h =
    let split = or-parts (bytes_eq e.owner owner) (list_any (λ (b : Entry). bytes_eq b.owner owner) es) h in
    rw (split.0) (both_fail owner row es split.1)

few_terms : (earlier : List Line) (es : List Entry) → length es ≤ 100000 → nat_lt 100000 (term_count earlier es) ≡ false
few_terms earlier es h = at_most 100000 (term_count earlier es) (omega (arith, count_by-le-length (λ (e : Entry). is_kept earlier e.row && is_nonzero e.text) es))

module _ (headers : List (List ℕ)) (r : ℕ) where
  cost_accepted : (j n number : ℕ) (earlier : List Line) → j < 1000 → number ≤ 100 → Columns headers r j earlier → line_kind earlier (cost_at n j number) ≡ None
  cost_accepted j n number earlier h small f =
      let named : is_one_of (column_names earlier) (column_name j) ≡ false = ap (λ (ws : List (List ℕ)). is_one_of ws (column_name j)) f.facts.columns.named ∙ among_names (column_name j) (names column_name j) false (name_is_new 99 j j (omega arith) (omega arith)) in
      let count : length (column_starts earlier) ≡ j = sym (length-map (column_starts earlier) (field 0)) ∙ ap (λ (ws : List (List ℕ)). length ws) f.facts.columns.named ∙ names_count column_name j in
      let few : nat_le 1000 (length (column_starts earlier)) ≡ false = below 1000 (length (column_starts earlier)) (omega arith) in
      let es : List Entry = entries_of (codes "COLUMNS") earlier in
      let e : Entry = record { owner = column_name j; row = codes "obj"; text = decimal number } in
      let new : list_any (λ (b : Entry). bytes_eq b.owner (column_name j) && bytes_eq b.row (codes "obj")) es ≡ false = both_fail (column_name j) (codes "obj") es (f.facts.columns.fresh j (omega arith) (omega arith)) in
      let terms : nat_lt 100000 (term_count earlier (es ++ e ∷ [])) ≡ false = few_terms earlier (es ++ e ∷ []) (omega (arith, length-append es (e ∷ []), f.facts.columns.few)) in
      rw (f.begins j (omega arith) (omega arith), short_name 99 j (omega arith), named, few, f.facts.rows.free, new, number_accepted (10 ^ 9) number (omega arith) (omega arith), terms) refl

  entry_accepted : (j i n : ℕ) (earlier : List Line) → j < 1000 → i < r → Costed headers r j earlier → line_kind earlier (entry_at n j i) ≡ None
  entry_accepted j i n earlier h there f =
      let es : List Entry = entries_of (codes "COLUMNS") earlier in
      let e : Entry = record { owner = column_name j; row = row_name i; text = codes "1" } in
      let terms : nat_lt 100000 (term_count earlier (es ++ e ∷ [])) ≡ false = few_terms earlier (es ++ e ∷ []) (omega (arith, length-append es (e ∷ []), f.fewer)) in
      rw (words_apart 114 (decimal i) 39 (codes "MARKER'") (λ q. absurd (omega arith)), f.goes_on, row_known r i earlier f.columns.facts.rows there, row_not_dropped r i earlier f.columns.facts.rows, f.apart i, terms) refl

  -- the facts that a line of COLUMNS leaves
  pub others_stay : (c d n : ℕ) (fields : List (List ℕ)) (earlier : List Line) → Facts headers r c 0 0 earlier → ColumnFacts d (earlier ++ record { number = n; section = codes "COLUMNS"; header = false; fields = fields } ∷ []) → Facts headers r d 0 0 (earlier ++ record { number = n; section = codes "COLUMNS"; header = false; fields = fields } ∷ [])
  others_stay c d n fields earlier f columns =
      let l : Line = record { number = n; section = codes "COLUMNS"; header = false; fields = fields } in
      record {
        headed = headers_of-data earlier l refl ∙ f.headed;
        directions = direction_words-append earlier (l ∷ []) ∙ rw (f.directions) refl;
        rows = rows_stay r earlier l refl f.rows;
        columns = columns;
        sides = sides_stay 0 earlier l refl f.sides;
        bounds = bounds_stay 0 earlier l refl f.bounds;
      }

  cost_added : (j n number : ℕ) (earlier : List Line) → j < 1000 → Columns headers r j earlier → Costed headers r j (earlier ++ cost_at n j number ∷ [])
  cost_added j n number earlier h f =
      let l : Line = cost_at n j number in
      let e : Entry = record { owner = column_name j; row = codes "obj"; text = decimal number } in
      let es : List Entry = entries_of (codes "COLUMNS") earlier in
      let starts : begins_behind (last_of (data_of (codes "COLUMNS") earlier)) (column_name j) ≡ true = f.begins j (omega arith) (omega arith) in
      let grown : entries_of (codes "COLUMNS") (earlier ++ l ∷ []) ≡ es ++ e ∷ [] = entries_grow earlier l refl refl in
      let count : length (entries_of (codes "COLUMNS") (earlier ++ l ∷ [])) ≡ length es + 1 = ap (λ (xs : List Entry). length xs) grown ∙ length-append es (e ∷ []) in
      let last : last_of (data_of (codes "COLUMNS") (earlier ++ l ∷ [])) ≡ Some l = last_grown earlier l refl in
      record {
        columns = record {
          facts = others_stay j (suc j) n (column_name j ∷ codes "obj" ∷ decimal number ∷ []) earlier f.facts (record {
            named = names_then earlier l ∙ rw starts (ap (λ (ws : List (List ℕ)). ws ++ column_name j ∷ []) f.facts.columns.named ∙ sym (names_more column_name j));
            integers = integers_then earlier l ∙ rw (starts, f.integer) (ap (λ (ws : List (List ℕ)). ws ++ column_name j ∷ []) f.facts.columns.integers ∙ sym (names_more column_name j));
            fresh = λ k g q. ap (λ (xs : List Entry). list_any (λ (b : Entry). bytes_eq b.owner (column_name k)) xs) grown ∙ list_any-append (λ (b : Entry). bytes_eq b.owner (column_name k)) es (e ∷ []) ∙ rw (f.facts.columns.fresh k (omega arith) q, names_apart 99 j k (omega arith) q (λ same. omega arith)) refl;
            few = omega (arith, count, f.facts.columns.few);
          });
          integer = part_stays earlier l refl refl ∙ f.integer;
          begins = λ k g q. ap (λ (o : Option Line). begins_behind o (column_name k)) last ∙ rw (names_apart 99 j k (omega arith) q (λ same. omega arith)) refl;
        };
        goes_on = ap (λ (o : Option Line). begins_behind o (column_name j)) last ∙ rw (bytes_eq-refl (column_name j)) refl;
        apart = λ i. ap (λ (xs : List Entry). list_any (λ (b : Entry). bytes_eq b.owner (column_name j) && bytes_eq b.row (row_name i)) xs) grown ∙ list_any-append (λ (b : Entry). bytes_eq b.owner (column_name j) && bytes_eq b.row (row_name i)) es (e ∷ []) ∙ rw (both_fail (column_name j) (row_name i) es (f.facts.columns.fresh j (omega arith) (omega arith)), bytes_eq-refl (column_name j), words_apart 111 (codes "bj") 114 (decimal i) (λ same. absurd (omega arith))) refl;
        fewer = omega (arith, count, f.facts.columns.few);
      }

  entry_added : (j i n : ℕ) (earlier : List Line) → j < 1000 → Costed headers r j earlier → Columns headers r (suc j) (earlier ++ entry_at n j i ∷ [])
  entry_added j i n earlier h f =
      let l : Line = entry_at n j i in
      let e : Entry = record { owner = column_name j; row = row_name i; text = codes "1" } in
      let es : List Entry = entries_of (codes "COLUMNS") earlier in
      let plain : is_marker l ≡ false = words_apart 114 (decimal i) 39 (codes "MARKER'") (λ q. absurd (omega arith)) in
      let grown : entries_of (codes "COLUMNS") (earlier ++ l ∷ []) ≡ es ++ e ∷ [] = entries_grow earlier l refl plain in
      let count : length (entries_of (codes "COLUMNS") (earlier ++ l ∷ [])) ≡ length es + 1 = ap (λ (xs : List Entry). length xs) grown ∙ length-append es (e ∷ []) in
      record {
        facts = others_stay (suc j) (suc j) n (column_name j ∷ row_name i ∷ codes "1" ∷ []) earlier f.columns.facts (record {
          named = names_then earlier l ∙ rw (plain, f.goes_on) (append-nil (column_names earlier)) ∙ f.columns.facts.columns.named;
          integers = integers_then earlier l ∙ rw (plain, f.goes_on) (append-nil (integer_names earlier)) ∙ f.columns.facts.columns.integers;
          fresh = λ k g q. ap (λ (xs : List Entry). list_any (λ (b : Entry). bytes_eq b.owner (column_name k)) xs) grown ∙ list_any-append (λ (b : Entry). bytes_eq b.owner (column_name k)) es (e ∷ []) ∙ rw (f.columns.facts.columns.fresh k g q, names_apart 99 j k (omega arith) q (λ same. omega arith)) refl;
          few = omega (arith, count, f.fewer);
        });
        integer = part_stays earlier l refl plain ∙ f.columns.integer;
        begins = λ k g q. ap (λ (o : Option Line). begins_behind o (column_name k)) (last_grown earlier l refl) ∙ rw (plain, names_apart 99 j k (omega arith) q (λ same. omega arith)) refl;
      }

pub cost_leads : (last : ℕ) (headers : List (List ℕ)) (r j number : ℕ) → j < 1000 → number ≤ 100 → Leads (run last) (IsIn (codes "COLUMNS") (Columns headers r j)) (cost_line j number) (IsIn (codes "COLUMNS") (Costed headers r j))
unfolding cost_line
cost_leads last headers r j number h small =
    let words : list_all is_word (column_name j ∷ codes "obj" ∷ decimal number ∷ []) ≡ true = rw (name_word 99 j refl (omega arith), number_word number (omega arith)) refl in
    data_leads last (codes "COLUMNS") (Columns headers r j) (Costed headers r j) (column_name j) (codes "obj" ∷ decimal number ∷ []) words (λ n earlier f. (cost_accepted headers r j n number earlier h small f, cost_added headers r j n number earlier h f))

pub entry_leads : (last : ℕ) (headers : List (List ℕ)) (r j i : ℕ) → j < 1000 → i < r → r ≤ 1000 → Leads (run last) (IsIn (codes "COLUMNS") (Costed headers r j)) (entry_line j i) (IsIn (codes "COLUMNS") (Columns headers r (suc j)))
unfolding entry_line
entry_leads last headers r j i h there few =
    let words : list_all is_word (column_name j ∷ row_name i ∷ codes "1" ∷ []) ≡ true = rw (name_word 99 j refl (omega arith), name_word 114 i refl (omega arith)) refl in
    data_leads last (codes "COLUMNS") (Costed headers r j) (Columns headers r (suc j)) (column_name j) (row_name i ∷ codes "1" ∷ []) words (λ n earlier f. (entry_accepted headers r j i n earlier h there f, entry_added headers r j i n earlier h f))
