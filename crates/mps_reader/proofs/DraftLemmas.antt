-- How a line of each section continues a draft.
use Rattle.std.proofs.Common.{◌≡◌, ◌∙◌, ap, sym, subst, ℕ, ◌+◌, ◌-◌, ◌<◌, Bool, true, false, ◌&&◌, ◌||◌, not, cond, List, [], ◌∷◌, ◌++◌, map, length, Option, Some, None, refl, append-nil, arith, Bor, add-zero, ℤ, ◌≤◌, unsigned_abs}
use Rattle.std.specs.Prelude.{bytes_eq, filter, filter_map, flat_map, codes, option_map, position, slice_set, slice_index_or, unwrap_or, if◌then◌else◌, ◌^◌}
use Rattle.std.specs.List.{list_any, IsDistinct, sum_by}
use Rattle.std.proofs.lemmas.Bool.{true≢false, or_parts}
use Rattle.std.proofs.lemmas.List.{map-append, get_or_default}
use Rattle.std.proofs.lemmas.List.Elements.{filter-append}
use Rattle.mps_reader.specs.MpsLines.{Line, Entry, field, takes_value, bound_has_set, bound_text, is_free, kept_rows, is_marker, is_kept, set_of, set_entries, column_entries, is_data_of, data_of, starts_column, in_integer_part, integer_names, column_names, entries_of, sets_of, bound_column, is_one_of, last_of, headers_of}
use Rattle.mps_reader.specs.MpsRules.{or_else, first_kind, number_kind, is_second, bound_fits, is_nonzero, term_count, data_kind, header_kind, direction_kind, row_kind, column_kind, rhs_kind, range_kind, bound_kind}
use Rattle.mps_reader.specs.MpsModels.{given, bound_lines, low_set, high_set, number_or_zero}
use Rattle.mps_reader.specs.TakenLines.{IsHeaderWith, IsDataWith}
use Rattle.mps_reader.specs.Sections.{word_of, words_of}
use Rattle.mps_reader.specs.Openings.{HeadersAgree}
use Rattle.mps_reader.specs.Sets.{AgreesWith}
use Rattle.mps_reader.specs.RowTables.{RowsReady, sense_with}
use Rattle.mps_reader.specs.BegunRows.{IsBegun, IsRowPushed}
use Rattle.mps_reader.specs.BoundLines.{BoundsReady}
use Rattle.mps_reader.specs.ColumnBounds.{BoundsAgree, with_line}
use Rattle.mps_reader.specs.ColumnTables.{with_bound}
use Rattle.mps_reader.specs.Tables.{IsTable, IsAlong, texts_of}
use Rattle.mps_reader.specs.SideNumbers.{ignores, side_of, other_of, IsSameBesides}
use Rattle.mps_reader.specs.ColumnNumbers.{is_unread, is_column}
use Rattle.mps_reader.specs.RowStates.{HasRole, HasSide, HasLast, RowsAgree, SideAgrees, EntriesAgree, is_given, is_entry, terms_for, term_weight}
use Rattle.mps_reader.specs.SideSteps.{SideThen}
use Rattle.mps_reader.specs.ColumnStates.{ColumnsReady, ColumnsAgree, HasColumn, IsLimited}
use Rattle.mps_reader.specs.ColumnSteps.{HasSameSides, HasSameBounds, AddsColumn, AreGrown, ColumnThen}
use Rattle.mps_reader.specs.Drafts.{Agrees, IsLineBehind, IsTaken, is_ended, section_behind}
use Rattle.mps_reader.specs.declared.draft.Progress.{Progress}
use Rattle.mps_reader.specs.declared.bounds.Bounds.{Bounds}
use Rattle.mps_reader.specs.declared.MpsKind.{MpsKind}
use Rattle.mps_reader.specs.declared.MpsKind.TheVariants.{Fields, SecondSet, UnknownColumn}
use Rattle.mps_reader.specs.declared.draft.Draft.{Draft}
use Rattle.mps_reader.specs.declared.header.Headers.{Headers}
use Rattle.mps_reader.specs.declared.header.Section.{Section}
use Rattle.mps_reader.specs.declared.rows.Rows.{Rows}
use Rattle.mps_reader.specs.declared.columns.Columns.{Columns}
use Rattle.mps_reader.specs.declared.columns.ColumnDraft.{ColumnDraft}
use Rattle.mps_reader.specs.declared.row_draft.RowDraft.{RowDraft}
use Rattle.mps_reader.specs.declared.fault.SetName.{SetName}
use Rattle.mps_reader.specs.declared.sides.Side.{Side}
use Rattle.mps_reader.specs.declared.sides.Side.TheVariants.{Rhs, Range}
use Rattle.mps_reader.proofs.OpeningLemmas.{bytes_eq-refl, bytes_eq-sym, or-true, or-false, list_any-append, none_when}
use Rattle.mps_reader.proofs.BoundLemmas.{bound_added, data_then}
use Rattle.mps_reader.proofs.TableLemmas.{table_get, table_set, table_push, table_along, place_has, sums_along}
use Rattle.mps_reader.proofs.EntryLemmas.{given_some}
use Rattle.std.specs.List.{position_or_len}
use Rattle.std.proofs.lemmas.List.Sums.{sum_by-cons, sum_by_push}
use Rattle.std.proofs.lemmas.Bool.{lt-ltb}
use Rattle.mps_reader.proofs.RoleLemmas.{role_other, role_new, free_other, kept_other, kept_then, names_row, senses_pushed}
use Rattle.mps_reader.proofs.SideLemmas.{placed, differs, rows_along}
use Rattle.mps_reader.proofs.TermLemmas.{roles_along}
use Rattle.mps_reader.proofs.ColumnLemmas.{distinct_push, integers_then, absent_before}
use Rattle.mps_reader.proofs.FrameLemmas.{elsewhere, header_out, other_out, ready_same, roles_same, entries_same, bounds_same, integers_out, heads_out, opening_out}
use Rattle.mps_reader.proofs.TermLists.{terms_none, zero_in}
use Rattle.mps_reader.proofs.LimitLemmas.{number_limit, unset_limit, later_limit, low_limited, high_limited}
use Rattle.mps_reader.specs.declared.row_draft.RowRole.{RowRole}
use Rattle.mps_reader.specs.declared.row_draft.RowRole.TheVariants.{Objective, Dropped, Kept}

-- the entries and sets of another section stay
module _ (ls : List Line) (l : Line) where
  rhs_out : is_data_of (codes "RHS") l ≡ false → entries_of (codes "RHS") (ls ++ l ∷ []) ≡ entries_of (codes "RHS") ls
  rhs_out out = ap (λ d. flat_map set_entries d) (elsewhere (codes "RHS") ls l out)

  ranges_out : is_data_of (codes "RANGES") l ≡ false → entries_of (codes "RANGES") (ls ++ l ∷ []) ≡ entries_of (codes "RANGES") ls
  ranges_out out = ap (λ d. flat_map set_entries d) (elsewhere (codes "RANGES") ls l out)

  columns_out : is_data_of (codes "COLUMNS") l ≡ false → entries_of (codes "COLUMNS") (ls ++ l ∷ []) ≡ entries_of (codes "COLUMNS") ls
  columns_out out = ap (λ d. flat_map column_entries (filter (λ k. not (is_marker k)) d)) (elsewhere (codes "COLUMNS") ls l out)

  sets_out : (section : List ℕ) → is_data_of section l ≡ false → sets_of section (ls ++ l ∷ []) ≡ sets_of section ls
  sets_out section out = ap (filter_map (set_of section)) (elsewhere section ls l out)

-- where the line stands
pub record IsOut (l : Line) : Type 0 where
  pub rows : is_data_of (codes "ROWS") l ≡ false
  pub columns : is_data_of (codes "COLUMNS") l ≡ false
  pub rhs : is_data_of (codes "RHS") l ≡ false
  pub ranges : is_data_of (codes "RANGES") l ≡ false
  pub bounds : is_data_of (codes "BOUNDS") l ≡ false

-- the names and the items of the tables
abbrev row_texts : Draft → List (List ℕ)
row_texts d = texts_of d.rows.table.names.keys

abbrev row_items : Draft → List RowDraft
row_items d = d.rows.table.items.items

abbrev column_texts : Draft → List (List ℕ)
column_texts d = texts_of d.columns.table.names.keys

abbrev column_items : Draft → List ColumnDraft
column_items d = d.columns.table.items.items

-- ---- what stays

module _ (d : Draft) (ls : List Line) (l : Line) (a : Agrees d ls) where
  ready_stays : is_data_of (codes "ROWS") l ≡ false → RowsReady d.rows.table.names.keys d.rows.kept d.rows.has_objective (ls ++ l ∷ [])
  ready_stays out = ready_same ls (ls ++ l ∷ []) (elsewhere (codes "ROWS") ls l out) d.rows.table.names.keys d.rows.kept d.rows.has_objective a.ready

  roles_stay : is_data_of (codes "ROWS") l ≡ false → RowsAgree (row_texts d) (row_items d) (ls ++ l ∷ [])
  roles_stay out = roles_same ls (ls ++ l ∷ []) (elsewhere (codes "ROWS") ls l out) (row_texts d) (row_items d) a.roles

  sides_stay : is_data_of (codes "RHS") l ≡ false → SideAgrees Rhs (row_texts d) (row_items d) (entries_of (codes "RHS") (ls ++ l ∷ []))
  sides_stay out = subst (λ (es : List Entry). SideAgrees Rhs (row_texts d) (row_items d) es) (sym (rhs_out ls l out)) a.sides

  ranges_stay : is_data_of (codes "RANGES") l ≡ false → SideAgrees Range (row_texts d) (row_items d) (entries_of (codes "RANGES") (ls ++ l ∷ []))
  ranges_stay out = subst (λ (es : List Entry). SideAgrees Range (row_texts d) (row_items d) es) (sym (ranges_out ls l out)) a.ranges

  heads_stay : is_data_of (codes "COLUMNS") l ≡ false → ColumnsReady (column_texts d) (option_map (λ c. c.now) d.columns.current) d.columns.in_integer_part (ls ++ l ∷ [])
  heads_stay out = heads_out (column_texts d) (option_map (λ c. c.now) d.columns.current) d.columns.in_integer_part ls l out a.heads

  bounds_stay : is_data_of (codes "BOUNDS") l ≡ false → is_data_of (codes "COLUMNS") l ≡ false → ColumnsAgree (column_texts d) (column_items d) (ls ++ l ∷ [])
  bounds_stay out columns = bounds_same ls (ls ++ l ∷ []) (column_texts d) (column_items d) (elsewhere (codes "BOUNDS") ls l out) (integers_out ls l columns) a.bounds

  numbers_stay : is_data_of (codes "ROWS") l ≡ false → is_data_of (codes "COLUMNS") l ≡ false → EntriesAgree (row_texts d) (row_items d) (column_texts d) d.columns.entries (ls ++ l ∷ []) (entries_of (codes "COLUMNS") (ls ++ l ∷ []))
  numbers_stay out columns =
      subst (λ (es : List Entry). EntriesAgree (row_texts d) (row_items d) (column_texts d) d.columns.entries (ls ++ l ∷ []) es) (sym (columns_out ls l columns))
      (entries_same ls (ls ++ l ∷ []) (elsewhere (codes "ROWS") ls l out) (row_texts d) (column_texts d) (row_items d) d.columns.entries (entries_of (codes "COLUMNS") ls) a.numbers)

  rhs_sets_stay : is_data_of (codes "RHS") l ≡ false → AgreesWith d.rhs_set.first (sets_of (codes "RHS") (ls ++ l ∷ []))
  rhs_sets_stay out = subst (λ (ss : List (List ℕ)). AgreesWith d.rhs_set.first ss) (sym (sets_out ls l (codes "RHS") out)) a.rhs_sets

  range_sets_stay : is_data_of (codes "RANGES") l ≡ false → AgreesWith d.range_set.first (sets_of (codes "RANGES") (ls ++ l ∷ []))
  range_sets_stay out = subst (λ (ss : List (List ℕ)). AgreesWith d.range_set.first ss) (sym (sets_out ls l (codes "RANGES") out)) a.range_sets

  bound_sets_stay : is_data_of (codes "BOUNDS") l ≡ false → AgreesWith d.bound_set.first (sets_of (codes "BOUNDS") (ls ++ l ∷ []))
  bound_sets_stay out = subst (λ (ss : List (List ℕ)). AgreesWith d.bound_set.first ss) (sym (sets_out ls l (codes "BOUNDS") out)) a.bound_sets

-- ---- headers and OBJSENSE

opening_taken : (d : Draft) (headers : Headers) (ls : List Line) (l : Line) → IsOut l → HeadersAgree headers (ls ++ l ∷ []) → Agrees d ls → Agrees (record d { headers = headers }) (ls ++ l ∷ [])
opening_taken d headers ls l out opens a = record {
  opening = opens;
  ready = ready_stays d ls l a out.rows;
  roles = roles_stay d ls l a out.rows;
  sides = sides_stay d ls l a out.rhs;
  ranges = ranges_stay d ls l a out.ranges;
  heads = heads_stay d ls l a out.columns;
  bounds = bounds_stay d ls l a out.bounds out.columns;
  numbers = numbers_stay d ls l a out.rows out.columns;
  rhs_sets = rhs_sets_stay d ls l a out.rhs;
  range_sets = range_sets_stay d ls l a out.ranges;
  bound_sets = bound_sets_stay d ls l a out.bounds;
}

pub header_taken : (d : Draft) (headers : Headers) (ls : List Line) (l : Line) → l.header ≡ true → HeadersAgree headers (ls ++ l ∷ []) → Agrees d ls → Agrees (record d { headers = headers }) (ls ++ l ∷ [])
header_taken d headers ls l h opens a = opening_taken d headers ls l (record {
  rows = header_out (codes "ROWS") l h;
  columns = header_out (codes "COLUMNS") l h;
  rhs = header_out (codes "RHS") l h;
  ranges = header_out (codes "RANGES") l h;
  bounds = header_out (codes "BOUNDS") l h;
}) opens a

pub direction_agrees : (d : Draft) (headers : Headers) (ls : List Line) (l : Line) (words : List (List ℕ)) → IsDataWith (codes "OBJSENSE") l words → HeadersAgree headers (ls ++ l ∷ []) → Agrees d ls → Agrees (record d { headers = headers }) (ls ++ l ∷ [])
direction_agrees d headers ls l words taken opens a = opening_taken d headers ls l (record {
  rows = other_out (codes "ROWS") (codes "OBJSENSE") l words taken refl;
  columns = other_out (codes "COLUMNS") (codes "OBJSENSE") l words taken refl;
  rhs = other_out (codes "RHS") (codes "OBJSENSE") l words taken refl;
  ranges = other_out (codes "RANGES") (codes "OBJSENSE") l words taken refl;
  bounds = other_out (codes "BOUNDS") (codes "OBJSENSE") l words taken refl;
}) opens a

-- ---- ROWS

abbrev weight : Bool → ℕ
weight b = cond b 1 0

no_weight : (R : RowRole) (ts : List (ℕ × ℤ)) → ts ≡ [] → terms_for R ts ≡ 0
no_weight Objective ts e = refl
no_weight Dropped ts e = refl
no_weight (Kept s) ts e = ap length e

given_none : (es : List Entry) (o n : List ℕ) → is_given es o n ≡ false → given es o n ≡ None
given_none es o n e = none_when (given es o n) (given_some es o n ∙ e)

module _ (names : List (List ℕ)) (rows : List RowDraft) (row : RowDraft) (ls : List Line) (l : Line) (words : List (List ℕ)) (taken : IsDataWith (codes "ROWS") l words) (begun : IsBegun row ls l) (absent : is_one_of names (field 1 l) ≡ false) where
  roles_pushed : RowsAgree names rows ls → RowsAgree (names ++ field 1 l ∷ []) (rows ++ row ∷ []) (ls ++ l ∷ [])
  roles_pushed r = record {
    called = ap (λ ns. ns ++ field 1 l ∷ []) r.called ∙ sym (ap (map (field 1)) (data_then (codes "ROWS") ls l words taken) ∙ map-append (field 1) (data_of (codes "ROWS") ls) (l ∷ []));
    distinct = distinct_push names (field 1 l) r.distinct absent;
    roles = table_push (HasRole ls) (HasRole (ls ++ l ∷ [])) names rows (field 1 l) row absent r.roles
        (role_new ls l words row taken (ap (λ ns. is_one_of ns (field 1 l)) (sym r.called) ∙ absent) begun.role begun.name)
        (λ n y other h. role_other ls l words n y taken other h);
    senses = senses_pushed ls l words rows row taken begun.role r.senses;
  }

  side_pushed : (side : Side) (es : List Entry) → side_of side row ≡ None → SideAgrees side names rows es → SideAgrees side (names ++ field 1 l ∷ []) (rows ++ row ∷ []) es
  side_pushed side es none s = record {
    sides = table_push (HasSide side es) (HasSide side es) names rows (field 1 l) row absent s.sides
        (λ reads. none ∙ sym (given_none es [] (field 1 l) (s.known (field 1 l) absent [])))
        (λ n y other h. h);
    known = λ n out o. s.known n (absent_before names (field 1 l) n out) o;
  }

  kept_known : (n : List ℕ) → bytes_eq (field 1 l) n ≡ false → is_kept (ls ++ l ∷ []) n ≡ is_kept ls n
  kept_known n other = ap (list_any (names_row n)) (kept_then ls l words taken) ∙ kept_other n (field 1 l) other (not (is_free l)) (kept_rows ls) l refl

  term_known : (e : Entry) → bytes_eq e.row (field 1 l) ≡ false → weight (is_kept (ls ++ l ∷ []) e.row && is_nonzero e.text) ≡ weight (is_kept ls e.row && is_nonzero e.text)
  term_known e other = ap (λ b. weight (b && is_nonzero e.text)) (kept_known e.row (bytes_eq-sym (field 1 l) e.row ∙ other))

  terms_known : (es : List Entry) → ((o : List ℕ) → is_given es o (field 1 l) ≡ false) → term_count (ls ++ l ∷ []) es ≡ term_count ls es
  terms_known [] none = refl
  terms_known (e ∷ es) none =
      let mine : bytes_eq e.row (field 1 l) ≡ false = sym (ap (λ b. b && bytes_eq e.row (field 1 l)) (bytes_eq-refl e.owner)) ∙ (or_parts (is_entry e.owner (field 1 l) e) (is_given es e.owner (field 1 l)) (none e.owner)).0 in
      let rest : term_count (ls ++ l ∷ []) es ≡ term_count ls es = terms_known es (λ o. (or_parts (is_entry o (field 1 l) e) (is_given es o (field 1 l)) (none o)).1) in
      sum_by-cons (λ (x : Entry). cond (is_kept (ls ++ l ∷ []) x.row && is_nonzero x.text) 1 0) e es
      ∙ ap (λ c. c + term_count (ls ++ l ∷ []) es) (term_known e mine)
      ∙ ap (λ c. weight (is_kept ls e.row && is_nonzero e.text) + c) rest
      ∙ sym (sum_by-cons (λ (x : Entry). cond (is_kept ls x.row && is_nonzero x.text) 1 0) e es)

  numbers_pushed : (columns : List (List ℕ)) (count : ℕ) (es : List Entry) → EntriesAgree names rows columns count ls es → EntriesAgree (names ++ field 1 l ∷ []) (rows ++ row ∷ []) columns count (ls ++ l ∷ []) es
  numbers_pushed columns count es a = record {
    last = table_push (HasLast columns es) (HasLast columns es) names rows (field 1 l) row absent a.last
        (record {
          same = λ o at reads. ap (λ k. is_column k (length columns - 1)) begun.last_column ∙ sym (a.rows_known (field 1 l) absent o);
          below = λ k e. absurd (none_some k (sym begun.last_column ∙ e));
          terms = λ reads. begun.terms ∙ sym (terms_none 0 es columns (field 1 l) (λ o. zero_in es o (field 1 l) (a.rows_known (field 1 l) absent o)));
        })
        (λ n y other h. h);
    rows_known = λ n out o. a.rows_known n (absent_before names (field 1 l) n out) o;
    owners_known = a.owners_known;
    counted = a.counted ∙ sym (terms_known es (λ o. a.rows_known (field 1 l) absent o));
    few = a.few;
    apart = a.apart;
    total = sum_by_push term_weight rows row ∙ ap (λ w. sum_by term_weight rows + w) (no_weight row.role row.terms.items begun.terms) ∙ add-zero (sum_by term_weight rows) ∙ a.total;
  }
    where
      none_some : (k : ℕ) → None ≡ Some k → ⊥
      none_some k e = cc

pub rows_taken : (d : Draft) (new : Rows) (ls : List Line) (l : Line) (words : List (List ℕ)) → IsDataWith (codes "ROWS") l words → RowsReady new.table.names.keys new.kept new.has_objective (ls ++ l ∷ []) → IsRowPushed (row_texts d) (row_items d) (texts_of new.table.names.keys) new.table.items.items ls l → Agrees d ls → Agrees (record d { rows = new }) (ls ++ l ∷ [])
rows_taken d new ls l words taken ready p a =
    let columns = other_out (codes "COLUMNS") (codes "ROWS") l words taken refl in
    let rhs = other_out (codes "RHS") (codes "ROWS") l words taken refl in
    let ranges = other_out (codes "RANGES") (codes "ROWS") l words taken refl in
    let bounds = other_out (codes "BOUNDS") (codes "ROWS") l words taken refl in record {
      opening = opening_out d.headers ls l (codes "ROWS") words taken refl a.opening;
      ready = ready;
      roles = subst (λ (ns : List (List ℕ)). RowsAgree ns new.table.items.items (ls ++ l ∷ [])) (sym p.called) (subst (λ (rs : List RowDraft). RowsAgree (row_texts d ++ field 1 l ∷ []) rs (ls ++ l ∷ [])) (sym p.pushed) (roles_pushed (row_texts d) (row_items d) p.row ls l words taken p.begun p.absent a.roles));
      sides = subst (λ (es : List Entry). SideAgrees Rhs (texts_of new.table.names.keys) new.table.items.items es) (sym (rhs_out ls l rhs))
          (subst (λ (ns : List (List ℕ)). SideAgrees Rhs ns new.table.items.items (entries_of (codes "RHS") ls)) (sym p.called)
          (subst (λ (rs : List RowDraft). SideAgrees Rhs (row_texts d ++ field 1 l ∷ []) rs (entries_of (codes "RHS") ls)) (sym p.pushed) (side_pushed (row_texts d) (row_items d) p.row ls l words taken p.begun p.absent Rhs (entries_of (codes "RHS") ls) p.begun.rhs a.sides)));
      ranges = subst (λ (es : List Entry). SideAgrees Range (texts_of new.table.names.keys) new.table.items.items es) (sym (ranges_out ls l ranges))
          (subst (λ (ns : List (List ℕ)). SideAgrees Range ns new.table.items.items (entries_of (codes "RANGES") ls)) (sym p.called)
          (subst (λ (rs : List RowDraft). SideAgrees Range (row_texts d ++ field 1 l ∷ []) rs (entries_of (codes "RANGES") ls)) (sym p.pushed) (side_pushed (row_texts d) (row_items d) p.row ls l words taken p.begun p.absent Range (entries_of (codes "RANGES") ls) p.begun.range a.ranges)));
      heads = heads_stay d ls l a columns;
      bounds = bounds_stay d ls l a bounds columns;
      numbers = subst (λ (es : List Entry). EntriesAgree (texts_of new.table.names.keys) new.table.items.items (column_texts d) d.columns.entries (ls ++ l ∷ []) es) (sym (columns_out ls l columns))
          (subst (λ (ns : List (List ℕ)). EntriesAgree ns new.table.items.items (column_texts d) d.columns.entries (ls ++ l ∷ []) (entries_of (codes "COLUMNS") ls)) (sym p.called)
          (subst (λ (rs : List RowDraft). EntriesAgree (row_texts d ++ field 1 l ∷ []) rs (column_texts d) d.columns.entries (ls ++ l ∷ []) (entries_of (codes "COLUMNS") ls)) (sym p.pushed) (numbers_pushed (row_texts d) (row_items d) p.row ls l words taken p.begun p.absent (column_texts d) d.columns.entries (entries_of (codes "COLUMNS") ls) a.numbers)));
      rhs_sets = rhs_sets_stay d ls l a rhs;
      range_sets = range_sets_stay d ls l a ranges;
      bound_sets = bound_sets_stay d ls l a bounds;
    }

-- ---- RHS and RANGES

side_along : (side : Side) (names : List (List ℕ)) (old new : List RowDraft) (es : List Entry) → IsAlong (IsSameBesides side) old new → SideAgrees (other_of side) names old es → SideAgrees (other_of side) names new es
side_along side names old new es along s = record {
  sides = table_along (IsSameBesides side) (HasSide (other_of side) es) (HasSide (other_of side) es) names old new (λ n x y r h. λ reads. r.other ∙ h (ap (ignores (other_of side)) (sym r.role) ∙ reads)) along s.sides;
  known = s.known;
}

last_as : (columns : List (List ℕ)) (es : List Entry) (n : List ℕ) (x y : RowDraft) → y.role ≡ x.role → y.last_column ≡ x.last_column → y.terms ≡ x.terms → HasLast columns es n x → HasLast columns es n y
last_as columns es n x y role last terms h = record {
  terms = λ reads. ap (λ v. v.items) terms ∙ h.terms (ap is_unread (sym role) ∙ reads);
  same = λ o at reads. ap (λ k. is_column k (length columns - 1)) last ∙ h.same o at (ap is_unread (sym role) ∙ reads);
  below = λ k e. h.below k (sym last ∙ e);
}

numbers_along : (side : Side) (names columns : List (List ℕ)) (old new : List RowDraft) (count : ℕ) (ls : List Line) (es : List Entry) → IsAlong (IsSameBesides side) old new → EntriesAgree names old columns count ls es → EntriesAgree names new columns count ls es
numbers_along side names columns old new count ls es along a = record {
  last = table_along (IsSameBesides side) (HasLast columns es) (HasLast columns es) names old new (λ n x y r h. last_as columns es n x y r.role r.last_column r.terms h) along a.last;
  rows_known = a.rows_known;
  owners_known = a.owners_known;
  counted = a.counted;
  few = a.few;
  apart = a.apart;
  total = sums_along (IsSameBesides side) term_weight old new (λ x y r. ap (λ R. terms_for R y.terms.items) r.role ∙ ap (λ v. terms_for x.role v.items) r.terms) along ∙ a.total;
}

ready_moved : (keys new_keys : List (Bor (List ℕ))) (kept new_kept : ℕ) (has new_has : Bool) (ls : List Line) → new_keys ≡ keys → new_kept ≡ kept → new_has ≡ has → RowsReady keys kept has ls → RowsReady new_keys new_kept new_has ls
ready_moved keys new_keys kept new_kept has new_has ls k c h r = record { names = ap texts_of k ∙ r.names; kept = c ∙ r.kept; objective = h ∙ r.objective }

pub rhs_taken : (d : Draft) (new : Rows) (set : SetName) (ls : List Line) (l : Line) (words : List (List ℕ)) → IsDataWith (codes "RHS") l words → new.table.names ≡ d.rows.table.names → new.kept ≡ d.rows.kept → new.has_objective ≡ d.rows.has_objective → IsAlong (IsSameBesides Rhs) (row_items d) new.table.items.items → SideThen Rhs set.first d.rows.table.names.keys new.table.items.items ls l → Agrees d ls → Agrees (record d { rows = new; rhs_set = set }) (ls ++ l ∷ [])
rhs_taken d new set ls l words taken same kept has along t a =
    let keys : texts_of new.table.names.keys ≡ row_texts d = ap (λ n. texts_of n.keys) same in
    let rows = other_out (codes "ROWS") (codes "RHS") l words taken refl in
    let columns = other_out (codes "COLUMNS") (codes "RHS") l words taken refl in
    let ranges = other_out (codes "RANGES") (codes "RHS") l words taken refl in
    let bounds = other_out (codes "BOUNDS") (codes "RHS") l words taken refl in record {
      opening = opening_out d.headers ls l (codes "RHS") words taken refl a.opening;
      ready = ready_moved d.rows.table.names.keys new.table.names.keys d.rows.kept new.kept d.rows.has_objective new.has_objective (ls ++ l ∷ []) (ap (λ n. n.keys) same) kept has (ready_stays d ls l a rows);
      roles = subst (λ (ns : List (List ℕ)). RowsAgree ns new.table.items.items (ls ++ l ∷ [])) (sym keys) (rows_along Rhs (row_texts d) (row_items d) new.table.items.items (ls ++ l ∷ []) along (roles_stay d ls l a rows));
      sides = subst (λ (ns : List (List ℕ)). SideAgrees Rhs ns new.table.items.items (entries_of (codes "RHS") (ls ++ l ∷ []))) (sym keys) t.numbers;
      ranges = subst (λ (ns : List (List ℕ)). SideAgrees Range ns new.table.items.items (entries_of (codes "RANGES") (ls ++ l ∷ []))) (sym keys) (side_along Rhs (row_texts d) (row_items d) new.table.items.items (entries_of (codes "RANGES") (ls ++ l ∷ [])) along (ranges_stay d ls l a ranges));
      heads = heads_stay d ls l a columns;
      bounds = bounds_stay d ls l a bounds columns;
      numbers = subst (λ (ns : List (List ℕ)). EntriesAgree ns new.table.items.items (column_texts d) d.columns.entries (ls ++ l ∷ []) (entries_of (codes "COLUMNS") (ls ++ l ∷ []))) (sym keys) (numbers_along Rhs (row_texts d) (column_texts d) (row_items d) new.table.items.items d.columns.entries (ls ++ l ∷ []) (entries_of (codes "COLUMNS") (ls ++ l ∷ [])) along (numbers_stay d ls l a rows columns));
      rhs_sets = t.sets;
      range_sets = range_sets_stay d ls l a ranges;
      bound_sets = bound_sets_stay d ls l a bounds;
    }

pub ranges_taken : (d : Draft) (new : Rows) (set : SetName) (ls : List Line) (l : Line) (words : List (List ℕ)) → IsDataWith (codes "RANGES") l words → new.table.names ≡ d.rows.table.names → new.kept ≡ d.rows.kept → new.has_objective ≡ d.rows.has_objective → IsAlong (IsSameBesides Range) (row_items d) new.table.items.items → SideThen Range set.first d.rows.table.names.keys new.table.items.items ls l → Agrees d ls → Agrees (record d { rows = new; range_set = set }) (ls ++ l ∷ [])
ranges_taken d new set ls l words taken same kept has along t a =
    let keys : texts_of new.table.names.keys ≡ row_texts d = ap (λ n. texts_of n.keys) same in
    let rows = other_out (codes "ROWS") (codes "RANGES") l words taken refl in
    let columns = other_out (codes "COLUMNS") (codes "RANGES") l words taken refl in
    let rhs = other_out (codes "RHS") (codes "RANGES") l words taken refl in
    let bounds = other_out (codes "BOUNDS") (codes "RANGES") l words taken refl in record {
      opening = opening_out d.headers ls l (codes "RANGES") words taken refl a.opening;
      ready = ready_moved d.rows.table.names.keys new.table.names.keys d.rows.kept new.kept d.rows.has_objective new.has_objective (ls ++ l ∷ []) (ap (λ n. n.keys) same) kept has (ready_stays d ls l a rows);
      roles = subst (λ (ns : List (List ℕ)). RowsAgree ns new.table.items.items (ls ++ l ∷ [])) (sym keys) (rows_along Range (row_texts d) (row_items d) new.table.items.items (ls ++ l ∷ []) along (roles_stay d ls l a rows));
      sides = subst (λ (ns : List (List ℕ)). SideAgrees Rhs ns new.table.items.items (entries_of (codes "RHS") (ls ++ l ∷ []))) (sym keys) (side_along Range (row_texts d) (row_items d) new.table.items.items (entries_of (codes "RHS") (ls ++ l ∷ [])) along (sides_stay d ls l a rhs));
      ranges = subst (λ (ns : List (List ℕ)). SideAgrees Range ns new.table.items.items (entries_of (codes "RANGES") (ls ++ l ∷ []))) (sym keys) t.numbers;
      heads = heads_stay d ls l a columns;
      bounds = bounds_stay d ls l a bounds columns;
      numbers = subst (λ (ns : List (List ℕ)). EntriesAgree ns new.table.items.items (column_texts d) d.columns.entries (ls ++ l ∷ []) (entries_of (codes "COLUMNS") (ls ++ l ∷ []))) (sym keys) (numbers_along Range (row_texts d) (column_texts d) (row_items d) new.table.items.items d.columns.entries (ls ++ l ∷ []) (entries_of (codes "COLUMNS") (ls ++ l ∷ [])) along (numbers_stay d ls l a rows columns));
      rhs_sets = rhs_sets_stay d ls l a rhs;
      range_sets = t.sets;
      bound_sets = bound_sets_stay d ls l a bounds;
    }

-- ---- COLUMNS

sides_along : (side : Side) (names : List (List ℕ)) (old new : List RowDraft) (es : List Entry) → IsAlong HasSameSides old new → SideAgrees side names old es → SideAgrees side names new es
sides_along side names old new es along s = record {
  sides = table_along HasSameSides (HasSide side es) (HasSide side es) names old new (λ n x y r h. λ reads. same_side side x y r ∙ h (ap (ignores side) (sym r.role) ∙ reads)) along s.sides;
  known = s.known;
}
  where
    same_side : (side : Side) (x y : RowDraft) → HasSameSides x y → side_of side y ≡ side_of side x
    same_side Rhs x y r = r.rhs
    same_side Range x y r = r.range

module _ (ls : List Line) (l : Line) (words : List (List ℕ)) (taken : IsDataWith (codes "COLUMNS") l words) where
  bounds_out : bound_lines (ls ++ l ∷ []) ≡ bound_lines ls
  bounds_out = ap (λ d. λ n. filter (λ k. bytes_eq (bound_column k) n) d) (elsewhere (codes "BOUNDS") ls l (other_out (codes "BOUNDS") (codes "COLUMNS") l words taken refl))

  grown_middle : (b : Bool) (names new_names : List (List ℕ)) (columns middle : List ColumnDraft) (part : Bool) (name : List ℕ) → starts_column ls l ≡ b → field 0 l ≡ name → part ≡ in_integer_part ls → IsDistinct bytes_eq names → AddsColumn b names columns new_names middle part name → ColumnsAgree names columns ls → ColumnsAgree new_names middle (ls ++ l ∷ [])
  grown_middle false names new_names columns middle part name starts named inside distinct added a =
      let integers : integer_names (ls ++ l ∷ []) ≡ integer_names ls = integers_then ls l ∙ ap (λ b. integer_names ls ++ cond (b && in_integer_part ls) (field 0 l ∷ []) []) starts ∙ append-nil (integer_names ls) in
      subst (λ (ns : List (List ℕ)). ColumnsAgree ns middle (ls ++ l ∷ [])) (sym added.0)
      (subst (λ (cs : List ColumnDraft). ColumnsAgree names cs (ls ++ l ∷ [])) (sym added.1)
      (bounds_same ls (ls ++ l ∷ []) names columns (elsewhere (codes "BOUNDS") ls l (other_out (codes "BOUNDS") (codes "COLUMNS") l words taken refl)) integers a))
  grown_middle true names new_names columns middle part name starts named inside distinct p a =
      let integers : integer_names (ls ++ l ∷ []) ≡ integer_names ls ++ cond (in_integer_part ls) (name ∷ []) [] = integers_then ls l ∙ ap (λ b. integer_names ls ++ cond (b && in_integer_part ls) (field 0 l ∷ []) []) starts ∙ ap (λ n. integer_names ls ++ cond (in_integer_part ls) (n ∷ []) []) named in
      let others : (n : List ℕ) → bytes_eq name n ≡ false → is_one_of (integer_names (ls ++ l ∷ [])) n ≡ is_one_of (integer_names ls) n = λ n other. ap (λ i. is_one_of i n) integers ∙ free_other n name other (in_integer_part ls) (integer_names ls) in
      subst (λ (ns : List (List ℕ)). ColumnsAgree ns middle (ls ++ l ∷ [])) (sym p.called)
      (subst (λ (cs : List ColumnDraft). ColumnsAgree (names ++ name ∷ []) cs (ls ++ l ∷ [])) (sym p.pushed) (record {
        known = table_push (HasColumn ls) (HasColumn (ls ++ l ∷ [])) names columns name p.column p.absent a.known
            (record {
              named = p.begun.named;
              bounds = subst (λ (lines : List Line). BoundsAgree p.column.bounds lines) (sym (ap (λ f. f name) bounds_out ∙ a.bounds_known name p.absent)) p.begun.bounds;
              low_limit = unset_limit p.column.bounds.low p.begun.bounds.low;
              high_limit = unset_limit p.column.bounds.high p.begun.bounds.high;
              marked = p.begun.marked ∙ inside ∙ sym (ap (λ i. is_one_of i name) integers ∙ own (in_integer_part ls) (integer_names ls) (a.marks_known name p.absent));
            })
            (λ n c other h. record {
              named = h.named;
              bounds = subst (λ (lines : List Line). BoundsAgree c.bounds lines) (sym (ap (λ f. f n) bounds_out)) h.bounds;
              marked = h.marked ∙ sym (others n other);
              low_limit = h.low_limit;
              high_limit = h.high_limit;
            });
        bounds_known = λ n out. ap (λ f. f n) bounds_out ∙ a.bounds_known n (absent_before names name n out);
        marks_known = λ n out. others n (pushed_differs n out) ∙ a.marks_known n (absent_before names name n out);
      }))
    where
      own : (b : Bool) (I : List (List ℕ)) → is_one_of I name ≡ false → is_one_of (I ++ cond b (name ∷ []) []) name ≡ b
      own true I none = list_any-append (bytes_eq name) I (name ∷ []) ∙ ap (λ b. is_one_of I name || (b || false)) (bytes_eq-refl name) ∙ or-true (is_one_of I name)
      own false I none = list_any-append (bytes_eq name) I [] ∙ ap (λ b. b || false) none

      pushed_differs : (n : List ℕ) → is_one_of (names ++ name ∷ []) n ≡ false → bytes_eq name n ≡ false
      pushed_differs n out = bytes_eq-sym name n ∙ sym (or-false (bytes_eq n name)) ∙ (or_parts (is_one_of names n) (is_one_of (name ∷ []) n) (sym (list_any-append (bytes_eq n) names (name ∷ [])) ∙ out)).1

  grown_agree : (names new_names : List (List ℕ)) (columns new_columns : List ColumnDraft) (part : Bool) → part ≡ in_integer_part ls → IsDistinct bytes_eq names → AreGrown (starts_column ls l) names columns new_names new_columns part (field 0 l) → ColumnsAgree names columns ls → ColumnsAgree new_names new_columns (ls ++ l ∷ [])
  grown_agree names new_names columns new_columns part inside distinct g a =
      let m = grown_middle (starts_column ls l) names new_names columns g.middle part (field 0 l) refl refl inside distinct g.added a in record {
        known = table_along HasSameBounds (HasColumn (ls ++ l ∷ [])) (HasColumn (ls ++ l ∷ [])) new_names g.middle new_columns
            (λ n x y r h. record {
              named = r.name ∙ h.named;
              bounds = subst (λ (b : Bounds). BoundsAgree b (bound_lines (ls ++ l ∷ []) n)) (sym r.bounds) h.bounds;
              marked = r.marked ∙ h.marked;
              low_limit = subst (λ (b : Bounds). IsLimited b.low) (sym r.bounds) h.low_limit;
              high_limit = subst (λ (b : Bounds). IsLimited b.high) (sym r.bounds) h.high_limit;
            }) g.along m.known;
        bounds_known = m.bounds_known;
        marks_known = m.marks_known;
      }

pub columns_taken : (d : Draft) (rows : Rows) (columns : Columns) (ls : List Line) (l : Line) (words : List (List ℕ)) → IsDataWith (codes "COLUMNS") l words → rows.table.names ≡ d.rows.table.names → rows.kept ≡ d.rows.kept → rows.has_objective ≡ d.rows.has_objective → IsAlong HasSameSides (row_items d) rows.table.items.items → ColumnThen d.rows.table.names.keys rows.table.items.items d.columns.table.names.keys (column_items d) d.columns.in_integer_part columns.table.names.keys columns.table.items.items (option_map (λ c. c.now) columns.current) columns.in_integer_part columns.entries ls l → Agrees d ls → Agrees (record d { rows = rows; columns = columns }) (ls ++ l ∷ [])
columns_taken d rows columns ls l words taken same kept has along t a =
    let keys : texts_of rows.table.names.keys ≡ row_texts d = ap (λ n. texts_of n.keys) same in
    let out = other_out (codes "ROWS") (codes "COLUMNS") l words taken refl in
    let rhs = other_out (codes "RHS") (codes "COLUMNS") l words taken refl in
    let ranges = other_out (codes "RANGES") (codes "COLUMNS") l words taken refl in
    let bounds = other_out (codes "BOUNDS") (codes "COLUMNS") l words taken refl in record {
      opening = opening_out d.headers ls l (codes "COLUMNS") words taken refl a.opening;
      ready = ready_moved d.rows.table.names.keys rows.table.names.keys d.rows.kept rows.kept d.rows.has_objective rows.has_objective (ls ++ l ∷ []) (ap (λ n. n.keys) same) kept has (ready_stays d ls l a out);
      roles = subst (λ (ns : List (List ℕ)). RowsAgree ns rows.table.items.items (ls ++ l ∷ [])) (sym keys) (roles_along (row_texts d) (row_items d) rows.table.items.items (ls ++ l ∷ []) along (roles_stay d ls l a out));
      sides = subst (λ (ns : List (List ℕ)). SideAgrees Rhs ns rows.table.items.items (entries_of (codes "RHS") (ls ++ l ∷ []))) (sym keys) (sides_along Rhs (row_texts d) (row_items d) rows.table.items.items (entries_of (codes "RHS") (ls ++ l ∷ [])) along (sides_stay d ls l a rhs));
      ranges = subst (λ (ns : List (List ℕ)). SideAgrees Range ns rows.table.items.items (entries_of (codes "RANGES") (ls ++ l ∷ []))) (sym keys) (sides_along Range (row_texts d) (row_items d) rows.table.items.items (entries_of (codes "RANGES") (ls ++ l ∷ [])) along (ranges_stay d ls l a ranges));
      heads = t.heads;
      bounds = grown_agree ls l words taken (column_texts d) (texts_of columns.table.names.keys) (column_items d) columns.table.items.items d.columns.in_integer_part a.heads.inside a.heads.distinct t.grown a.bounds;
      numbers = subst (λ (ns : List (List ℕ)). EntriesAgree ns rows.table.items.items (texts_of columns.table.names.keys) columns.entries (ls ++ l ∷ []) (entries_of (codes "COLUMNS") (ls ++ l ∷ []))) (sym keys) (entries_same ls (ls ++ l ∷ []) (elsewhere (codes "ROWS") ls l out) (row_texts d) (texts_of columns.table.names.keys) rows.table.items.items columns.entries (entries_of (codes "COLUMNS") (ls ++ l ∷ [])) t.numbers);
      rhs_sets = rhs_sets_stay d ls l a rhs;
      range_sets = range_sets_stay d ls l a ranges;
      bound_sets = bound_sets_stay d ls l a bounds;
    }

-- ---- BOUNDS

module _ {X : Type 0} (p : X → Bool) where
  place_b : (b : Bool) (x : X) (xs : List X) → p x ≡ b → (list_any p xs ≡ true → position_or_len p xs < length xs) → (b || list_any p xs) ≡ true → position_or_len p (x ∷ xs) < length (x ∷ xs)
  place_b true x xs e rest some = rw e (omega arith)
  place_b false x xs e rest some = let h : position_or_len p xs < length xs = rest some in rw e (omega arith)

  place_below : (xs : List X) → list_any p xs ≡ true → position_or_len p xs < length xs
  place_below [] some = absurd (true≢false (sym some))
  place_below (x ∷ xs) some = place_b (p x) x xs refl (place_below xs) some

  pub place_of : (xs : List X) → list_any p xs ≡ true → position p xs ≡ Some (position_or_len p xs)
  place_of xs some = ap (λ b. cond b (Some (position_or_len p xs)) None) (lt-ltb (position_or_len p xs) (length xs) (place_below xs some))

known_b : (f s c : Bool) (o : Option MpsKind) → or_else (first_kind ((f, Fields) ∷ (s, SecondSet) ∷ (not c, UnknownColumn) ∷ [])) o ≡ None → c ≡ true
known_b true s c o e = absurd (cc)
known_b false true c o e = absurd (cc)
known_b false false false o e = absurd (cc)
known_b false false true o e = refl

pub known_column : (ls : List Line) (l : Line) → bound_kind ls l ≡ None → is_one_of (column_names ls) (bound_column l) ≡ true
known_column ls l e = known_b (not (bound_fits l)) (bound_has_set l && is_second (sets_of (codes "BOUNDS") ls) (field 1 l)) (is_one_of (column_names ls) (bound_column l)) (if takes_value (field 0 l) then number_kind (10 ^ 6) (bound_text l) else None) e

-- ---- limits

or_else_none : (o p : Option MpsKind) → or_else o p ≡ None → p ≡ None
or_else_none None p e = e
or_else_none (Some k) p e = absurd (cc)

value_b : (b : Bool) (o : Option MpsKind) → (if b then o else None) ≡ None → b ≡ true → o ≡ None
value_b true o e is = e
value_b false o e is = absurd (true≢false (sym is))

bound_limit : (ls : List Line) (l : Line) → bound_kind ls l ≡ None → takes_value (field 0 l) ≡ true → unsigned_abs (number_or_zero (bound_text l)) ≤ 1000000
bound_limit ls l good is = number_limit 1000000 (bound_text l) (value_b (takes_value (field 0 l)) (number_kind (10 ^ 6) (bound_text l)) (or_else_none (first_kind ((not (bound_fits l), Fields) ∷ (bound_has_set l && is_second (sets_of (codes "BOUNDS") ls) (field 1 l), SecondSet) ∷ (not (is_one_of (column_names ls) (bound_column l)), UnknownColumn) ∷ [])) (if takes_value (field 0 l) then number_kind (10 ^ 6) (bound_text l) else None) good) is)

bound_lines_then : (ls : List Line) (l : Line) (words : List (List ℕ)) (n : List ℕ) → IsDataWith (codes "BOUNDS") l words → bound_lines (ls ++ l ∷ []) n ≡ bound_lines ls n ++ cond (bytes_eq (bound_column l) n) (l ∷ []) []
bound_lines_then ls l words n taken = ap (filter (λ k. bytes_eq (bound_column k) n)) (data_then (codes "BOUNDS") ls l words taken) ∙ filter-append (λ k. bytes_eq (bound_column k) n) (data_of (codes "BOUNDS") ls) (l ∷ [])

bounds_written : (names : List (List ℕ)) (columns : List ColumnDraft) (k : ℕ) (c : ColumnDraft) (ls : List Line) (l : Line) (words : List (List ℕ)) → IsDataWith (codes "BOUNDS") l words → IsDistinct bytes_eq names → position (bytes_eq (bound_column l)) names ≡ Some k → c ≡ slice_index_or columns k c → (takes_value (field 0 l) ≡ true → unsigned_abs (number_or_zero (bound_text l)) ≤ 1000000) → ColumnsAgree names columns ls → ColumnsAgree names (slice_set columns k (with_bound c l)) (ls ++ l ∷ [])
bounds_written names columns k c ls l words taken distinct at read limit a =
    let col : List ℕ = bound_column l in
    let integers : integer_names (ls ++ l ∷ []) ≡ integer_names ls = integers_out ls l (other_out (codes "COLUMNS") (codes "BOUNDS") l words taken refl) in
    let others : (n : List ℕ) → bytes_eq col n ≡ false → bound_lines (ls ++ l ∷ []) n ≡ bound_lines ls n = λ n other. bound_lines_then ls l words n taken ∙ ap (λ b. bound_lines ls n ++ cond b (l ∷ []) []) other ∙ append-nil (bound_lines ls n) in
    let own : bound_lines (ls ++ l ∷ []) col ≡ bound_lines ls col ++ l ∷ [] = bound_lines_then ls l words col taken ∙ ap (λ b. bound_lines ls col ++ cond b (l ∷ []) []) (bytes_eq-refl col) in
    let old : HasColumn ls col c = subst (λ (x : ColumnDraft). HasColumn ls col x) (sym read) (table_get (HasColumn ls) names columns col k c a.known at).1 in record {
      known = table_set (HasColumn ls) (HasColumn (ls ++ l ∷ [])) names columns col k (with_bound c l) distinct at a.known
          (record {
            named = old.named;
            bounds = subst (λ (lines : List Line). BoundsAgree (with_line c.bounds l) lines) (sym own) (bound_added c.bounds (bound_lines ls col) l old.bounds);
            marked = old.marked ∙ sym (ap (λ i. is_one_of i col) integers);
            low_limit = later_limit c.bounds.low (low_set l) old.low_limit (low_limited l limit);
            high_limit = later_limit c.bounds.high (high_set l) old.high_limit (high_limited l limit);
          })
          (λ n x other h. record {
            named = h.named;
            bounds = subst (λ (lines : List Line). BoundsAgree x.bounds lines) (sym (others n other)) h.bounds;
            marked = h.marked ∙ sym (ap (λ i. is_one_of i n) integers);
            low_limit = h.low_limit;
            high_limit = h.high_limit;
          });
      bounds_known = λ n out. others n (differs names col n (placed names col k at) out) ∙ a.bounds_known n out;
      marks_known = λ n out. ap (λ i. is_one_of i n) integers ∙ a.marks_known n out;
    }

pub bounds_taken : (d : Draft) (columns : Columns) (set : SetName) (ls : List Line) (l : Line) (words : List (List ℕ)) → IsDataWith (codes "BOUNDS") l words → columns.table.names ≡ d.columns.table.names → columns.current ≡ d.columns.current → columns.in_integer_part ≡ d.columns.in_integer_part → columns.entries ≡ d.columns.entries → bound_kind ls l ≡ None → AgreesWith set.first (sets_of (codes "BOUNDS") (ls ++ l ∷ [])) → ((k : ℕ) (c : ColumnDraft) → position (bytes_eq (bound_column l)) (column_names ls) ≡ Some k → columns.table.items.items ≡ slice_set (column_items d) k (with_bound (slice_index_or (column_items d) k c) l)) → Agrees d ls → Agrees (record d { columns = columns; bound_set = set }) (ls ++ l ∷ [])
bounds_taken d columns set ls l words taken same current part entries good sets written a =
    let keys : texts_of columns.table.names.keys ≡ column_texts d = ap (λ n. texts_of n.keys) same in
    let out = other_out (codes "ROWS") (codes "BOUNDS") l words taken refl in
    let none = other_out (codes "COLUMNS") (codes "BOUNDS") l words taken refl in
    let rhs = other_out (codes "RHS") (codes "BOUNDS") l words taken refl in
    let ranges = other_out (codes "RANGES") (codes "BOUNDS") l words taken refl in
    let k : ℕ = position_or_len (bytes_eq (bound_column l)) (column_names ls) in
    let at : position (bytes_eq (bound_column l)) (column_names ls) ≡ Some k = place_of (bytes_eq (bound_column l)) (column_names ls) (known_column ls l good) in
    let here : position (bytes_eq (bound_column l)) (column_texts d) ≡ Some k = ap (position (bytes_eq (bound_column l))) a.heads.called ∙ at in
    let items : ColumnsAgree (column_texts d) columns.table.items.items (ls ++ l ∷ []) = bounds_changed d columns ls l words k taken here (λ c. written k c at) (bound_limit ls l good) a in record {
      opening = opening_out d.headers ls l (codes "BOUNDS") words taken refl a.opening;
      ready = ready_stays d ls l a out;
      roles = roles_stay d ls l a out;
      sides = sides_stay d ls l a rhs;
      ranges = ranges_stay d ls l a ranges;
      heads = subst (λ (ns : List (List ℕ)). ColumnsReady ns (option_map (λ c. c.now) columns.current) columns.in_integer_part (ls ++ l ∷ [])) (sym keys)
          (subst (λ (c : Option (Bor (List ℕ))). ColumnsReady (column_texts d) (option_map (λ c. c.now) c) columns.in_integer_part (ls ++ l ∷ [])) (sym current)
          (subst (λ (p : Bool). ColumnsReady (column_texts d) (option_map (λ c. c.now) d.columns.current) p (ls ++ l ∷ [])) (sym part) (heads_stay d ls l a none)));
      bounds = subst (λ (ns : List (List ℕ)). ColumnsAgree ns columns.table.items.items (ls ++ l ∷ [])) (sym keys) items;
      numbers = subst (λ (ns : List (List ℕ)). EntriesAgree (row_texts d) (row_items d) ns columns.entries (ls ++ l ∷ []) (entries_of (codes "COLUMNS") (ls ++ l ∷ []))) (sym keys)
          (subst (λ (c : ℕ). EntriesAgree (row_texts d) (row_items d) (column_texts d) c (ls ++ l ∷ []) (entries_of (codes "COLUMNS") (ls ++ l ∷ []))) (sym entries) (numbers_stay d ls l a out none));
      rhs_sets = rhs_sets_stay d ls l a rhs;
      range_sets = range_sets_stay d ls l a ranges;
      bound_sets = sets;
    }
  where
    changed : (old new : List ColumnDraft) (names : List (List ℕ)) (ls : List Line) (l : Line) (words : List (List ℕ)) (k : ℕ) → IsDataWith (codes "BOUNDS") l words → k < length old → IsDistinct bytes_eq names → position (bytes_eq (bound_column l)) names ≡ Some k → ((c : ColumnDraft) → new ≡ slice_set old k (with_bound (slice_index_or old k c) l)) → (takes_value (field 0 l) ≡ true → unsigned_abs (number_or_zero (bound_text l)) ≤ 1000000) → ColumnsAgree names old ls → ColumnsAgree names new (ls ++ l ∷ [])
    changed [] new names ls l words k taken h distinct at written limit a = absurd (omega arith)
    changed (x ∷ old) new names ls l words k taken h distinct at written limit a =
        let c : ColumnDraft = slice_index_or (x ∷ old) k x in
        subst (λ (cs : List ColumnDraft). ColumnsAgree names cs (ls ++ l ∷ [])) (sym (written x)) (bounds_written names (x ∷ old) k c ls l words taken distinct at (get_or_default (x ∷ old) k x c h) limit a)

    bounds_changed : (d : Draft) (columns : Columns) (ls : List Line) (l : Line) (words : List (List ℕ)) (k : ℕ) → IsDataWith (codes "BOUNDS") l words → position (bytes_eq (bound_column l)) (column_texts d) ≡ Some k → ((c : ColumnDraft) → columns.table.items.items ≡ slice_set (column_items d) k (with_bound (slice_index_or (column_items d) k c) l)) → (takes_value (field 0 l) ≡ true → unsigned_abs (number_or_zero (bound_text l)) ≤ 1000000) → Agrees d ls → ColumnsAgree (column_texts d) columns.table.items.items (ls ++ l ∷ [])
    bounds_changed d columns ls l words k taken at written limit a =
        let found = place_has (column_texts d) (bound_column l) k at in
        let within : k < length (column_items d) = omega (arith, a.bounds.known.size, found.0) in
        changed (column_items d) columns.table.items.items (column_texts d) ls l words k taken within a.heads.distinct at written limit a.bounds

-- ---- a new draft

no_names : IsDistinct bytes_eq []
unfolding IsDistinct
no_names = tt

empty_table : {X : Type 0} (P : List ℕ → X → Type 0) (names : List (List ℕ)) (items : List X) → names ≡ [] → items ≡ [] → IsTable P names items
empty_table P names items n i = record { size = ap length i ∙ sym (ap length n); each = λ k m x h. absurd (omega (arith, h, ap length i)) }

pub new_agrees : (d : Draft) → HeadersAgree d.headers [] → d.rows.table.items.items ≡ [] → d.rows.table.names.keys ≡ [] → d.rows.kept ≡ 0 → d.rows.has_objective ≡ false → d.columns.table.items.items ≡ [] → d.columns.table.names.keys ≡ [] → d.columns.in_integer_part ≡ false → d.columns.current ≡ None → d.columns.entries ≡ 0 → AgreesWith d.rhs_set.first [] → AgreesWith d.range_set.first [] → AgreesWith d.bound_set.first [] → Agrees d []
new_agrees d opens rows keys kept has columns column_keys part current entries rhs range bound =
    let names : row_texts d ≡ [] = ap texts_of keys in
    let column_names_are : column_texts d ≡ [] = ap texts_of column_keys in
    let none : IsDistinct bytes_eq (row_texts d) = subst (λ (ns : List (List ℕ)). IsDistinct bytes_eq ns) (sym names) no_names in
    let no_columns : IsDistinct bytes_eq (column_texts d) = subst (λ (ns : List (List ℕ)). IsDistinct bytes_eq ns) (sym column_names_are) no_names in
    let no_current : option_map (λ c. c.now) d.columns.current ≡ None = ap (option_map (λ c. c.now)) current in record {
      opening = opens;
      ready = record { names = names; kept = kept; objective = has };
      roles = record { called = names; distinct = none; roles = empty_table (HasRole []) (row_texts d) (row_items d) names rows; senses = ap (map (λ r. sense_with r.role)) rows };
      sides = record { sides = empty_table (HasSide Rhs []) (row_texts d) (row_items d) names rows; known = λ n out o. refl };
      ranges = record { sides = empty_table (HasSide Range []) (row_texts d) (row_items d) names rows; known = λ n out o. refl };
      heads = record { called = column_names_are; distinct = no_columns; goes_on = no_current; last = λ o e. absurd (none_some o (sym no_current ∙ e)); inside = part };
      bounds = record { known = empty_table (HasColumn []) (column_texts d) (column_items d) column_names_are columns; bounds_known = λ n out. refl; marks_known = λ n out. refl };
      numbers = record { last = empty_table (HasLast (column_texts d) []) (row_texts d) (row_items d) names rows; rows_known = λ n out o. refl; owners_known = λ o out n. refl; counted = entries; few = omega (arith, entries); apart = no_columns; total = ap (sum_by term_weight) rows ∙ sym entries };
      rhs_sets = rhs;
      range_sets = range;
      bound_sets = bound;
    }
  where
    none_some : (o : List ℕ) → None ≡ Some o → ⊥
    none_some o e = cc

-- ---- the section of a data line

pub data_behind : (h : Headers) (ls : List Line) (l : Line) (words : List (List ℕ)) (s : Section) (o : Option Section) → HeadersAgree h ls → IsLineBehind false ls l words → option_map word_of o ≡ last_of (words_of h.seen.items) → o ≡ Some s → IsDataWith (word_of s) l words
data_behind h ls l words s o opens is last at =
    let behind : last_of (headers_of ls) ≡ Some (word_of s) = ap last_of (sym opens.seen) ∙ sym last ∙ ap (option_map word_of) at in
    record { header = is.kind; section = is.section ∙ ap (λ w. unwrap_or w []) behind; fields = is.fields }

pub last_behind : (h : Headers) (ls : List Line) (s : Section) (o : Option Section) → HeadersAgree h ls → option_map word_of o ≡ last_of (words_of h.seen.items) → o ≡ Some s → last_of (headers_of ls) ≡ Some (word_of s)
last_behind h ls s o opens last at = ap last_of (sym opens.seen) ∙ sym last ∙ ap (option_map word_of) at

module _ (ls : List Line) (l : Line) (words : List (List ℕ)) where
  pub direction_line : IsDataWith (codes "OBJSENSE") l words → data_kind ls l ≡ direction_kind ls l
  direction_line d = rw d.section refl

  pub row_line : IsDataWith (codes "ROWS") l words → data_kind ls l ≡ row_kind ls l
  row_line d = rw d.section refl

  pub column_line : IsDataWith (codes "COLUMNS") l words → data_kind ls l ≡ column_kind ls l
  column_line d = rw d.section refl

  pub rhs_line : IsDataWith (codes "RHS") l words → data_kind ls l ≡ rhs_kind ls l
  rhs_line d = rw d.section refl

  pub range_line : IsDataWith (codes "RANGES") l words → data_kind ls l ≡ range_kind ls l
  range_line d = rw d.section refl

  pub bound_line : IsDataWith (codes "BOUNDS") l words → data_kind ls l ≡ bound_kind ls l
  bound_line d = rw d.section refl

pub bounds_ready : (d : Draft) (ls : List Line) → Agrees d ls → BoundsReady d.bound_set.first d.columns.table.names.keys ls
bounds_ready d ls a = record { sets = a.bound_sets; names = a.heads.called }

-- ---- a header

pub header_line : (d new : Draft) (progress : Progress) (ls : List Line) (l : Line) (words : List (List ℕ)) (h : Bool) → h ≡ true → IsLineBehind h ls l words → Agrees d ls → (IsHeaderWith l words → HeadersAgree d.headers ls → (header_kind ls l ≡ None) × (is_ended progress ≡ bytes_eq l.section (codes "ENDATA")) × HeadersAgree new.headers (ls ++ l ∷ [])) → new ≡ record d { headers = new.headers } → IsTaken new progress ls l
header_line d new progress ls l words h e is a entered same =
    let header : l.header ≡ true = is.kind ∙ e in
    let t = entered (record { header = header; section = is.section ∙ ap (λ b. if b then field 0 l else section_behind ls) e; fields = is.fields }) a.opening in record {
      good = ap (λ b. if b then header_kind ls l else data_kind ls l) header ∙ t.0;
      ends = t.1 ∙ sym (ap (λ b. b && bytes_eq l.section (codes "ENDATA")) header);
      agrees = subst (λ (n : Draft). Agrees n (ls ++ l ∷ [])) (sym same) (header_taken d new.headers ls l header t.2 a);
    }
