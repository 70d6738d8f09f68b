-- A line changes nothing of what the lines of other sections have said.
use Rattle.std.proofs.Common.{◌≡◌, ◌∙◌, ap, sym, subst, ℕ, Bool, true, false, ◌&&◌, not, cond, List, [], ◌∷◌, ◌++◌, map, length, nat_eq, Option, refl, append-nil, Bor}
use Rattle.std.specs.Prelude.{bytes_eq, filter, count_by, codes}
use Rattle.std.specs.List.{list_any}
use Rattle.std.proofs.lemmas.List.Elements.{filter-append}
use Rattle.mps_reader.specs.MpsLines.{Line, Entry, field, is_data_of, data_of, is_free, free_rows, kept_rows, is_first, is_marker, starts_column, column_names, integer_names, in_integer_part, begins_part, begins_column, bound_column, is_one_of, last_of, headers_of}
use Rattle.mps_reader.specs.MpsRules.{is_nonzero, term_count, direction_words}
use Rattle.mps_reader.specs.MpsModels.{bound_lines}
use Rattle.mps_reader.specs.TakenLines.{IsDataWith}
use Rattle.mps_reader.specs.Openings.{HeadersAgree, direction_of}
use Rattle.mps_reader.specs.RowTables.{RowsReady, sense_after}
use Rattle.mps_reader.specs.RowStates.{HasRole, RowsAgree, EntriesAgree}
use Rattle.mps_reader.specs.ColumnStates.{ColumnsReady, ColumnsAgree, HasColumn, continued_by}
use Rattle.mps_reader.specs.ColumnBounds.{BoundsAgree}
use Rattle.mps_reader.specs.declared.header.Headers.{Headers}
use Rattle.mps_reader.specs.declared.row_draft.RowDraft.{RowDraft}
use Rattle.mps_reader.specs.declared.columns.ColumnDraft.{ColumnDraft}
use Rattle.mps_reader.proofs.OpeningLemmas.{headers_of-data, direction_words-append}
use Rattle.mps_reader.proofs.TableLemmas.{table_then}
use Rattle.mps_reader.proofs.ColumnLemmas.{names_then, integers_then}

-- ---- lines of another section

pub elsewhere : (section : List ℕ) (ls : List Line) (l : Line) → is_data_of section l ≡ false → data_of section (ls ++ l ∷ []) ≡ data_of section ls
elsewhere section ls l out = filter-append (is_data_of section) ls (l ∷ []) ∙ ap (λ b. data_of section ls ++ cond b (l ∷ []) []) out ∙ append-nil (data_of section ls)

pub header_out : (section : List ℕ) (l : Line) → l.header ≡ true → is_data_of section l ≡ false
header_out section l h = ap (λ b. not b && bytes_eq l.section section) h

pub other_out : (section own : List ℕ) (l : Line) (words : List (List ℕ)) → IsDataWith own l words → bytes_eq own section ≡ false → is_data_of section l ≡ false
other_out section own l words d differ = ap (λ b. not b && bytes_eq l.section section) d.header ∙ ap (λ s. bytes_eq s section) d.section ∙ differ

-- ---- what follows from the same lines of a section

module _ (ls ks : List Line) where
  module _ (e : data_of (codes "ROWS") ks ≡ data_of (codes "ROWS") ls) where
    free_same : free_rows ks ≡ free_rows ls
    free_same = ap (λ r. map (field 1) (filter is_free r)) e

    kept_same : kept_rows ks ≡ kept_rows ls
    kept_same = ap (filter (λ l. not (is_free l))) e

    pub ready_same : (keys : List (Bor (List ℕ))) (count : ℕ) (has : Bool) → RowsReady keys count has ls → RowsReady keys count has ks
    ready_same keys count has r = record {
      names = r.names ∙ sym (ap (map (field 1)) e);
      kept = r.kept ∙ sym (ap length kept_same);
      objective = r.objective ∙ sym (ap (λ f. not (nat_eq (length f) 0)) free_same);
    }

    pub role_same : (n : List ℕ) (row : RowDraft) → HasRole ls n row → HasRole ks n row
    role_same n row h = record {
      free = ap (λ f. is_one_of f n) free_same ∙ h.free;
      objective = ap (λ f. is_first f n) free_same ∙ h.objective;
      kept = ap (list_any (λ l. bytes_eq (field 1 l) n)) kept_same ∙ h.kept;
      named = h.named;
    }

    pub roles_same : (names : List (List ℕ)) (rows : List RowDraft) → RowsAgree names rows ls → RowsAgree names rows ks
    roles_same names rows r = record {
      called = r.called ∙ sym (ap (map (field 1)) e);
      distinct = r.distinct;
      roles = table_then (HasRole ls) (HasRole ks) names rows (λ n row h. role_same n row h) r.roles;
      senses = r.senses ∙ sym (ap (map (λ k. sense_after (field 0 k))) e);
    }

    pub terms_same : (es : List Entry) → term_count ks es ≡ term_count ls es
    terms_same es = ap (λ rows. count_by (λ (e : Entry). list_any (λ l. bytes_eq (field 1 l) e.row) rows && is_nonzero e.text) es) kept_same

    pub entries_same : (names columns : List (List ℕ)) (rows : List RowDraft) (count : ℕ) (es : List Entry) → EntriesAgree names rows columns count ls es → EntriesAgree names rows columns count ks es
    entries_same names columns rows count es a = record {
      last = a.last;
      rows_known = a.rows_known;
      owners_known = a.owners_known;
      counted = a.counted ∙ sym (terms_same es);
      few = a.few;
      apart = a.apart;
      total = a.total;
    }

  pub bounds_same : (names : List (List ℕ)) (columns : List ColumnDraft) → data_of (codes "BOUNDS") ks ≡ data_of (codes "BOUNDS") ls → integer_names ks ≡ integer_names ls → ColumnsAgree names columns ls → ColumnsAgree names columns ks
  bounds_same names columns e f a = record {
    known = table_then (HasColumn ls) (HasColumn ks) names columns
        (λ n c h. record {
          named = h.named;
          bounds = subst (λ (lines : List Line). BoundsAgree c.bounds lines) (sym (lines_same n)) h.bounds;
          marked = h.marked ∙ sym (ap (λ i. is_one_of i n) f);
          low_limit = h.low_limit;
          high_limit = h.high_limit;
        }) a.known;
    bounds_known = λ n absent. lines_same n ∙ a.bounds_known n absent;
    marks_known = λ n absent. ap (λ i. is_one_of i n) f ∙ a.marks_known n absent;
  }
    where
      lines_same : (n : List ℕ) → bound_lines ks n ≡ bound_lines ls n
      lines_same n = ap (filter (λ l. bytes_eq (bound_column l) n)) e

-- ---- columns

no_start : (ls : List Line) (l : Line) → is_data_of (codes "COLUMNS") l ≡ false → starts_column ls l ≡ false
no_start ls l out = ap (λ b. b && not (is_marker l) && begins_column ls l) out

pub names_out : (ls : List Line) (l : Line) → is_data_of (codes "COLUMNS") l ≡ false → column_names (ls ++ l ∷ []) ≡ column_names ls
names_out ls l out = names_then ls l ∙ ap (λ b. column_names ls ++ cond b (field 0 l ∷ []) []) (no_start ls l out) ∙ append-nil (column_names ls)

pub integers_out : (ls : List Line) (l : Line) → is_data_of (codes "COLUMNS") l ≡ false → integer_names (ls ++ l ∷ []) ≡ integer_names ls
integers_out ls l out = integers_then ls l ∙ ap (λ b. integer_names ls ++ cond (b && in_integer_part ls) (field 0 l ∷ []) []) (no_start ls l out) ∙ append-nil (integer_names ls)

pub heads_out : (names : List (List ℕ)) (current : Option (List ℕ)) (part : Bool) (ls : List Line) (l : Line) → is_data_of (codes "COLUMNS") l ≡ false → ColumnsReady names current part ls → ColumnsReady names current part (ls ++ l ∷ [])
heads_out names current part ls l out r =
    let e : data_of (codes "COLUMNS") (ls ++ l ∷ []) ≡ data_of (codes "COLUMNS") ls = elsewhere (codes "COLUMNS") ls l out in record {
      called = r.called ∙ sym (names_out ls l out);
      distinct = r.distinct;
      goes_on = r.goes_on ∙ sym (ap (λ d. continued_by (last_of d)) e);
      last = r.last;
      inside = r.inside ∙ sym (ap (λ d. begins_part (last_of (filter is_marker d))) e);
    }

-- ---- headers

no_word : (l : Line) (own : List ℕ) (words : List (List ℕ)) → IsDataWith own l words → bytes_eq own (codes "OBJSENSE") ≡ false → direction_words (l ∷ []) ≡ []
no_word l own words d differ = rw (d.section, differ) refl

pub opening_out : (h : Headers) (ls : List Line) (l : Line) (own : List ℕ) (words : List (List ℕ)) → IsDataWith own l words → bytes_eq own (codes "OBJSENSE") ≡ false → HeadersAgree h ls → HeadersAgree h (ls ++ l ∷ [])
opening_out h ls l own words d differ a =
    let hs : headers_of (ls ++ l ∷ []) ≡ headers_of ls = headers_of-data ls l d.header in
    let ws : direction_words (ls ++ l ∷ []) ≡ direction_words ls = direction_words-append ls (l ∷ []) ∙ ap (λ r. direction_words ls ++ r) (no_word l own words d differ) ∙ append-nil (direction_words ls) in record {
      seen = a.seen ∙ sym hs;
      direction = a.direction ∙ sym (ap direction_of ws);
      asked = λ none. ws ∙ a.asked (ap (λ r. is_one_of r (codes "OBJSENSE")) (sym hs) ∙ none);
    }
