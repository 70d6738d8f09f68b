-- What the lines of a generated model's text that have been read say.
use Rattle.std.proofs.Common.{◌≡◌, ◌∙◌, ap, sym, refl, subst, ℕ, suc, ◌*◌, ◌^◌, ◌<◌, ◌≤◌, true, false, not, List, [], ◌∷◌, ◌++◌, map, filter, codes, length, append-nil, arith}
use Rattle.std.specs.Prelude.{flat_map, filter_map}
use Rattle.std.specs.List.{list_any}
use Rattle.std.specs.Str.{bytes_eq}
use Rattle.std.proofs.lemmas.List.{map-append}
use Rattle.std.proofs.lemmas.List.Elements.{filter-append}
use Rattle.mps_reader.specs.MpsLines.{Line, Entry, field, is_free, is_marker, is_data_of, data_of, headers_of, column_names, integer_names, column_entries, set_entries, entries_of, set_of, bound_column}
use Rattle.mps_reader.specs.MpsRules.{direction_words, is_second}
use Rattle.mps_reader.proofs.OpeningLemmas.{headers_of-data, headers_of-header, direction_words-append}
use Rattle.mps_reader.proofs.ColumnLemmas.{names_then, integers_then}
use Rattle.model_gen.specs.Texts.{column_name, row_name}
use Rattle.made_problems.proofs.NameTexts.{names, names_more}
use Rattle.made_problems.proofs.ModelLines.{same_section, grown_section}

-- the lines of ROWS: the objective and the first rows
pub record RowFacts (r : ℕ) (rows : List Line) : Type 0 where
  pub all : map (field 1) rows ≡ codes "obj" ∷ names row_name r
  pub free : map (field 1) (filter is_free rows) ≡ codes "obj" ∷ []
  pub kept : map (field 1) (filter (λ l. not (is_free l)) rows) ≡ names row_name r

-- the first columns, all integer, and entries of no others
pub record ColumnFacts (c : ℕ) (earlier : List Line) : Type 0 where
  pub named : column_names earlier ≡ names column_name c
  pub integers : integer_names earlier ≡ names column_name c
  pub fresh : (j : ℕ) → c ≤ j → j < 2 ^ 63 → list_any (λ (b : Entry). bytes_eq b.owner (column_name j)) (entries_of (codes "COLUMNS") earlier) ≡ false
  pub few : length (entries_of (codes "COLUMNS") earlier) ≤ 2 * c

-- the lines of RHS: one for each of the first rows, all of one set
pub record SideFacts (h : ℕ) (sides : List Line) : Type 0 where
  pub rows : map (λ (e : Entry). e.row) (flat_map set_entries sides) ≡ names row_name h
  pub set : is_second (filter_map (set_of (codes "RHS")) sides) (codes "rhs") ≡ false

-- the one bound of a column
pub record HasBound (j : ℕ) (bounds : List Line) : Type 0 where
  pub line : Line
  pub only : filter (λ l. bytes_eq (bound_column l) (column_name j)) bounds ≡ line ∷ []
  pub fields : line.fields ≡ codes "UP" ∷ codes "bnd" ∷ column_name j ∷ codes "9" ∷ []

-- the lines of BOUNDS: one for each of the first columns, all of one set
pub record BoundFacts (b : ℕ) (bounds : List Line) : Type 0 where
  pub set : is_second (filter_map (set_of (codes "BOUNDS")) bounds) (codes "bnd") ≡ false
  pub each : (j : ℕ) → j < b → b < 2 ^ 63 → HasBound j bounds
  pub none : (j : ℕ) → b ≤ j → j < 2 ^ 63 → filter (λ l. bytes_eq (bound_column l) (column_name j)) bounds ≡ []

-- all of them, with so many rows, columns, right-hand sides and bounds
pub record Facts (headers : List (List ℕ)) (r c h b : ℕ) (earlier : List Line) : Type 0 where
  pub headed : headers_of earlier ≡ headers
  pub directions : direction_words earlier ≡ []
  pub rows : RowFacts r (data_of (codes "ROWS") earlier)
  pub columns : ColumnFacts c earlier
  pub sides : SideFacts h (data_of (codes "RHS") earlier)
  pub bounds : BoundFacts b (data_of (codes "BOUNDS") earlier)

-- ---- behind a line that isn't of the section

pub rows_stay : (r : ℕ) (earlier : List Line) (l : Line) → is_data_of (codes "ROWS") l ≡ false → RowFacts r (data_of (codes "ROWS") earlier) → RowFacts r (data_of (codes "ROWS") (earlier ++ l ∷ []))
rows_stay r earlier l h f = subst (RowFacts r) (sym (same_section (codes "ROWS") earlier l h)) f

pub sides_stay : (k : ℕ) (earlier : List Line) (l : Line) → is_data_of (codes "RHS") l ≡ false → SideFacts k (data_of (codes "RHS") earlier) → SideFacts k (data_of (codes "RHS") (earlier ++ l ∷ []))
sides_stay k earlier l h f = subst (SideFacts k) (sym (same_section (codes "RHS") earlier l h)) f

pub bounds_stay : (k : ℕ) (earlier : List Line) (l : Line) → is_data_of (codes "BOUNDS") l ≡ false → BoundFacts k (data_of (codes "BOUNDS") earlier) → BoundFacts k (data_of (codes "BOUNDS") (earlier ++ l ∷ []))
bounds_stay k earlier l h f = subst (BoundFacts k) (sym (same_section (codes "BOUNDS") earlier l h)) f

entries_stay : (earlier : List Line) (l : Line) → is_data_of (codes "COLUMNS") l ≡ false → entries_of (codes "COLUMNS") (earlier ++ l ∷ []) ≡ entries_of (codes "COLUMNS") earlier
entries_stay earlier l h = ap (λ (ls : List Line). flat_map column_entries (filter (λ k. not (is_marker k)) ls)) (same_section (codes "COLUMNS") earlier l h)

pub columns_stay : (c : ℕ) (earlier : List Line) (l : Line) → is_data_of (codes "COLUMNS") l ≡ false → ColumnFacts c earlier → ColumnFacts c (earlier ++ l ∷ [])
columns_stay c earlier l h f = record {
  named = names_then earlier l ∙ rw h (append-nil (column_names earlier)) ∙ f.named;
  integers = integers_then earlier l ∙ rw h (append-nil (integer_names earlier)) ∙ f.integers;
  fresh = λ j g k. ap (λ (es : List Entry). list_any (λ (b : Entry). bytes_eq b.owner (column_name j)) es) (entries_stay earlier l h) ∙ f.fresh j g k;
  few = omega (arith, ap (λ (es : List Entry). length es) (entries_stay earlier l h), f.few);
}

-- a header adds itself alone
pub header_added : (headers : List (List ℕ)) (r c h b n : ℕ) (name : List ℕ) (earlier : List Line) → bytes_eq name (codes "OBJSENSE") ≡ false → Facts headers r c h b earlier → Facts (headers ++ name ∷ []) r c h b (earlier ++ record { number = n; section = name; header = true; fields = name ∷ [] } ∷ [])
header_added headers r c h b n name earlier other f =
    let l : Line = record { number = n; section = name; header = true; fields = name ∷ [] } in
    record {
      headed = headers_of-header earlier l refl ∙ ap (λ (hs : List (List ℕ)). hs ++ name ∷ []) f.headed;
      directions = direction_words-append earlier (l ∷ []) ∙ rw (f.directions, other) refl;
      rows = rows_stay r earlier l refl f.rows;
      columns = columns_stay c earlier l refl f.columns;
      sides = sides_stay h earlier l refl f.sides;
      bounds = bounds_stay b earlier l refl f.bounds;
    }

-- ---- rows

row_then : (k n : ℕ) (rows : List Line) → RowFacts k rows → RowFacts (suc k) (rows ++ record { number = n; section = codes "ROWS"; header = false; fields = codes "G" ∷ row_name k ∷ [] } ∷ [])
row_then k n rows f =
    let l : Line = record { number = n; section = codes "ROWS"; header = false; fields = codes "G" ∷ row_name k ∷ [] } in
    record {
      all = map-append (field 1) rows (l ∷ []) ∙ ap (λ (ws : List (List ℕ)). ws ++ row_name k ∷ []) f.all ∙ ap (λ (ws : List (List ℕ)). codes "obj" ∷ ws) (sym (names_more row_name k));
      free = ap (map (field 1)) (filter-append is_free rows (l ∷ []) ∙ append-nil (filter is_free rows)) ∙ f.free;
      kept = ap (map (field 1)) (filter-append (λ q. not (is_free q)) rows (l ∷ [])) ∙ map-append (field 1) (filter (λ q. not (is_free q)) rows) (l ∷ []) ∙ ap (λ (ws : List (List ℕ)). ws ++ row_name k ∷ []) f.kept ∙ sym (names_more row_name k);
    }

pub row_added : (headers : List (List ℕ)) (k n : ℕ) (earlier : List Line) → Facts headers k 0 0 0 earlier → Facts headers (suc k) 0 0 0 (earlier ++ record { number = n; section = codes "ROWS"; header = false; fields = codes "G" ∷ row_name k ∷ [] } ∷ [])
row_added headers k n earlier f =
    let l : Line = record { number = n; section = codes "ROWS"; header = false; fields = codes "G" ∷ row_name k ∷ [] } in
    record {
      headed = headers_of-data earlier l refl ∙ f.headed;
      directions = direction_words-append earlier (l ∷ []) ∙ rw (f.directions) refl;
      rows = subst (RowFacts (suc k)) (sym (grown_section (codes "ROWS") earlier l refl)) (row_then k n (data_of (codes "ROWS") earlier) f.rows);
      columns = columns_stay 0 earlier l refl f.columns;
      sides = sides_stay 0 earlier l refl f.sides;
      bounds = bounds_stay 0 earlier l refl f.bounds;
    }
