-- The parts of a draft are those of the model that its lines have.
use Rattle.std.proofs.Common.{◌≡◌, ◌∙◌, ap, sym, ℕ, ℤ, pos, neg_ℤ, ◌+◌, ◌<◌, Bool, true, false, ◌||◌, not, cond, List, [], ◌∷◌, map, length, get_or, Option, Some, None, refl, arith}
use Rattle.std.specs.Prelude.{bytes_eq, filter, filter_map, unwrap_or, option_map, option_and_then, is_some, count_by, if◌then◌else◌, codes}
use Rattle.std.specs.List.{All, list_any, cons_option, enumerate_from}
use Rattle.std.proofs.lemmas.Bool.{true≢false, true_from_ne_false}
use Rattle.std.specs.List.{position, position_or_len}
use Rattle.std.proofs.lemmas.List.{same_lists, get_or-map, length-map, nil_from_length}
use Rattle.std.proofs.lemmas.List.Elements.{All-head, All-tail}
use Rattle.std.proofs.lemmas.List.Sums.{sum_by-cons}
use Rattle.std.proofs.lemmas.Slice.Eq.{bytes_eq-Decides}
use Rattle.num_text.specs.Words.{last_of}
use Rattle.mps_reader.specs.MpsLines.{Line, field, is_free, is_one_of, is_first, free_rows, kept_rows, data_of, column_names, entries_of}
use Rattle.mps_reader.specs.MpsRules.{is_row, direction_words, is_maximum}
use Rattle.mps_reader.specs.MpsModels.{given, entry_of, cost_of, objective_of, first_name, is_not_zero, terms_from, terms_of, sense_of, row_of, column_of, low_of, high_of, is_implied, model_of_lines}
use Rattle.mps_reader.specs.ColumnBounds.{last_setting}
use Rattle.mps_reader.specs.RowTables.{sense_with, sense_after}
use Rattle.mps_reader.specs.ColumnNumbers.{makes_term, is_unread}
use Rattle.mps_reader.specs.SideNumbers.{ignores}
use Rattle.mps_reader.specs.Tables.{IsTable, texts_of}
use Rattle.mps_reader.specs.RowStates.{HasRole, RowsAgree, SideAgrees, EntriesAgree, is_objective_role}
use Rattle.mps_reader.specs.EndedColumns.{part_of, costs_from}
use Rattle.mps_reader.specs.MadeRows.{row_made, row_with, constant_made, costs_made, objective_with}
use Rattle.mps_reader.specs.Drafts.{HasParts}
use Rattle.mps_reader.specs.declared.draft.Draft.{Draft}
use Rattle.mps_reader.specs.declared.row_draft.RowDraft.{RowDraft}
use Rattle.mps_reader.specs.declared.row_draft.RowRole.{RowRole}
use Rattle.mps_reader.specs.declared.row_draft.RowRole.TheVariants.{Objective, Dropped, Kept}
use Rattle.mps_reader.specs.declared.columns.ColumnDraft.{ColumnDraft}
use Rattle.mps_reader.specs.declared.sides.Side.TheVariants.{Rhs, Range}
use Rattle.int_model.specs.declared.model.Row.{Row}
use Rattle.int_model.specs.declared.model.RowSense.{RowSense}
use Rattle.int_model.specs.declared.model.Direction.{Direction}
use Rattle.int_model.specs.declared.model.Direction.TheVariants.{Min, Max}
use Rattle.int_model.specs.declared.build.ColumnPart.{ColumnPart}
use Rattle.int_model.specs.Models.{IntegerModel}
use Rattle.int_model.specs.Build as build
use Rattle.mps_reader.proofs.OpeningLemmas.{bytes_eq-refl}
use Rattle.mps_reader.proofs.TableLemmas.{none_passes, table_get, place_has}
use Rattle.mps_reader.proofs.RoleLemmas.{is_row-names}
use Rattle.mps_reader.proofs.DraftLemmas.{place_of}
use Rattle.mps_reader.proofs.EndLemmas.{names_of, named_by}

-- ---- rows

-- what is kept of a row with a sense, by its own name
pub record RowFacts (ls : List Line) (r : RowDraft) : Type 0 where
  pub rhs : makes_term r.role ≡ true → r.rhs ≡ given (entries_of (codes "RHS") ls) [] r.name
  pub range : makes_term r.role ≡ true → r.range ≡ given (entries_of (codes "RANGES") ls) [] r.name
  pub terms : makes_term r.role ≡ true → r.terms.items ≡ terms_of ls r.name

same_row : (ls : List Line) (r : RowDraft) (l : Line) (s : RowSense) → r.role ≡ Kept s → s ≡ sense_of (field 0 l) → r.name ≡ field 1 l → RowFacts ls r → row_with (Kept s) r ≡ Some (row_of ls l)
same_row ls r l s role sense name f =
    let kept : makes_term r.role ≡ true = ap makes_term role in
    ap (λ z. Some (record { name = r.name; sense = s; rhs = unwrap_or z (pos 0); range = r.range; terms = r.terms.items })) (f.rhs kept)
    ∙ ap (λ z. Some (record { name = r.name; sense = s; rhs = unwrap_or (given (entries_of (codes "RHS") ls) [] r.name) (pos 0); range = z; terms = r.terms.items })) (f.range kept)
    ∙ ap (λ z. Some (record { name = r.name; sense = s; rhs = unwrap_or (given (entries_of (codes "RHS") ls) [] r.name) (pos 0); range = given (entries_of (codes "RANGES") ls) [] r.name; terms = z })) (f.terms kept)
    ∙ ap (λ z. Some (record { name = r.name; sense = z; rhs = unwrap_or (given (entries_of (codes "RHS") ls) [] r.name) (pos 0); range = given (entries_of (codes "RANGES") ls) [] r.name; terms = terms_of ls r.name })) sense
    ∙ ap (λ (n : List ℕ). Some (record { name = n; sense = sense_of (field 0 l); rhs = unwrap_or (given (entries_of (codes "RHS") ls) [] n) (pos 0); range = given (entries_of (codes "RANGES") ls) [] n; terms = terms_of ls n })) name

row_b : (b : Bool) (R : RowRole) (ls : List Line) (r : RowDraft) (l : Line) (K : List Line) (made : List Row) → r.role ≡ R → sense_with R ≡ (if b then None else Some (sense_of (field 0 l))) → r.name ≡ field 1 l → RowFacts ls r → made ≡ map (row_of ls) K → cons_option (row_with R r) made ≡ map (row_of ls) (cond (not b) (l ∷ K) K)
row_b true Objective ls r l K made role sense name f rest = rest
row_b true Dropped ls r l K made role sense name f rest = rest
row_b true (Kept s) ls r l K made role sense name f rest = absurd (cc)
row_b false Objective ls r l K made role sense name f rest = absurd (cc)
row_b false Dropped ls r l K made role sense name f rest = absurd (cc)
row_b false (Kept s) ls r l K made role sense name f rest =
    let same : s ≡ sense_of (field 0 l) = cc in
    ap (λ o. cons_option o made) (same_row ls r l s role same name f) ∙ ap (λ rows. row_of ls l ∷ rows) rest

rows_made : (ls L : List Line) (D : List RowDraft) → map (λ r. r.name) D ≡ map (field 1) L → map (λ r. sense_with r.role) D ≡ map (λ l. sense_after (field 0 l)) L → All (RowFacts ls) D → filter_map row_made D ≡ map (row_of ls) (filter (λ l. not (is_free l)) L)
rows_made ls [] [] names senses facts = refl
rows_made ls [] (r ∷ D) names senses facts = absurd (cc)
rows_made ls (l ∷ L) [] names senses facts = absurd (cc)
rows_made ls (l ∷ L) (r ∷ D) names senses facts =
    let name : r.name ≡ field 1 l = cc in
    let others : map (λ r. r.name) D ≡ map (field 1) L = cc in
    let sense : sense_with r.role ≡ sense_after (field 0 l) = cc in
    let more : map (λ r. sense_with r.role) D ≡ map (λ l. sense_after (field 0 l)) L = cc in
    row_b (is_free l) r.role ls r l (filter (λ l. not (is_free l)) L) (filter_map row_made D) refl sense name (All-head (RowFacts ls) r D facts) (rows_made ls L D others more (All-tail (RowFacts ls) r D facts))

-- ---- the objective

module _ {X : Type 0} where
  pub last_with : (o : Option X) (xs : List X) → last_of (cons_option o xs) ≡ last_setting o (last_of xs)
  last_with None xs = none_last (last_of xs)
    where
      none_last : (o : Option X) → o ≡ last_setting None o
      none_last None = refl
      none_last (Some x) = refl
  last_with (Some x) [] = refl
  last_with (Some x) (y ∷ ys) = some_last (last_of (y ∷ ys)) (has_last y ys)
    where
      some_last : (o : Option X) → is_some o ≡ true → o ≡ last_setting (Some x) o
      some_last None e = absurd (true≢false (sym e))
      some_last (Some z) e = refl

      has_last : (y : X) (ys : List X) → is_some (last_of (y ∷ ys)) ≡ true
      has_last y [] = refl
      has_last y (z ∷ zs) = has_last z zs

  given_b : (R : RowRole) (any : Bool) (v V : X) → (is_objective_role R ≡ true → v ≡ V) → last_setting (objective_with R v) (if any then Some V else None) ≡ (if (is_objective_role R || any) then Some V else None)
  given_b Objective true v V e = refl
  given_b Objective false v V e = ap (λ (x : X). Some x) (e refl)
  given_b Dropped true v V e = refl
  given_b Dropped false v V e = refl
  given_b (Kept s) true v V e = refl
  given_b (Kept s) false v V e = refl

  -- all rows that are objectives give the same
  all_give : (f : RowDraft → X) (V : X) (D : List RowDraft) → All (λ r. is_objective_role r.role ≡ true → f r ≡ V) D → last_of (filter_map (λ r. objective_with r.role (f r)) D) ≡ (if list_any (λ r. is_objective_role r.role) D then Some V else None)
  all_give f V [] facts = refl
  all_give f V (r ∷ D) facts =
      last_with (objective_with r.role (f r)) (filter_map (λ r. objective_with r.role (f r)) D)
      ∙ ap (last_setting (objective_with r.role (f r))) (all_give f V D (All-tail (λ r. is_objective_role r.role ≡ true → f r ≡ V) r D facts))
      ∙ given_b r.role (list_any (λ r. is_objective_role r.role) D) (f r) V (All-head (λ r. is_objective_role r.role ≡ true → f r ≡ V) r D facts)

none_b : (p : RowDraft → Bool) (D : List RowDraft) → All (λ r. p r ≡ false) D → list_any p D ≡ false
none_b p [] facts = refl
none_b p (r ∷ D) facts = ap (λ b. b || list_any p D) (All-head (λ r. p r ≡ false) r D facts) ∙ none_b p D (All-tail (λ r. p r ≡ false) r D facts)

any_at : (p : RowDraft → Bool) (D : List RowDraft) (k : ℕ) (d : RowDraft) → k < length D → p (get_or D k d) ≡ true → list_any p D ≡ true
any_at p D k d h e = true_from_ne_false (list_any p D) (λ none. true≢false (sym e ∙ none_passes p D k d none h))

zeros_none : (k : ℕ) (names : List (List ℕ)) → filter (λ (t : ℕ × ℤ). is_not_zero t.1) (map (λ (c : ℕ × List ℕ). (c.0, pos 0)) (enumerate_from k names)) ≡ []
zeros_none k [] = refl
zeros_none k (n ∷ names) = zeros_none (k + 1) names

module _ (names : List (List ℕ)) (D : List RowDraft) (ls : List Line) (columns : List (List ℕ)) (count : ℕ) (roles : RowsAgree names D ls) (sides : SideAgrees Rhs names D (entries_of (codes "RHS") ls)) (numbers : EntriesAgree names D columns count ls (entries_of (codes "COLUMNS") ls)) where
  -- an objective has the first free row's name
  objective_named : (o : List ℕ) (fs : List (List ℕ)) → free_rows ls ≡ o ∷ fs → (k : ℕ) (d : RowDraft) → k < length D → is_objective_role (get_or D k d).role ≡ true → o ≡ get_or names k []
  objective_named o fs e k d h is = (bytes_eq-Decides o (get_or names k [])).0 (sym (ap (λ f. is_first f (get_or names k [])) e) ∙ (roles.roles.each k [] d h).objective ∙ is)

  has_objective : (o : List ℕ) (fs : List (List ℕ)) → free_rows ls ≡ o ∷ fs → list_any (λ r. is_objective_role r.role) D ≡ true
  has_objective o fs e =
      let free : is_one_of (free_rows ls) o ≡ true = ap (λ f. is_one_of f o) e ∙ ap (λ b. b || is_one_of fs o) (bytes_eq-refl o) in
      let row : is_row ls o ≡ true = ap (λ b. b || list_any (λ l. bytes_eq (field 1 l) o) (kept_rows ls)) free in
      let known : is_one_of names o ≡ true = ap (λ n. is_one_of n o) roles.called ∙ sym (is_row-names ls o) ∙ row in
      found D (position_or_len (bytes_eq o) names) (place_of (bytes_eq o) names known) roles.roles
    where
      found : (D : List RowDraft) (k : ℕ) → position (bytes_eq o) names ≡ Some k → IsTable (HasRole ls) names D → list_any (λ r. is_objective_role r.role) D ≡ true
      found [] k at t = let h : k < length names = (place_has names o k at).0 in absurd (omega (arith, t.size, h))
      found (r ∷ D) k at t =
          let got = table_get (HasRole ls) names (r ∷ D) o k r t at in
          any_at (λ r. is_objective_role r.role) (r ∷ D) k r got.0 (sym got.1.objective ∙ ap (λ f. is_first f o) e ∙ bytes_eq-refl o)

  no_objective : free_rows ls ≡ [] → list_any (λ r. is_objective_role r.role) D ≡ false
  no_objective e = none_b (λ r. is_objective_role r.role) D (λ k d h. sym (roles.roles.each k [] d h).objective ∙ ap (λ f. is_first f (get_or names k [])) e)

  constant_b : (fs : List (List ℕ)) → free_rows ls ≡ fs → unwrap_or (last_of (filter_map constant_made D)) (pos 0) ≡ neg_ℤ (unwrap_or (option_and_then (given (entries_of (codes "RHS") ls) []) (first_name fs)) (pos 0))
  constant_b [] e =
      ap (λ o. unwrap_or o (pos 0)) (all_give (λ r. neg_ℤ (unwrap_or r.rhs (pos 0))) (pos 0) D (λ k d h is. absurd (true≢false (sym is ∙ none_passes (λ r. is_objective_role r.role) D k d (no_objective e) h))))
      ∙ ap (λ b. unwrap_or (if b then Some (pos 0) else None) (pos 0)) (no_objective e)
  constant_b (o ∷ fs) e =
      ap (λ x. unwrap_or x (pos 0)) (all_give (λ r. neg_ℤ (unwrap_or r.rhs (pos 0))) (neg_ℤ (unwrap_or (given (entries_of (codes "RHS") ls) [] o) (pos 0))) D
      (λ k d h is. ap (λ g. neg_ℤ (unwrap_or g (pos 0))) (sides.sides.each k [] d h (read_rhs (get_or D k d).role is) ∙ ap (given (entries_of (codes "RHS") ls) []) (sym (objective_named o fs e k d h is)))))
      ∙ ap (λ b. unwrap_or (if b then Some (neg_ℤ (unwrap_or (given (entries_of (codes "RHS") ls) [] o) (pos 0))) else None) (pos 0)) (has_objective o fs e)
    where
      read_rhs : (R : RowRole) → is_objective_role R ≡ true → ignores Rhs R ≡ false
      read_rhs Objective e = refl
      read_rhs Dropped e = absurd (true≢false (sym e))
      read_rhs (Kept s) e = absurd (true≢false (sym e))

  pub constant_is : unwrap_or (last_of (filter_map constant_made D)) (pos 0) ≡ neg_ℤ (unwrap_or (option_and_then (given (entries_of (codes "RHS") ls) []) (objective_of ls)) (pos 0))
  constant_is = constant_b (free_rows ls) refl

  costs_b : (fs : List (List ℕ)) → free_rows ls ≡ fs → unwrap_or (last_of (filter_map costs_made D)) [] ≡ filter (λ (t : ℕ × ℤ). is_not_zero t.1) (map (λ (c : ℕ × List ℕ). (c.0, unwrap_or (option_map (entry_of ls c.1) (first_name fs)) (pos 0))) (enumerate_from 0 columns))
  costs_b [] e =
      ap (λ o. unwrap_or o []) (all_give (λ r. r.terms.items) [] D (λ k d h is. absurd (true≢false (sym is ∙ none_passes (λ r. is_objective_role r.role) D k d (no_objective e) h))))
      ∙ ap (λ b. unwrap_or (if b then Some [] else None) []) (no_objective e)
      ∙ sym (zeros_none 0 columns)
  costs_b (o ∷ fs) e =
      ap (λ x. unwrap_or x []) (all_give (λ r. r.terms.items) (terms_from 0 (entries_of (codes "COLUMNS") ls) columns o) D
      (λ k d h is. (numbers.last.each k [] d h).terms (read_terms (get_or D k d).role is) ∙ ap (terms_from 0 (entries_of (codes "COLUMNS") ls) columns) (sym (objective_named o fs e k d h is))))
      ∙ ap (λ b. unwrap_or (if b then Some (terms_from 0 (entries_of (codes "COLUMNS") ls) columns o) else None) []) (has_objective o fs e)
    where
      read_terms : (R : RowRole) → is_objective_role R ≡ true → is_unread R ≡ false
      read_terms Objective e = refl
      read_terms Dropped e = absurd (true≢false (sym e))
      read_terms (Kept s) e = absurd (true≢false (sym e))

  pub costs_are : unwrap_or (last_of (filter_map costs_made D)) [] ≡ costs_from 0 ls columns
  costs_are = costs_b (free_rows ls) refl

  pub row_facts : SideAgrees Range names D (entries_of (codes "RANGES") ls) → columns ≡ column_names ls → All (RowFacts ls) D
  row_facts ranges called = λ k d h.
      let named : (get_or D k d).name ≡ get_or names k [] = (roles.roles.each k [] d h).named in record {
        rhs = λ kept. sides.sides.each k [] d h (kept_rhs (get_or D k d).role kept) ∙ ap (given (entries_of (codes "RHS") ls) []) (sym named);
        range = λ kept. ranges.sides.each k [] d h (kept_range (get_or D k d).role kept) ∙ ap (given (entries_of (codes "RANGES") ls) []) (sym named);
        terms = λ kept. (numbers.last.each k [] d h).terms (kept_terms (get_or D k d).role kept) ∙ ap (λ cs. terms_from 0 (entries_of (codes "COLUMNS") ls) cs (get_or names k [])) called ∙ ap (terms_of ls) (sym named);
      }
    where
      kept_rhs : (R : RowRole) → makes_term R ≡ true → ignores Rhs R ≡ false
      kept_rhs Objective e = absurd (true≢false (sym e))
      kept_rhs Dropped e = absurd (true≢false (sym e))
      kept_rhs (Kept s) e = refl

      kept_range : (R : RowRole) → makes_term R ≡ true → ignores Range R ≡ false
      kept_range Objective e = absurd (true≢false (sym e))
      kept_range Dropped e = absurd (true≢false (sym e))
      kept_range (Kept s) e = refl

      kept_terms : (R : RowRole) → makes_term R ≡ true → is_unread R ≡ false
      kept_terms Objective e = absurd (true≢false (sym e))
      kept_terms Dropped e = absurd (true≢false (sym e))
      kept_terms (Kept s) e = refl

  pub named_rows : (D : List RowDraft) → IsTable (HasRole ls) names D → map (λ r. r.name) D ≡ names
  named_rows [] t = sym (nil_from_length names (sym t.size))
  named_rows (r ∷ D) t = same_lists (map (λ r. r.name) (r ∷ D)) names (length-map (r ∷ D) (λ x. x.name) ∙ t.size)
      (λ k d h.
      let inside : k < length (r ∷ D) = omega (arith, h, length-map (r ∷ D) (λ x. x.name)) in
      get_or-map (λ x. x.name) (r ∷ D) k r d inside ∙ (t.each k d r inside).named)

  pub rows_are : SideAgrees Range names D (entries_of (codes "RANGES") ls) → columns ≡ column_names ls → filter_map row_made D ≡ map (row_of ls) (kept_rows ls)
  rows_are ranges called = rows_made ls (data_of (codes "ROWS") ls) D (named_rows D roles.roles ∙ roles.called) roles.senses (row_facts ranges called)

-- ---- columns

side_is : (o : Option ℤ) → build.side_or_zero o ≡ unwrap_or o (pos 0)
side_is None = refl
side_is (Some z) = refl

columns_are : (ls : List Line) (columns : List ColumnDraft) → map build.column_made (map (part_of ls) columns) ≡ map (column_of ls) (names_of columns)
columns_are ls [] = refl
columns_are ls (c ∷ columns) =
    ap (λ z. record { name = c.name; cost = cost_of ls c.name; low = z; high = build.side_or_zero (high_of ls c.name) } ∷ map build.column_made (map (part_of ls) columns)) (side_is (low_of ls c.name))
    ∙ ap (λ z. record { name = c.name; cost = cost_of ls c.name; low = unwrap_or (low_of ls c.name) (pos 0); high = z } ∷ map build.column_made (map (part_of ls) columns)) (side_is (high_of ls c.name))
    ∙ ap (λ r. column_of ls c.name ∷ r) (columns_are ls columns)

abbrev one_if : Bool → ℕ
one_if b = cond b 1 0

implied_are : (ls : List Line) (columns : List ColumnDraft) → count_by (λ p. p.implied) (map (part_of ls) columns) ≡ count_by (is_implied ls) (names_of columns)
implied_are ls [] = refl
implied_are ls (c ∷ columns) =
    sum_by-cons (λ p. one_if p.implied) (part_of ls c) (map (part_of ls) columns)
    ∙ ap (λ n. one_if (is_implied ls c.name) + n) (implied_are ls columns)
    ∙ sym (sum_by-cons (λ n. one_if (is_implied ls n)) c.name (names_of columns))

-- ---- the model

pub model_is : (d : Draft) (ls : List Line) (parts : List ColumnPart) (rows : List Row) (constant : ℤ) (direction : Direction) (m : IntegerModel) → HasParts d ls → m ≡ build.model_of parts rows constant direction → parts ≡ map (part_of ls) d.columns.table.items.items → rows ≡ filter_map row_made d.rows.table.items.items → constant ≡ unwrap_or (last_of (filter_map constant_made d.rows.table.items.items)) (pos 0) → direction ≡ (if list_any is_maximum (direction_words ls) then Max else Min) → m ≡ model_of_lines ls
model_is d ls parts rows constant direction m h made p r c o =
    let D : List RowDraft = d.rows.table.items.items in
    let C : List ColumnDraft = d.columns.table.items.items in
    let names : names_of C ≡ column_names ls = named_by (texts_of d.columns.table.names.keys) C ls h.bounds.known ∙ h.called in
    let columns : map build.column_made parts ≡ map (column_of ls) (column_names ls) = ap (map build.column_made) p ∙ columns_are ls C ∙ ap (map (column_of ls)) names in
    let implied : count_by (λ q. q.implied) parts ≡ count_by (is_implied ls) (column_names ls) = ap (count_by (λ q. q.implied)) p ∙ implied_are ls C ∙ ap (count_by (is_implied ls)) names in
    let lines : rows ≡ map (row_of ls) (kept_rows ls) = r ∙ rows_are (texts_of d.rows.table.names.keys) D ls (texts_of d.columns.table.names.keys) d.columns.entries h.roles h.sides h.numbers h.ranges h.called in
    let value : constant ≡ neg_ℤ (unwrap_or (option_and_then (given (entries_of (codes "RHS") ls) []) (objective_of ls)) (pos 0)) = c ∙ constant_is (texts_of d.rows.table.names.keys) D ls (texts_of d.columns.table.names.keys) d.columns.entries h.roles h.sides h.numbers in
    made
    ∙ ap (λ z. record { columns = z; rows = rows; constant = constant; direction = direction; implied = count_by (λ q. q.implied) parts }) columns
    ∙ ap (λ z. record { columns = map (column_of ls) (column_names ls); rows = z; constant = constant; direction = direction; implied = count_by (λ q. q.implied) parts }) lines
    ∙ ap (λ z. record { columns = map (column_of ls) (column_names ls); rows = map (row_of ls) (kept_rows ls); constant = z; direction = direction; implied = count_by (λ q. q.implied) parts }) value
    ∙ ap (λ z. record { columns = map (column_of ls) (column_names ls); rows = map (row_of ls) (kept_rows ls); constant = neg_ℤ (unwrap_or (option_and_then (given (entries_of (codes "RHS") ls) []) (objective_of ls)) (pos 0)); direction = z; implied = count_by (λ q. q.implied) parts }) o
    ∙ ap (λ z. record { columns = map (column_of ls) (column_names ls); rows = map (row_of ls) (kept_rows ls); constant = neg_ℤ (unwrap_or (option_and_then (given (entries_of (codes "RHS") ls) []) (objective_of ls)) (pos 0)); direction = if list_any is_maximum (direction_words ls) then Max else Min; implied = z }) implied

pub costs_here : (d : Draft) (ls : List Line) (items : List ColumnDraft) (costs : List (ℕ × ℤ)) → HasParts d ls → items ≡ d.columns.table.items.items → costs ≡ unwrap_or (last_of (filter_map costs_made d.rows.table.items.items)) [] → costs ≡ costs_from 0 ls (names_of items)
costs_here d ls items costs h same c =
    c ∙ costs_are (texts_of d.rows.table.names.keys) d.rows.table.items.items ls (texts_of d.columns.table.names.keys) d.columns.entries h.roles h.sides h.numbers
    ∙ ap (costs_from 0 ls) (sym (ap names_of same ∙ named_by (texts_of d.columns.table.names.keys) d.columns.table.items.items ls h.bounds.known))
