-- The roles of rows, by what ROWS says of their names.
use Rattle.std.proofs.Common.{◌≡◌, ◌∙◌, ap, sym, ℕ, Bool, true, false, not, ◌||◌, ◌&&◌, cond, nat_eq, List, [], ◌∷◌, ◌++◌, map, length, Option, Some, None, refl, arith, suc}
use Rattle.std.specs.Prelude.{filter, bytes_eq, is_some, if◌then◌else◌, codes, ◌^◌}
use Rattle.std.specs.List.{list_any}
use Rattle.std.proofs.lemmas.Bool.{ne_eqb, or_parts}
use Rattle.std.proofs.lemmas.List.{map-append}
use Rattle.std.proofs.lemmas.List.Elements.{filter-append}
use Rattle.mps_reader.specs.MpsLines.{Line, Entry, field, is_free, is_one_of, is_first, data_of, free_rows, kept_rows, is_kept, is_objective}
use Rattle.mps_reader.specs.MpsRules.{is_row, entry_kind, or_else, first_kind, number_kind}
use Rattle.mps_reader.specs.MpsModels.{sense_of}
use Rattle.mps_reader.specs.TakenLines.{IsDataWith}
use Rattle.mps_reader.specs.RowTables.{role_with, role_after, sense_with, sense_after}
use Rattle.mps_reader.specs.ColumnNumbers.{makes_term}
use Rattle.mps_reader.specs.SideNumbers.{ignores, most_of, side_of, side_kind}
use Rattle.mps_reader.specs.RowStates.{HasRole, HasSide, is_objective_role, is_given, row_names, ignored_by, most_by}
use Rattle.mps_reader.specs.declared.row_draft.RowRole.{RowRole}
use Rattle.mps_reader.specs.declared.row_draft.RowRole.TheVariants.{Objective, Dropped, Kept}
use Rattle.mps_reader.specs.declared.row_draft.RowDraft.{RowDraft}
use Rattle.mps_reader.specs.declared.sides.Side.{Side}
use Rattle.mps_reader.specs.declared.sides.Side.TheVariants.{Rhs, Range}
use Rattle.mps_reader.specs.declared.MpsKind.{MpsKind}
use Rattle.mps_reader.specs.declared.MpsKind.TheVariants.{Duplicate, UnknownRow}
use Rattle.int_model.specs.declared.model.RowSense.{RowSense}
use Rattle.mps_reader.proofs.OpeningLemmas.{bytes_eq-refl, bytes_eq-sym, or-true, or-false, or-assoc, list_any-append}
use Rattle.mps_reader.proofs.BoundLemmas.{data_then}
use Rattle.mps_reader.proofs.EntryLemmas.{given_some}

-- ---- which names are rows

abbrev pub names_row : List ℕ → Line → Bool
names_row n l = bytes_eq (field 1 l) n

or_swap : (a b c : Bool) → (a || (b || c)) ≡ (b || (a || c))
or_swap true b c = sym (or-true b)
or_swap false b c = refl

split_step : (b : Bool) (l : Line) (F K : List Line) (n : List ℕ) → (is_one_of (map (field 1) (cond b (l ∷ F) F)) n || list_any (names_row n) (cond (not b) (l ∷ K) K)) ≡ (bytes_eq n (field 1 l) || (is_one_of (map (field 1) F) n || list_any (names_row n) K))
split_step true l F K n = sym (or-assoc (bytes_eq n (field 1 l)) (is_one_of (map (field 1) F) n) (list_any (names_row n) K))
split_step false l F K n = ap (λ b. is_one_of (map (field 1) F) n || (b || list_any (names_row n) K)) (bytes_eq-sym (field 1 l) n) ∙ or_swap (is_one_of (map (field 1) F) n) (bytes_eq n (field 1 l)) (list_any (names_row n) K)

rows_split : (L : List Line) (n : List ℕ) → (is_one_of (map (field 1) (filter is_free L)) n || list_any (names_row n) (filter (λ l. not (is_free l)) L)) ≡ is_one_of (map (field 1) L) n
rows_split [] n = refl
rows_split (l ∷ L) n = split_step (is_free l) l (filter is_free L) (filter (λ l. not (is_free l)) L) n ∙ ap (λ b. bytes_eq n (field 1 l) || b) (rows_split L n)

pub is_row-names : (ls : List Line) (n : List ℕ) → is_row ls n ≡ is_one_of (row_names ls) n
is_row-names ls n = rows_split (data_of (codes "ROWS") ls) n

-- ---- one more row

one_if : (b : Bool) (l : Line) → map (field 1) (cond b (l ∷ []) []) ≡ cond b (field 1 l ∷ []) []
one_if true l = refl
one_if false l = refl

free_then : (ls : List Line) (l : Line) (words : List (List ℕ)) → IsDataWith (codes "ROWS") l words → free_rows (ls ++ l ∷ []) ≡ free_rows ls ++ cond (is_free l) (field 1 l ∷ []) []
free_then ls l words d =
    ap (λ r. map (field 1) (filter is_free r)) (data_then (codes "ROWS") ls l words d)
    ∙ ap (map (field 1)) (filter-append is_free (data_of (codes "ROWS") ls) (l ∷ []))
    ∙ map-append (field 1) (filter is_free (data_of (codes "ROWS") ls)) (cond (is_free l) (l ∷ []) [])
    ∙ ap (λ r. free_rows ls ++ r) (one_if (is_free l) l)

pub kept_then : (ls : List Line) (l : Line) (words : List (List ℕ)) → IsDataWith (codes "ROWS") l words → kept_rows (ls ++ l ∷ []) ≡ kept_rows ls ++ cond (not (is_free l)) (l ∷ []) []
kept_then ls l words d =
    ap (filter (λ l. not (is_free l))) (data_then (codes "ROWS") ls l words d)
    ∙ filter-append (λ l. not (is_free l)) (data_of (codes "ROWS") ls) (l ∷ [])

module _ (n m : List ℕ) (other : bytes_eq m n ≡ false) where
  pub free_other : (b : Bool) (F : List (List ℕ)) → is_one_of (F ++ cond b (m ∷ []) []) n ≡ is_one_of F n
  free_other true F = list_any-append (bytes_eq n) F (m ∷ []) ∙ ap (λ b. is_one_of F n || (b || false)) (bytes_eq-sym n m ∙ other) ∙ or-false (is_one_of F n)
  free_other false F = list_any-append (bytes_eq n) F [] ∙ or-false (is_one_of F n)

  first_other : (b : Bool) (F : List (List ℕ)) → is_first (F ++ cond b (m ∷ []) []) n ≡ is_first F n
  first_other true [] = other
  first_other false [] = refl
  first_other b (f ∷ F) = refl

  pub kept_other : (b : Bool) (K : List Line) (l : Line) → field 1 l ≡ m → list_any (names_row n) (K ++ cond b (l ∷ []) []) ≡ list_any (names_row n) K
  kept_other true K l e = list_any-append (names_row n) K (l ∷ []) ∙ ap (λ w. list_any (names_row n) K || (bytes_eq w n || false)) e ∙ ap (λ b. list_any (names_row n) K || (b || false)) other ∙ or-false (list_any (names_row n) K)
  kept_other false K l e = list_any-append (names_row n) K [] ∙ or-false (list_any (names_row n) K)

pub role_other : (ls : List Line) (l : Line) (words : List (List ℕ)) (n : List ℕ) (row : RowDraft) → IsDataWith (codes "ROWS") l words → bytes_eq (field 1 l) n ≡ false → HasRole ls n row → HasRole (ls ++ l ∷ []) n row
role_other ls l words n row d other h = record {
  free = ap (λ F. is_one_of F n) (free_then ls l words d) ∙ free_other n (field 1 l) other (is_free l) (free_rows ls) ∙ h.free;
  objective = ap (λ F. is_first F n) (free_then ls l words d) ∙ first_other n (field 1 l) other (is_free l) (free_rows ls) ∙ h.objective;
  kept = ap (list_any (names_row n)) (kept_then ls l words d) ∙ kept_other n (field 1 l) other (not (is_free l)) (kept_rows ls) l refl ∙ h.kept;
  named = h.named;
}

abbrev role_b : List (List ℕ) → Bool → RowSense → RowRole
role_b F b s = role_with (not (nat_eq (length F) 0)) (if b then None else Some s)

module _ (m : List ℕ) (s : RowSense) where
  term_b : (b : Bool) (F : List (List ℕ)) → makes_term (role_b F b s) ≡ not b
  term_b false F = refl
  term_b true [] = refl
  term_b true (f ∷ F) = let e : nat_eq (suc (length F)) 0 ≡ false = ne_eqb (suc (length F)) 0 (λ h. omega arith) in rw e refl

  not_not : (b : Bool) → b ≡ not (not b)
  not_not true = refl
  not_not false = refl

  free_new : (b : Bool) (F : List (List ℕ)) → is_one_of F m ≡ false → is_one_of (F ++ cond b (m ∷ []) []) m ≡ b
  free_new true F none = list_any-append (bytes_eq m) F (m ∷ []) ∙ ap (λ b. is_one_of F m || (b || false)) (bytes_eq-refl m) ∙ or-true (is_one_of F m)
  free_new false F none = list_any-append (bytes_eq m) F [] ∙ or-false (is_one_of F m) ∙ none

  first_new : (b : Bool) (F : List (List ℕ)) → is_one_of F m ≡ false → is_first (F ++ cond b (m ∷ []) []) m ≡ is_objective_role (role_b F b s)
  first_new true [] none = bytes_eq-refl m
  first_new false [] none = refl
  first_new true (f ∷ F) none =
      let e : nat_eq (suc (length F)) 0 ≡ false = ne_eqb (suc (length F)) 0 (λ h. omega arith) in
      rw e (bytes_eq-sym f m ∙ (or_parts (bytes_eq m f) (is_one_of F m) none).0)
  first_new false (f ∷ F) none = bytes_eq-sym f m ∙ (or_parts (bytes_eq m f) (is_one_of F m) none).0

  kept_new : (b : Bool) (K : List Line) (l : Line) → field 1 l ≡ m → list_any (names_row m) K ≡ false → list_any (names_row m) (K ++ cond (not b) (l ∷ []) []) ≡ not b
  kept_new false K l e none = list_any-append (names_row m) K (l ∷ []) ∙ ap (λ w. list_any (names_row m) K || (bytes_eq w m || false)) e ∙ ap (λ b. list_any (names_row m) K || (b || false)) (bytes_eq-refl m) ∙ or-true (list_any (names_row m) K)
  kept_new true K l e none = list_any-append (names_row m) K [] ∙ or-false (list_any (names_row m) K) ∙ none

pub role_new : (ls : List Line) (l : Line) (words : List (List ℕ)) (row : RowDraft) → IsDataWith (codes "ROWS") l words → is_one_of (row_names ls) (field 1 l) ≡ false → row.role ≡ role_after ls l → row.name ≡ field 1 l → HasRole (ls ++ l ∷ []) (field 1 l) row
role_new ls l words row d absent role named =
    let m : List ℕ = field 1 l in
    let s : RowSense = sense_of (field 0 l) in
    let parts = or_parts (is_one_of (free_rows ls) m) (is_kept ls m) (is_row-names ls m ∙ absent) in record {
      free = ap (λ F. is_one_of F m) (free_then ls l words d) ∙ free_new m s (is_free l) (free_rows ls) parts.0 ∙ not_not m s (is_free l) ∙ ap not (sym (term_b m s (is_free l) (free_rows ls))) ∙ ap (λ r. not (makes_term r)) (sym role);
      objective = ap (λ F. is_first F m) (free_then ls l words d) ∙ first_new m s (is_free l) (free_rows ls) parts.0 ∙ ap is_objective_role (sym role);
      kept = ap (list_any (names_row m)) (kept_then ls l words d) ∙ kept_new m s (is_free l) (kept_rows ls) l refl parts.1 ∙ sym (term_b m s (is_free l) (free_rows ls)) ∙ ap makes_term (sym role);
      named = named;
    }

sense_is : (has : Bool) (o : Option RowSense) → sense_with (role_with has o) ≡ o
sense_is has (Some s) = refl
sense_is true None = refl
sense_is false None = refl

pub senses_pushed : (ls : List Line) (l : Line) (words : List (List ℕ)) (rows : List RowDraft) (row : RowDraft) → IsDataWith (codes "ROWS") l words → row.role ≡ role_after ls l → map (λ r. sense_with r.role) rows ≡ map (λ k. sense_after (field 0 k)) (data_of (codes "ROWS") ls) → map (λ r. sense_with r.role) (rows ++ row ∷ []) ≡ map (λ k. sense_after (field 0 k)) (data_of (codes "ROWS") (ls ++ l ∷ []))
senses_pushed ls l words rows row d role same =
    map-append (λ r. sense_with r.role) rows (row ∷ [])
    ∙ ap (λ r. r ++ sense_with row.role ∷ []) same
    ∙ ap (λ s. map (λ k. sense_after (field 0 k)) (data_of (codes "ROWS") ls) ++ s ∷ []) (ap sense_with role ∙ sense_is (not (nat_eq (length (free_rows ls)) 0)) (sense_after (field 0 l)))
    ∙ sym (ap (map (λ k. sense_after (field 0 k))) (data_then (codes "ROWS") ls l words d) ∙ map-append (λ k. sense_after (field 0 k)) (data_of (codes "ROWS") ls) (l ∷ []))

-- ---- a number for a row of RHS or RANGES

dropped_role : (r : RowRole) → (not (makes_term r) && not (is_objective_role r)) ≡ ignores Rhs r
dropped_role Objective = refl
dropped_role Dropped = refl
dropped_role (Kept s) = refl

free_role : (r : RowRole) → not (makes_term r) ≡ ignores Range r
free_role Objective = refl
free_role Dropped = refl
free_role (Kept s) = refl

pub ignored_is : (side : Side) (ls : List Line) (n : List ℕ) (row : RowDraft) → HasRole ls n row → ignored_by side ls n ≡ ignores side row.role
ignored_is Rhs ls n row h = ap (λ f. f && not (is_objective ls n)) h.free ∙ ap (λ o. not (makes_term row.role) && not o) h.objective ∙ dropped_role row.role
ignored_is Range ls n row h = h.free ∙ free_role row.role

most_rhs : (r : RowRole) → (if is_objective_role r then 10 ^ 15 else 10 ^ 18) ≡ most_of Rhs r
most_rhs Objective = refl
most_rhs Dropped = refl
most_rhs (Kept s) = refl

most_range : (r : RowRole) → 10 ^ 18 ≡ most_of Range r
most_range Objective = refl
most_range Dropped = refl
most_range (Kept s) = refl

most_is : (side : Side) (ls : List Line) (n : List ℕ) (row : RowDraft) → HasRole ls n row → most_by side ls n ≡ most_of side row.role
most_is Rhs ls n row h = ap (λ o. if o then 10 ^ 15 else 10 ^ 18) h.objective ∙ most_rhs row.role
most_is Range ls n row h = most_range row.role

unless_ignored : (b c d : Bool) (o : Option MpsKind) → (b ≡ false → c ≡ d) → (if b then None else or_else (first_kind ((c, Duplicate) ∷ [])) o) ≡ (if b then None else or_else (first_kind ((d, Duplicate) ∷ [])) o)
unless_ignored true c d o e = refl
unless_ignored false c d o e = ap (λ x. or_else (first_kind ((x, Duplicate) ∷ [])) o) (e refl)

pub side_kind_is : (side : Side) (ls : List Line) (es : List Entry) (n text : List ℕ) (row : RowDraft) → is_row ls n ≡ true → HasRole ls n row → HasSide side es n row → entry_kind ls (ignored_by side ls) (most_by side ls) es (record { owner = []; row = n; text = text }) ≡ side_kind side row text
side_kind_is side ls es n text row is h has =
    ap (λ b. if b then (if ignored_by side ls n then None else or_else (first_kind ((is_given es [] n, Duplicate) ∷ [])) (number_kind (most_by side ls n) text)) else Some UnknownRow) is
    ∙ ap (λ b. if b then None else or_else (first_kind ((is_given es [] n, Duplicate) ∷ [])) (number_kind (most_by side ls n) text)) (ignored_is side ls n row h)
    ∙ ap (λ k. if ignores side row.role then None else or_else (first_kind ((is_given es [] n, Duplicate) ∷ [])) (number_kind k text)) (most_is side ls n row h)
    ∙ unless_ignored (ignores side row.role) (is_given es [] n) (is_some (side_of side row)) (number_kind (most_of side row.role) text)
    (λ read. sym (given_some es [] n) ∙ ap is_some (sym (has read)))
