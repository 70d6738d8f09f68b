-- What a pair, or a line, of RHS or RANGES does to the rows.
use Rattle.std.proofs.Common.{◌≡◌, ◌∙◌, ap, sym, subst, ℕ, Bool, true, false, not, List, [], ◌∷◌, ◌++◌, get_or, set, Option, Some, None, refl, append-nil, Bor, inl, inr}
use Rattle.std.specs.Prelude.{bytes_eq, is_some, flat_map, filter_map, if◌then◌else◌}
use Rattle.std.specs.List.{position, cons_option}
use Rattle.std.proofs.lemmas.Bool.{true≢false, false_from_ne_true, cases_Bool}
use Rattle.std.proofs.lemmas.List.{append_assoc}
use Rattle.std.proofs.lemmas.Grind.{flat_map-append}
use Rattle.std.proofs.lemmas.Slice.Eq.{bytes_eq-Decides}
use Rattle.mps_reader.specs.MpsLines.{Line, Entry, field, data_of, entries_of, set_entries, has_set, sets_of, is_one_of}
use Rattle.mps_reader.specs.MpsRules.{is_row, or_else, first_kind, number_kind, is_second, entries_kind}
use Rattle.mps_reader.specs.MpsModels.{number_or_zero}
use Rattle.mps_reader.specs.Sets.{AgreesWith}
use Rattle.mps_reader.specs.TakenLines.{IsDataWith}
use Rattle.mps_reader.specs.Tables.{IsAlong, texts_of}
use Rattle.mps_reader.specs.SideNumbers.{ignores, side_of, side_kind, side_then, IsSameBesides}
use Rattle.mps_reader.specs.ColumnNumbers.{makes_term}
use Rattle.mps_reader.specs.RowStates.{HasRole, is_objective_role, HasSide, RowsAgree, SideAgrees, entry_with, is_given, word_of_side, side_line_kind, ignored_by, most_by}
use Rattle.mps_reader.specs.SideSteps.{TakesPairs, RefusesPairs, SideThen, pair_kind}
use Rattle.mps_reader.specs.declared.row_draft.RowDraft.{RowDraft}
use Rattle.mps_reader.specs.declared.sides.Side.{Side}
use Rattle.mps_reader.specs.declared.sides.Side.TheVariants.{Rhs, Range}
use Rattle.mps_reader.specs.declared.MpsKind.{MpsKind}
use Rattle.mps_reader.specs.declared.MpsKind.TheVariants.{Duplicate, UnknownRow}
use Rattle.mps_reader.proofs.OpeningLemmas.{bytes_eq-refl, filter_map-append}
use Rattle.mps_reader.proofs.BoundLemmas.{data_then}
use Rattle.mps_reader.proofs.TableLemmas.{table_get, table_set, table_along, place_has, none_passes, map_along}
use Rattle.mps_reader.proofs.EntryLemmas.{one_kind, first_entry, next_entry, entry_other, given_other, given_some, number_new, number_other}
use Rattle.mps_reader.proofs.RoleLemmas.{is_row-names, side_kind_is}
use Rattle.mps_reader.specs.RowTables.{sense_with}

-- a name with a place is there, and differs from one that isn't
pub placed : (names : List (List ℕ)) (n : List ℕ) (k : ℕ) → position (bytes_eq n) names ≡ Some k → is_one_of names n ≡ true
placed names n k at = elim (cases_Bool (is_one_of names n)) [
  | inl e ↦ e
  | inr e ↦
      let found = place_has names n k at in
      absurd (true≢false (sym (bytes_eq-refl n) ∙ ap (bytes_eq n) found.1 ∙ none_passes (bytes_eq n) names k n e found.0))
]

pub differs : (names : List (List ℕ)) (n m : List ℕ) → is_one_of names n ≡ true → is_one_of names m ≡ false → bytes_eq n m ≡ false
differs names n m is absent = false_from_ne_true (bytes_eq n m) (λ e. true≢false (sym is ∙ ap (is_one_of names) ((bytes_eq-Decides n m).0 e) ∙ absent))

pub role_as : (ls : List Line) (n : List ℕ) (x y : RowDraft) → y.role ≡ x.role → y.name ≡ x.name → HasRole ls n x → HasRole ls n y
role_as ls n x y e named h = record {
  named = named ∙ h.named;
  free = h.free ∙ ap (λ r. not (makes_term r)) (sym e);
  objective = h.objective ∙ ap is_objective_role (sym e);
  kept = h.kept ∙ ap makes_term (sym e);
}

pub rows_along : (side : Side) (names : List (List ℕ)) (old new : List RowDraft) (ls : List Line) → IsAlong (IsSameBesides side) old new → RowsAgree names old ls → RowsAgree names new ls
rows_along side names old new ls along rows = record {
  called = rows.called;
  distinct = rows.distinct;
  roles = table_along (IsSameBesides side) (HasRole ls) (HasRole ls) names old new
      (λ m x y r h. role_as ls m x y r.role r.name h) along rows.roles;
  senses = map_along (IsSameBesides side) (λ row. sense_with row.role) old new (λ x y r. ap sense_with r.role) along ∙ rows.senses;
}

none_before : (b : Bool) (o : Option MpsKind) → or_else (first_kind ((b, Duplicate) ∷ [])) o ≡ None → b ≡ false
none_before true o e = absurd (cc)
none_before false o e = refl

unless_read : (b x : Bool) (o : Option MpsKind) → (if b then None else or_else (first_kind ((x, Duplicate) ∷ [])) o) ≡ None → b ≡ false → x ≡ false
unless_read true x o e read = absurd (true≢false read)
unless_read false x o e read = none_before x o e

module _ (side : Side) (names : List (List ℕ)) (old : List RowDraft) (k : ℕ) (r : RowDraft) (n text : List ℕ) (at : position (bytes_eq n) names ≡ Some k) (read : r ≡ get_or old k r) (ls : List Line) (es : List Entry) (rows : RowsAgree names old ls) (sides : SideAgrees side names old es) where
  role_here : HasRole ls n r
  role_here = subst (λ (x : RowDraft). HasRole ls n x) (sym read) (table_get (HasRole ls) names old n k r rows.roles at).1

  side_here : HasSide side es n r
  side_here = subst (λ (x : RowDraft). HasSide side es n x) (sym read) (table_get (HasSide side es) names old n k r sides.sides at).1

  is_here : is_row ls n ≡ true
  is_here = is_row-names ls n ∙ ap (λ w. is_one_of w n) (sym rows.called) ∙ placed names n k at

  kind_here : pair_kind side ls es (entry_with [] n text) ≡ side_kind side r text
  kind_here = side_kind_is side ls es n text r is_here role_here side_here

  pub pair_refused_at : (kind : MpsKind) → side_kind side r text ≡ Some kind → entries_kind (pair_kind side ls) es (entry_with [] n text ∷ []) ≡ Some kind
  pair_refused_at kind e = one_kind (pair_kind side ls) es (entry_with [] n text) ∙ kind_here ∙ e

  pub pair_taken_at : (new : RowDraft) → side_kind side r text ≡ None → side_of side new ≡ side_then side r text → IsSameBesides side r new → (entries_kind (pair_kind side ls) es (entry_with [] n text ∷ []) ≡ None) × SideAgrees side names (set old k new) (es ++ entry_with [] n text ∷ [])
  pair_taken_at new good number rest =
      let e : Entry = entry_with [] n text in
      let here : HasSide side (es ++ e ∷ []) n new = λ reads.
      let unread : ignores side r.role ≡ false = ap (ignores side) (sym rest.role) ∙ reads in
      let first : is_given es [] n ≡ false = sym (given_some es [] n) ∙ ap is_some (sym (side_here unread)) ∙ unless_read (ignores side r.role) (is_some (side_of side r)) _ good unread in
      number ∙ ap (λ b. if b then side_of side r else Some (number_or_zero text)) unread ∙ sym (number_new es e first) in (
        one_kind (pair_kind side ls) es e ∙ kind_here ∙ good,
        record {
          sides = table_set (HasSide side es) (HasSide side (es ++ e ∷ [])) names old n k new rows.distinct at sides.sides here
              (λ m y other has. λ reads. has reads ∙ sym (number_other es e [] m (entry_other e [] m other)));
          known = λ m absent o. given_other es e o m (entry_other e o m (differs names n m (placed names n k at) absent)) ∙ sides.known m absent o;
        },
      )

pub pair_taken : (side : Side) (keys : List (Bor (List ℕ))) (old : List RowDraft) (k : ℕ) (r new : RowDraft) (n text : List ℕ) → position (bytes_eq n) (texts_of keys) ≡ Some k → r ≡ get_or old k r → IsSameBesides side r new → side_kind side r text ≡ None → side_of side new ≡ side_then side r text → TakesPairs side keys old (set old k new) (entry_with [] n text ∷ [])
pair_taken side keys old k r new n text at read rest good number = λ ls es rows sides. pair_taken_at side (texts_of keys) old k r n text at read ls es rows sides new good number rest

pub pair_refused : (side : Side) (keys : List (Bor (List ℕ))) (old : List RowDraft) (k : ℕ) (r : RowDraft) (n text : List ℕ) (kind : MpsKind) → position (bytes_eq n) (texts_of keys) ≡ Some k → r ≡ get_or old k r → side_kind side r text ≡ Some kind → RefusesPairs side keys old (entry_with [] n text ∷ []) kind
pair_refused side keys old k r n text kind at read bad = λ ls es rows sides. pair_refused_at side (texts_of keys) old k r n text at read ls es rows sides kind bad

pub pair_unknown : (side : Side) (keys : List (Bor (List ℕ))) (old : List RowDraft) (n text : List ℕ) → is_one_of (texts_of keys) n ≡ false → RefusesPairs side keys old (entry_with [] n text ∷ []) UnknownRow
pair_unknown side keys old n text absent = λ ls es rows sides.
    let e : Entry = entry_with [] n text in
    let not_row : is_row ls n ≡ false = is_row-names ls n ∙ ap (λ w. is_one_of w n) (sym rows.called) ∙ absent in
    one_kind (pair_kind side ls) es e ∙ ap (λ b. if b then (if ignored_by side ls n then None else or_else (first_kind ((is_given es [] n, Duplicate) ∷ [])) (number_kind (most_by side ls n) text)) else Some UnknownRow) not_row

-- ---- two pairs

module _ (side : Side) (keys others : List (Bor (List ℕ))) (old middle new : List RowDraft) (e f : Entry) (same : others ≡ keys) where
  pub two_taken : TakesPairs side keys old middle (e ∷ []) → IsAlong (IsSameBesides side) old middle → TakesPairs side others middle new (f ∷ []) → TakesPairs side keys old new (e ∷ f ∷ [])
  two_taken one along two = λ ls es rows sides.
      let a = one ls es rows sides in
      let two_here = subst (λ (k : List (Bor (List ℕ))). TakesPairs side k middle new (f ∷ [])) same two in
      let b = two_here ls (es ++ e ∷ []) (rows_along side (texts_of keys) old middle ls along rows) a.1 in (
        next_entry (pair_kind side ls) es e (f ∷ []) (sym (one_kind (pair_kind side ls) es e) ∙ a.0) ∙ b.0,
        subst (λ (all : List Entry). SideAgrees side (texts_of keys) new all) (append_assoc es (e ∷ []) (f ∷ [])) b.1,
      )

  pub second_refused : (kind : MpsKind) → TakesPairs side keys old middle (e ∷ []) → IsAlong (IsSameBesides side) old middle → RefusesPairs side others middle (f ∷ []) kind → RefusesPairs side keys old (e ∷ f ∷ []) kind
  second_refused kind one along two = λ ls es rows sides.
      let a = one ls es rows sides in
      let two_here = subst (λ (k : List (Bor (List ℕ))). RefusesPairs side k middle (f ∷ []) kind) same two in
      next_entry (pair_kind side ls) es e (f ∷ []) (sym (one_kind (pair_kind side ls) es e) ∙ a.0) ∙ two_here ls (es ++ e ∷ []) (rows_along side (texts_of keys) old middle ls along rows) a.1

pub first_refused : (side : Side) (keys : List (Bor (List ℕ))) (old : List RowDraft) (e f : Entry) (kind : MpsKind) → RefusesPairs side keys old (e ∷ []) kind → RefusesPairs side keys old (e ∷ f ∷ []) kind
first_refused side keys old e f kind one = λ ls es rows sides. first_entry (pair_kind side ls) es e (f ∷ []) kind (sym (one_kind (pair_kind side ls) es e) ∙ one ls es rows sides)

pub same_besides_twice : (side : Side) (x y z : RowDraft) → IsSameBesides side x y → IsSameBesides side y z → IsSameBesides side x z
same_besides_twice side x y z a b = record { name = b.name ∙ a.name; role = b.role ∙ a.role; other = b.other ∙ a.other; last_column = b.last_column ∙ a.last_column; terms = b.terms ∙ a.terms }

-- ---- a line

abbrev named_set : Line → Option (List ℕ)
named_set l = if has_set l then Some (field 0 l) else None

side_sets : (side : Side) (ls : List Line) → sets_of (word_of_side side) ls ≡ filter_map named_set (data_of (word_of_side side) ls)
side_sets Rhs ls = refl
side_sets Range ls = refl

side_entries : (side : Side) (ls : List Line) → entries_of (word_of_side side) ls ≡ flat_map set_entries (data_of (word_of_side side) ls)
side_entries Rhs ls = refl
side_entries Range ls = refl

pub sets_then : (side : Side) (ls : List Line) (l : Line) (words : List (List ℕ)) → IsDataWith (word_of_side side) l words → sets_of (word_of_side side) (ls ++ l ∷ []) ≡ sets_of (word_of_side side) ls ++ cons_option (named_set l) []
sets_then side ls l words d = side_sets side (ls ++ l ∷ []) ∙ ap (filter_map named_set) (data_then (word_of_side side) ls l words d) ∙ filter_map-append named_set (data_of (word_of_side side) ls) (l ∷ []) ∙ ap (λ r. r ++ cons_option (named_set l) []) (sym (side_sets side ls))

pub entries_then : (side : Side) (ls : List Line) (l : Line) (words : List (List ℕ)) → IsDataWith (word_of_side side) l words → entries_of (word_of_side side) (ls ++ l ∷ []) ≡ entries_of (word_of_side side) ls ++ set_entries l
entries_then side ls l words d = side_entries side (ls ++ l ∷ []) ∙ ap (flat_map set_entries) (data_then (word_of_side side) ls l words d) ∙ flat_map-append set_entries (data_of (word_of_side side) ls) (l ∷ []) ∙ ap (λ r. r ++ (set_entries l ++ [])) (sym (side_entries side ls)) ∙ ap (λ r. entries_of (word_of_side side) ls ++ r) (append-nil (set_entries l))

-- a line whose head is good: what it names as a set, and its entries
pub record IsHeaded (side : Side) (ls : List Line) (l : Line) (name : Option (List ℕ)) (added : List Entry) : Type 0 where
  pub kind : side_line_kind side ls l ≡ entries_kind (pair_kind side ls) (entries_of (word_of_side side) ls) added
  pub names : named_set l ≡ name
  pub adds : set_entries l ≡ added

module _ (side : Side) (ls : List Line) (l : Line) where
  pub two_fields : (a b : List ℕ) → l.fields ≡ a ∷ b ∷ [] → IsHeaded side ls l None (entry_with [] a b ∷ [])
  two_fields a b f = record { kind = rw f refl; names = rw f refl; adds = rw f refl }

  pub four_fields : (a b x y : List ℕ) → l.fields ≡ a ∷ b ∷ x ∷ y ∷ [] → IsHeaded side ls l None (entry_with [] a b ∷ entry_with [] x y ∷ [])
  four_fields a b x y f = record { kind = rw f refl; names = rw f refl; adds = rw f refl }

  pub three_fields : (s a b : List ℕ) → l.fields ≡ s ∷ a ∷ b ∷ [] → is_second (sets_of (word_of_side side) ls) s ≡ false → IsHeaded side ls l (Some s) (entry_with [] a b ∷ [])
  three_fields s a b f fine = record { kind = rw (f, fine) refl; names = rw f refl; adds = rw f refl }

  pub five_fields : (s a b x y : List ℕ) → l.fields ≡ s ∷ a ∷ b ∷ x ∷ y ∷ [] → is_second (sets_of (word_of_side side) ls) s ≡ false → IsHeaded side ls l (Some s) (entry_with [] a b ∷ entry_with [] x y ∷ [])
  five_fields s a b x y f fine = record { kind = rw (f, fine) refl; names = rw f refl; adds = rw f refl }

module _ (side : Side) (set : Option (Bor (List ℕ))) (keys : List (Bor (List ℕ))) (old new : List RowDraft) (ls : List Line) (l : Line) (words : List (List ℕ)) (name : Option (List ℕ)) (added : List Entry) (d : IsDataWith (word_of_side side) l words) (headed : IsHeaded side ls l name added) (roles : RowsAgree (texts_of keys) old ls) (sides : SideAgrees side (texts_of keys) old (entries_of (word_of_side side) ls)) where
  pub line_taken : AgreesWith set (sets_of (word_of_side side) ls ++ cons_option name []) → TakesPairs side keys old new added → SideThen side set keys new ls l
  line_taken agrees takes =
      let t = takes ls (entries_of (word_of_side side) ls) roles sides in record {
        good = headed.kind ∙ t.0;
        numbers = subst (λ (es : List Entry). SideAgrees side (texts_of keys) new es) (sym (entries_then side ls l words d ∙ ap (λ r. entries_of (word_of_side side) ls ++ r) headed.adds)) t.1;
        sets = subst (λ (ss : List (List ℕ)). AgreesWith set ss) (sym (sets_then side ls l words d ∙ ap (λ o. sets_of (word_of_side side) ls ++ cons_option o []) headed.names)) agrees;
      }

  pub line_refused : (kind : MpsKind) → RefusesPairs side keys old added kind → side_line_kind side ls l ≡ Some kind
  line_refused kind refuses = headed.kind ∙ refuses ls (entries_of (word_of_side side) ls) roles sides

pub unnamed_set : (set : Option (Bor (List ℕ))) (sets : List (List ℕ)) → AgreesWith set sets → AgreesWith set (sets ++ cons_option None [])
unnamed_set set sets a = subst (λ (ss : List (List ℕ)). AgreesWith set ss) (sym (append-nil sets)) a
