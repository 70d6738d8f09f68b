-- How one more line of COLUMNS continues the columns.
use Rattle.std.proofs.Common.{◌≡◌, ◌∙◌, ap, sym, subst, ℕ, ◌+◌, ◌-◌, ◌<◌, Bool, true, false, ◌||◌, ◌&&◌, not, cond, nat_eq, nat_le, List, [], ◌∷◌, ◌++◌, map, length, Option, Some, None, refl, arith, append-nil, Bor}
use Rattle.std.specs.Prelude.{bytes_eq, filter, flat_map, if◌then◌else◌, codes}
use Rattle.std.specs.List.{IsDistinct}
use Rattle.std.specs.Cmp.{IsEquivalence}
use Rattle.std.proofs.lemmas.Bool.{true≢false, or_parts, ne_eqb}
use Rattle.std.proofs.lemmas.List.{length-map, map-append, append_assoc, length_push}
use Rattle.std.proofs.lemmas.List.Elements.{filter-append}
use Rattle.std.proofs.lemmas.Grind.{flat_map-append}
use Rattle.std.proofs.lemmas.Map.Keys.{IsDistinct-push}
use Rattle.std.proofs.lemmas.Slice.Eq.{bytes_eq-Decides}
use Rattle.mps_reader.specs.MpsLines.{Line, Entry, field, pairs, is_marker, is_data_of, data_of, begins_behind, begins_column, starts_column, column_starts, column_names, integer_names, column_lines, column_entries, entries_of, in_integer_part, begins_part, filter_after, cons_if, is_one_of, last_of}
use Rattle.mps_reader.specs.MpsRules.{or_else, first_kind, is_long, column_kind, marker_kind, entries_kind, term_kind}
use Rattle.mps_reader.specs.Faults.{IsFault}
use Rattle.mps_reader.specs.TakenLines.{IsDataWith}
use Rattle.mps_reader.specs.Tables.{IsAlong, texts_of}
use Rattle.mps_reader.specs.ColumnNumbers.{new_column_kind, is_column}
use Rattle.mps_reader.specs.RowStates.{HasLast, EntriesAgree, is_given}
use Rattle.mps_reader.specs.ColumnStates.{ColumnsReady, continued_by, current_of, is_name, name_kind}
use Rattle.mps_reader.specs.ColumnSteps.{IsColumnLine, AddsColumn, HasSameBounds, TakesTerms, RefusesTerms, ColumnReady, ColumnThen, AreGrown}
use Rattle.mps_reader.specs.declared.row_draft.RowDraft.{RowDraft}
use Rattle.mps_reader.specs.declared.columns.ColumnDraft.{ColumnDraft}
use Rattle.mps_reader.specs.declared.fault.Fault.{Fault}
use Rattle.mps_reader.specs.declared.MpsKind.{MpsKind}
use Rattle.mps_reader.specs.declared.MpsKind.TheVariants.{Fields, LongName, Duplicate, TooMany}
use Rattle.mps_reader.proofs.OpeningLemmas.{bytes_eq-refl, bytes_eq-sym, list_any-append}
use Rattle.mps_reader.proofs.BoundLemmas.{data_then, last_of-push}
use Rattle.mps_reader.proofs.TableLemmas.{table_then}
use Rattle.mps_reader.specs.MpsModels.{terms_from}
use Rattle.mps_reader.proofs.TermLists.{terms_push, term_if, zero_in}

-- ---- elements that pass a test which sees those before them

consed : {X : Type 0} (b : Bool) (x : X) → cons_if b x [] ≡ cond b (x ∷ []) []
consed true x = refl
consed false x = refl

cons_if-append : {X : Type 0} (b : Bool) (x : X) (xs ys : List X) → cons_if b x (xs ++ ys) ≡ cons_if b x xs ++ ys
cons_if-append true x xs ys = refl
cons_if-append false x xs ys = refl

pub filter_after-push : {X : Type 0} (test : List X → X → Bool) (before xs : List X) (x : X) → filter_after test before (xs ++ x ∷ []) ≡ filter_after test before xs ++ cond (test (before ++ xs) x) (x ∷ []) []
filter_after-push test before [] x = consed (test before x) x ∙ ap (λ b. cond (test b x) (x ∷ []) []) (sym (append-nil before))
filter_after-push test before (y ∷ xs) x =
    ap (cons_if (test before y) y) (filter_after-push test (before ++ y ∷ []) xs x)
    ∙ cons_if-append (test before y) y (filter_after test (before ++ y ∷ []) xs) (cond (test ((before ++ y ∷ []) ++ xs) x) (x ∷ []) [])
    ∙ ap (λ b. cons_if (test before y) y (filter_after test (before ++ y ∷ []) xs) ++ cond (test b x) (x ∷ []) []) (append_assoc before (y ∷ []) xs)

one_named : (b : Bool) (l : Line) → map (field 0) (cond b (l ∷ []) []) ≡ cond b (field 0 l ∷ []) []
one_named true l = refl
one_named false l = refl

pub starts_then : (ls : List Line) (l : Line) → column_starts (ls ++ l ∷ []) ≡ column_starts ls ++ cond (starts_column ls l) (l ∷ []) []
starts_then ls l = filter_after-push starts_column [] ls l

pub names_then : (ls : List Line) (l : Line) → column_names (ls ++ l ∷ []) ≡ column_names ls ++ cond (starts_column ls l) (field 0 l ∷ []) []
names_then ls l = ap (map (field 0)) (starts_then ls l) ∙ map-append (field 0) (column_starts ls) (cond (starts_column ls l) (l ∷ []) []) ∙ ap (λ r. column_names ls ++ r) (one_named (starts_column ls l) l)

pub integers_then : (ls : List Line) (l : Line) → integer_names (ls ++ l ∷ []) ≡ integer_names ls ++ cond (starts_column ls l && in_integer_part ls) (field 0 l ∷ []) []
integers_then ls l =
    ap (map (field 0)) (filter_after-push (λ before l. starts_column before l && in_integer_part before) [] ls l)
    ∙ map-append (field 0) (filter_after (λ before l. starts_column before l && in_integer_part before) [] ls) (cond (starts_column ls l && in_integer_part ls) (l ∷ []) [])
    ∙ ap (λ r. integer_names ls ++ r) (one_named (starts_column ls l && in_integer_part ls) l)

-- ---- the line

data_line : (l : Line) (name : List ℕ) → IsColumnLine l name → IsDataWith (codes "COLUMNS") l l.fields
data_line l name is = record { header = is.header; section = is.section; fields = refl }

is_data : (l : Line) (words : List (List ℕ)) → IsDataWith (codes "COLUMNS") l words → is_data_of (codes "COLUMNS") l ≡ true
is_data l words d = rw (d.header, d.section, bytes_eq-refl (codes "COLUMNS")) refl

pub starts_is : (ls : List Line) (l : Line) (name : List ℕ) → IsColumnLine l name → starts_column ls l ≡ begins_column ls l
starts_is ls l name is = ap (λ b. b && not (is_marker l) && begins_column ls l) (is_data l l.fields (data_line l name is)) ∙ ap (λ b. not b && begins_column ls l) is.plain

begins_is : (o : Option Line) (name : List ℕ) → begins_behind o name ≡ not (is_name (continued_by o) name)
begins_is None name = refl
begins_is (Some k) name = by_marker (is_marker k)
  where
    by_marker : (b : Bool) → (b || not (bytes_eq (field 0 k) name)) ≡ not (is_name (if b then None else Some (field 0 k)) name)
    by_marker true = refl
    by_marker false = refl

pub begins_by : (names : List (List ℕ)) (current : Option (List ℕ)) (part : Bool) (ls : List Line) (l : Line) (name : List ℕ) → IsColumnLine l name → ColumnsReady names current part ls → begins_column ls l ≡ not (is_name current name)
begins_by names current part ls l name is r = begins_is (last_of (data_of (codes "COLUMNS") ls)) (field 0 l) ∙ ap (λ c. not (is_name c (field 0 l))) (sym r.goes_on) ∙ ap (λ n. not (is_name current n)) is.named

-- a current column stands last, so there is one
pub none_continued : (names : List (List ℕ)) (current : Option (List ℕ)) (part : Bool) (ls : List Line) (name : List ℕ) → ColumnsReady names current part ls → length names ≡ 0 → is_name current name ≡ false
none_continued names None part ls name r empty = refl
none_continued [] (Some n) part ls name r empty = absurd (cc (r.last n refl))
none_continued (m ∷ names) (Some n) part ls name r empty = absurd (omega (arith, empty))

same_name : (current : Option (List ℕ)) (name : List ℕ) → is_name current name ≡ true → current ≡ Some name
same_name None name e = absurd (true≢false (sym e))
same_name (Some n) name e = ap (λ (m : List ℕ). Some m) ((bytes_eq-Decides n name).0 e)

part_then : (ls : List Line) (l : Line) (words : List (List ℕ)) → IsDataWith (codes "COLUMNS") l words → in_integer_part (ls ++ l ∷ []) ≡ begins_part (last_of (filter is_marker (data_of (codes "COLUMNS") ls) ++ cond (is_marker l) (l ∷ []) []))
part_then ls l words d = ap (λ r. begins_part (last_of (filter is_marker r))) (data_then (codes "COLUMNS") ls l words d) ∙ ap (λ r. begins_part (last_of r)) (filter-append is_marker (data_of (codes "COLUMNS") ls) (l ∷ []))

part_plain : (ls : List Line) (l : Line) (name : List ℕ) → IsColumnLine l name → in_integer_part (ls ++ l ∷ []) ≡ in_integer_part ls
part_plain ls l name is = part_then ls l l.fields (data_line l name is) ∙ ap (λ b. begins_part (last_of (filter is_marker (data_of (codes "COLUMNS") ls) ++ cond b (l ∷ []) []))) is.plain ∙ ap (λ r. begins_part (last_of r)) (append-nil (filter is_marker (data_of (codes "COLUMNS") ls)))

current_then : (ls : List Line) (l : Line) (words : List (List ℕ)) → IsDataWith (codes "COLUMNS") l words → current_of (ls ++ l ∷ []) ≡ (if is_marker l then None else Some (field 0 l))
current_then ls l words d = ap (λ r. continued_by (last_of r)) (data_then (codes "COLUMNS") ls l words d) ∙ ap continued_by (last_of-push (data_of (codes "COLUMNS") ls) l)

current_plain : (ls : List Line) (l : Line) (name : List ℕ) → IsColumnLine l name → current_of (ls ++ l ∷ []) ≡ Some name
current_plain ls l name is = current_then ls l l.fields (data_line l name is) ∙ ap (λ b. if b then None else Some (field 0 l)) is.plain ∙ ap (λ (n : List ℕ). Some n) is.named

some_is : (m n : List ℕ) → Some m ≡ Some n → m ≡ n
some_is m n e = cc

pub ready_continued : (names : List (List ℕ)) (current : Option (List ℕ)) (part : Bool) (ls : List Line) (l : Line) (name : List ℕ) → IsColumnLine l name → is_name current name ≡ true → ColumnsReady names current part ls → ColumnsReady names current part (ls ++ l ∷ [])
ready_continued names current part ls l name is same r =
    let begins : begins_column ls l ≡ false = begins_by names current part ls l name is r ∙ ap not same in
    let starts : starts_column ls l ≡ false = starts_is ls l name is ∙ begins in record {
      called = r.called ∙ sym (names_then ls l ∙ ap (λ b. column_names ls ++ cond b (field 0 l ∷ []) []) starts ∙ append-nil (column_names ls));
      distinct = r.distinct;
      goes_on = same_name current name same ∙ sym (current_plain ls l name is);
      last = r.last;
      inside = r.inside ∙ sym (part_plain ls l name is);
    }

bytes_equivalence : IsEquivalence bytes_eq
bytes_equivalence = record {
  refl = bytes_eq-refl;
  symm = bytes_eq-sym;
  congr = λ x y z e. ap (λ w. bytes_eq w z) ((bytes_eq-Decides x y).0 e);
}

pub distinct_push : (names : List (List ℕ)) (n : List ℕ) → IsDistinct bytes_eq names → is_one_of names n ≡ false → IsDistinct bytes_eq (names ++ n ∷ [])
distinct_push names n d absent = IsDistinct-push bytes_equivalence names n d absent

pub ready_begun : (names new_names : List (List ℕ)) (current new_current : Option (List ℕ)) (part : Bool) (ls : List Line) (l : Line) (name : List ℕ) → IsColumnLine l name → is_name current name ≡ false → ColumnsReady names current part ls → new_names ≡ names ++ name ∷ [] → is_one_of names name ≡ false → new_current ≡ Some name → ColumnsReady new_names new_current part (ls ++ l ∷ [])
ready_begun names new_names current new_current part ls l name is other r pushed absent now =
    let begins : begins_column ls l ≡ true = begins_by names current part ls l name is r ∙ ap not other in
    let starts : starts_column ls l ≡ true = starts_is ls l name is ∙ begins in record {
      called = pushed ∙ ap (λ ns. ns ++ name ∷ []) r.called ∙ ap (λ n. column_names ls ++ n ∷ []) (sym is.named) ∙ sym (names_then ls l ∙ ap (λ b. column_names ls ++ cond b (field 0 l ∷ []) []) starts);
      distinct = subst (λ (ns : List (List ℕ)). IsDistinct bytes_eq ns) (sym pushed) (distinct_push names name r.distinct absent);
      goes_on = now ∙ sym (current_plain ls l name is);
      last = λ o e. ap last_of pushed ∙ last_of-push names name ∙ sym now ∙ e;
      inside = r.inside ∙ sym (part_plain ls l name is);
    }

-- why a line that begins a column is refused
pub name_kind_is : (names : List (List ℕ)) (current : Option (List ℕ)) (part : Bool) (count : ℕ) (ls : List Line) (l : Line) (name : List ℕ) → IsColumnLine l name → is_name current name ≡ false → ColumnsReady names current part ls → length names ≡ count → name_kind ls l ≡ new_column_kind names count name
name_kind_is names current part count ls l name is other r size =
    let begins : begins_column ls l ≡ true = begins_by names current part ls l name is r ∙ ap not other in
    let counted : length (column_starts ls) ≡ count = sym (length-map (column_starts ls) (field 0)) ∙ ap length (sym r.called) ∙ size in
    ap (λ b. first_kind ((b && is_long (field 0 l), LongName) ∷ (b && is_one_of (column_names ls) (field 0 l), Duplicate) ∷ (b && nat_le 1000 (length (column_starts ls)), TooMany) ∷ [])) begins
    ∙ ap (λ n. first_kind ((is_long n, LongName) ∷ (is_one_of (column_names ls) n, Duplicate) ∷ (nat_le 1000 (length (column_starts ls)), TooMany) ∷ [])) is.named
    ∙ ap (λ ns. first_kind ((is_long name, LongName) ∷ (is_one_of ns name, Duplicate) ∷ (nat_le 1000 (length (column_starts ls)), TooMany) ∷ [])) (sym r.called)
    ∙ ap (λ c. first_kind ((is_long name, LongName) ∷ (is_one_of names name, Duplicate) ∷ (nat_le 1000 c, TooMany) ∷ [])) counted

pub fault_as : (f : Fault) (o p : Option MpsKind) → p ≡ o → IsFault f o → IsFault f p
fault_as f o p e h = subst (λ (q : Option MpsKind). IsFault f q) (sym e) h

-- ---- a line's numbers

fine_b : (m f : Bool) (o p : Option MpsKind) (k : MpsKind) → m ≡ false → f ≡ true → (a b x : Bool) → (if m then o else or_else (first_kind ((not f, Fields) ∷ (a, LongName) ∷ (b, Duplicate) ∷ (x, TooMany) ∷ [])) p) ≡ or_else (first_kind ((a, LongName) ∷ (b, Duplicate) ∷ (x, TooMany) ∷ [])) p
fine_b m f o p k plain fine a b x = rw (plain, fine) refl

column_kind_is : (ls : List Line) (l : Line) (a : List ℕ) (words : List (List ℕ)) → is_marker l ≡ false → l.fields ≡ a ∷ words → (nat_eq (length l.fields) 3 || nat_eq (length l.fields) 5) ≡ true → column_kind ls l ≡ or_else (name_kind ls l) (entries_kind (term_kind ls) (entries_of (codes "COLUMNS") ls) (pairs a words))
column_kind_is ls l a words plain f fine =
    fine_b (is_marker l) (nat_eq (length l.fields) 3 || nat_eq (length l.fields) 5) (marker_kind l) (entries_kind (term_kind ls) (entries_of (codes "COLUMNS") ls) (column_entries l)) Fields plain fine (begins_column ls l && is_long (field 0 l)) (begins_column ls l && is_one_of (column_names ls) (field 0 l)) (begins_column ls l && nat_le 1000 (length (column_starts ls)))
    ∙ ap (λ es. or_else (name_kind ls l) (entries_kind (term_kind ls) (entries_of (codes "COLUMNS") ls) es)) (entries_are l a words f)
  where
    entries_are : (l : Line) (a : List ℕ) (words : List (List ℕ)) → l.fields ≡ a ∷ words → column_entries l ≡ pairs a words
    entries_are l a words f = rw f refl

entries_added : (ls : List Line) (l : Line) (words : List (List ℕ)) → IsDataWith (codes "COLUMNS") l words → entries_of (codes "COLUMNS") (ls ++ l ∷ []) ≡ entries_of (codes "COLUMNS") ls ++ flat_map column_entries (cond (not (is_marker l)) (l ∷ []) [])
entries_added ls l words d =
    ap (λ r. flat_map column_entries (filter (λ l. not (is_marker l)) r)) (data_then (codes "COLUMNS") ls l words d)
    ∙ ap (flat_map column_entries) (filter-append (λ l. not (is_marker l)) (data_of (codes "COLUMNS") ls) (l ∷ []))
    ∙ flat_map-append column_entries (column_lines ls) (cond (not (is_marker l)) (l ∷ []) [])

entries_plain : (ls : List Line) (l : Line) (a : List ℕ) (words : List (List ℕ)) → IsDataWith (codes "COLUMNS") l (a ∷ words) → is_marker l ≡ false → entries_of (codes "COLUMNS") (ls ++ l ∷ []) ≡ entries_of (codes "COLUMNS") ls ++ pairs a words
entries_plain ls l a words d plain =
    entries_added ls l (a ∷ words) d
    ∙ ap (λ b. entries_of (codes "COLUMNS") ls ++ flat_map column_entries (cond (not b) (l ∷ []) [])) plain
    ∙ ap (λ r. entries_of (codes "COLUMNS") ls ++ r) (append-nil (column_entries l))
    ∙ ap (λ r. entries_of (codes "COLUMNS") ls ++ r) (are l a words d.fields)
  where
    are : (l : Line) (a : List ℕ) (words : List (List ℕ)) → l.fields ≡ a ∷ words → column_entries l ≡ pairs a words
    are l a words f = rw f refl

-- ---- one more column, seen from the rows

no_column : (o : Option ℕ) (n : ℕ) → ((k : ℕ) → o ≡ Some k → k < n) → is_column o n ≡ false
no_column None n below = refl
no_column (Some k) n below = let h : k < n = below k refl in ne_eqb k n (λ e. omega (arith, e, h))

pub absent_before : (names : List (List ℕ)) (n o : List ℕ) → is_one_of (names ++ n ∷ []) o ≡ false → is_one_of names o ≡ false
absent_before names n o e = (or_parts (is_one_of names o) (is_one_of (n ∷ []) o) (sym (list_any-append (bytes_eq o) names (n ∷ [])) ∙ e)).0

pub entries_pushed : (names columns : List (List ℕ)) (rows : List RowDraft) (count : ℕ) (ls : List Line) (es : List Entry) (m : List ℕ) → is_one_of columns m ≡ false → EntriesAgree names rows columns count ls es → EntriesAgree names rows (columns ++ m ∷ []) count ls es
entries_pushed names columns rows count ls es m absent a = record {
  last = table_then (HasLast columns es) (HasLast (columns ++ m ∷ []) es) names rows
      (λ n row h. record {
        same = λ o at reads.
            let mine : m ≡ o = some_is m o (sym (last_of-push columns m) ∙ at) in
            let size : length (columns ++ m ∷ []) - 1 ≡ length columns = omega (arith, length_push columns m) in
            ap (is_column row.last_column) size ∙ no_column row.last_column (length columns) h.below ∙ sym (a.owners_known m absent n) ∙ ap (λ w. is_given es w n) mine;
        below = λ k e. let h : k < length columns = h.below k e in omega (arith, h, length_push columns m);
        terms = λ reads. h.terms reads ∙ sym (terms_push 0 es columns m n ∙ ap (λ z. terms_from 0 es columns n ++ term_if (0 + length columns) z) (zero_in es m n (a.owners_known m absent n)) ∙ append-nil (terms_from 0 es columns n));
      }) a.last;
  rows_known = a.rows_known;
  owners_known = λ o no_one n. a.owners_known o (absent_before columns m o no_one) n;
  counted = a.counted;
  few = a.few;
  apart = distinct_push columns m a.apart absent;
  total = a.total;
}

pub entries_grown : (b : Bool) (names columns new_columns : List (List ℕ)) (items new_items : List ColumnDraft) (part : Bool) (m : List ℕ) (rows : List RowDraft) (count : ℕ) (ls : List Line) (es : List Entry) → AddsColumn b columns items new_columns new_items part m → EntriesAgree names rows columns count ls es → EntriesAgree names rows new_columns count ls es
entries_grown true names columns new_columns items new_items part m rows count ls es added a = subst (λ (cs : List (List ℕ)). EntriesAgree names rows cs count ls es) (sym added.called) (entries_pushed names columns rows count ls es m added.absent a)
entries_grown false names columns new_columns items new_items part m rows count ls es added a = subst (λ (cs : List (List ℕ)). EntriesAgree names rows cs count ls es) (sym added.0) a

-- ---- a line of the section

module _ (row_keys keys middle_keys : List (Bor (List ℕ))) (rows : List RowDraft) (items middle_items : List ColumnDraft) (current middle_current : Option (List ℕ)) (part middle_part : Bool) (count middle_count column : ℕ) (ls : List Line) (l : Line) (a : List ℕ) (words : List (List ℕ)) (d : IsDataWith (codes "COLUMNS") l (a ∷ words)) (plain : is_marker l ≡ false) (fine : (nat_eq (length l.fields) 3 || nat_eq (length l.fields) 5) ≡ true) (r : ColumnReady row_keys rows keys current part count ls)
    (good : (ls : List Line) (l : Line) → IsColumnLine l a → ColumnsReady (texts_of keys) current part ls → name_kind ls l ≡ None)
    (ready : (ls : List Line) (l : Line) → IsColumnLine l a → ColumnsReady (texts_of keys) current part ls → ColumnsReady (texts_of middle_keys) middle_current middle_part (ls ++ l ∷ []))
    (added : (ls : List Line) (l : Line) → IsColumnLine l a → ColumnsReady (texts_of keys) current part ls → AddsColumn (begins_column ls l) (texts_of keys) items (texts_of middle_keys) middle_items part a)
    (same : middle_count ≡ count) (size : length (texts_of middle_keys) ≡ column + 1) where
  is_line : IsColumnLine l a
  is_line = record { header = d.header; section = d.section; named = named_first l a words d.fields; plain = plain }
    where
      named_first : (l : Line) (a : List ℕ) (words : List (List ℕ)) → l.fields ≡ a ∷ words → field 0 l ≡ a
      named_first l a words f = rw f refl

  heads_now : ColumnsReady (texts_of middle_keys) middle_current middle_part (ls ++ l ∷ [])
  heads_now = ready ls l is_line r.heads

  ends_now : last_of (texts_of middle_keys) ≡ Some a
  ends_now = heads_now.last a (heads_now.goes_on ∙ current_plain ls l a is_line)

  numbers_now : EntriesAgree (texts_of row_keys) rows (texts_of middle_keys) middle_count ls (entries_of (codes "COLUMNS") ls)
  numbers_now = subst (λ (c : ℕ). EntriesAgree (texts_of row_keys) rows (texts_of middle_keys) c ls (entries_of (codes "COLUMNS") ls)) (sym same) (entries_grown (begins_column ls l) (texts_of row_keys) (texts_of keys) (texts_of middle_keys) items middle_items part a rows count ls (entries_of (codes "COLUMNS") ls) (added ls l is_line r.heads) r.numbers)

  kind_now : column_kind ls l ≡ entries_kind (term_kind ls) (entries_of (codes "COLUMNS") ls) (pairs a words)
  kind_now = column_kind_is ls l a words plain d.fields fine ∙ ap (λ o. or_else o (entries_kind (term_kind ls) (entries_of (codes "COLUMNS") ls) (pairs a words))) (good ls l is_line r.heads)

  pub column_refused : (fault : Fault) → RefusesTerms row_keys column rows middle_count words fault → IsFault fault (column_kind ls l)
  column_refused fault refuses = fault_as fault _ (column_kind ls l) kind_now (refuses ls (entries_of (codes "COLUMNS") ls) (texts_of middle_keys) a r.roles numbers_now ends_now size)

  pub column_taken : (new_keys : List (Bor (List ℕ))) (new_rows : List RowDraft) (new_items : List ColumnDraft) (new_current : Option (List ℕ)) (new_part : Bool) (new_count : ℕ) → new_keys ≡ middle_keys → new_current ≡ middle_current → new_part ≡ middle_part → IsAlong HasSameBounds middle_items new_items → TakesTerms row_keys column rows middle_count new_rows new_count words → ColumnThen row_keys new_rows keys items part new_keys new_items new_current new_part new_count ls l
  column_taken new_keys new_rows new_items new_current new_part new_count keys_same current_same part_same along takes =
      let t = takes ls (entries_of (codes "COLUMNS") ls) (texts_of middle_keys) a r.roles numbers_now ends_now size in record {
        good = kind_now ∙ t.0;
        heads = subst (λ (ks : List (Bor (List ℕ))). ColumnsReady (texts_of ks) new_current new_part (ls ++ l ∷ [])) (sym keys_same)
            (subst (λ (c : Option (List ℕ)). ColumnsReady (texts_of middle_keys) c new_part (ls ++ l ∷ [])) (sym current_same)
            (subst (λ (p : Bool). ColumnsReady (texts_of middle_keys) middle_current p (ls ++ l ∷ [])) (sym part_same) heads_now));
        numbers = subst (λ (ks : List (Bor (List ℕ))). EntriesAgree (texts_of row_keys) new_rows (texts_of ks) new_count ls (entries_of (codes "COLUMNS") (ls ++ l ∷ []))) (sym keys_same)
            (subst (λ (es : List Entry). EntriesAgree (texts_of row_keys) new_rows (texts_of middle_keys) new_count ls es) (sym (entries_plain ls l a words d plain)) t.1);
        grown = subst (λ (ks : List (Bor (List ℕ))). AreGrown (starts_column ls l) (texts_of keys) items (texts_of ks) new_items part (field 0 l)) (sym keys_same) (record {
          middle = middle_items;
          added = subst (λ (n : List ℕ). AddsColumn (starts_column ls l) (texts_of keys) items (texts_of middle_keys) middle_items part n) (sym is_line.named)
              (subst (λ (b : Bool). AddsColumn b (texts_of keys) items (texts_of middle_keys) middle_items part a) (sym (starts_is ls l a is_line)) (added ls l is_line r.heads));
          along = along;
        });
      }

-- ---- a marker

same_bounds : (items : List ColumnDraft) → IsAlong HasSameBounds items items
same_bounds items = record { size = refl; each = λ k x h. record { name = refl; marked = refl; bounds = refl } }

pub marker_taken : (row_keys keys : List (Bor (List ℕ))) (rows : List RowDraft) (items : List ColumnDraft) (current : Option (List ℕ)) (part new_part : Bool) (count new_count : ℕ) (ls : List Line) (l : Line) (words : List (List ℕ)) → IsDataWith (codes "COLUMNS") l words → is_marker l ≡ true → ColumnReady row_keys rows keys current part count ls → marker_kind l ≡ None → new_part ≡ bytes_eq (field 2 l) (codes "'INTORG'") → new_count ≡ count → ColumnThen row_keys rows keys items part keys items None new_part new_count ls l
marker_taken row_keys keys rows items current part new_part count new_count ls l words d marker r good opens same =
    let starts : starts_column ls l ≡ false = ap (λ b. is_data_of (codes "COLUMNS") l && not b && begins_column ls l) marker ∙ none_starts (is_data_of (codes "COLUMNS") l) (begins_column ls l) in
    let entries : entries_of (codes "COLUMNS") (ls ++ l ∷ []) ≡ entries_of (codes "COLUMNS") ls = entries_added ls l words d ∙ ap (λ b. entries_of (codes "COLUMNS") ls ++ flat_map column_entries (cond (not b) (l ∷ []) [])) marker ∙ append-nil (entries_of (codes "COLUMNS") ls) in record {
      good = ap (λ b. if b then marker_kind l else or_else (first_kind ((not (nat_eq (length l.fields) 3 || nat_eq (length l.fields) 5), Fields) ∷ (begins_column ls l && is_long (field 0 l), LongName) ∷ (begins_column ls l && is_one_of (column_names ls) (field 0 l), Duplicate) ∷ (begins_column ls l && nat_le 1000 (length (column_starts ls)), TooMany) ∷ [])) (entries_kind (term_kind ls) (entries_of (codes "COLUMNS") ls) (column_entries l))) marker ∙ good;
      heads = record {
        called = r.heads.called ∙ sym (names_then ls l ∙ ap (λ b. column_names ls ++ cond b (field 0 l ∷ []) []) starts ∙ append-nil (column_names ls));
        distinct = r.heads.distinct;
        goes_on = sym (current_then ls l words d ∙ ap (λ b. if b then None else Some (field 0 l)) marker);
        last = λ o e. absurd (cc);
        inside = opens ∙ sym (part_then ls l words d ∙ ap (λ b. begins_part (last_of (filter is_marker (data_of (codes "COLUMNS") ls) ++ cond b (l ∷ []) []))) marker ∙ ap begins_part (last_of-push (filter is_marker (data_of (codes "COLUMNS") ls)) l));
      };
      numbers = subst (λ (es : List Entry). EntriesAgree (texts_of row_keys) rows (texts_of keys) new_count ls es) (sym entries) (subst (λ (c : ℕ). EntriesAgree (texts_of row_keys) rows (texts_of keys) c ls (entries_of (codes "COLUMNS") ls)) (sym same) r.numbers);
      grown = record {
        middle = items;
        added = subst (λ (b : Bool). AddsColumn b (texts_of keys) items (texts_of keys) items part (field 0 l)) (sym starts) (refl, refl);
        along = same_bounds items;
      };
    }
  where
    none_starts : (b x : Bool) → (b && false && x) ≡ false
    none_starts true x = refl
    none_starts false x = refl

pub three_fine : (l : Line) (a b x : List ℕ) → l.fields ≡ a ∷ b ∷ x ∷ [] → (nat_eq (length l.fields) 3 || nat_eq (length l.fields) 5) ≡ true
three_fine l a b x f = rw f refl

pub five_fine : (l : Line) (a b x y z : List ℕ) → l.fields ≡ a ∷ b ∷ x ∷ y ∷ z ∷ [] → (nat_eq (length l.fields) 3 || nat_eq (length l.fields) 5) ≡ true
five_fine l a b x y z f = rw f refl

pub marker_moved : (row_keys keys new_keys : List (Bor (List ℕ))) (rows : List RowDraft) (items new_items : List ColumnDraft) (current new_current : Option (List ℕ)) (part new_part : Bool) (count new_count : ℕ) (ls : List Line) (l : Line) (words : List (List ℕ)) → IsDataWith (codes "COLUMNS") l words → is_marker l ≡ true → ColumnReady row_keys rows keys current part count ls → marker_kind l ≡ None → new_part ≡ bytes_eq (field 2 l) (codes "'INTORG'") → new_count ≡ count → new_keys ≡ keys → new_items ≡ items → new_current ≡ None → ColumnThen row_keys rows keys items part new_keys new_items new_current new_part new_count ls l
marker_moved row_keys keys new_keys rows items new_items current new_current part new_part count new_count ls l words d marker r good opens same keys_same items_same none =
    subst (λ (c : Option (List ℕ)). ColumnThen row_keys rows keys items part new_keys new_items c new_part new_count ls l) (sym none)
    (subst (λ (ks : List (Bor (List ℕ))). ColumnThen row_keys rows keys items part ks new_items None new_part new_count ls l) (sym keys_same)
    (subst (λ (cs : List ColumnDraft). ColumnThen row_keys rows keys items part keys cs None new_part new_count ls l) (sym items_same)
    (marker_taken row_keys keys rows items current part new_part count new_count ls l words d marker r good opens same)))
