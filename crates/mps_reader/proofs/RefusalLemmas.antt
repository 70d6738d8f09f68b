-- The parts of a draft whose columns are good at the end make a model.
use Rattle.std.proofs.Common.{◌≡◌, ◌∙◌, ap, sym, subst, ℕ, ℤ, pos, neg_ℤ, ◌+◌, ◌<◌, ◌≤◌, Bool, true, false, ◌||◌, not, cond, nat_lt, nat_le, unsigned_abs, List, [], ◌∷◌, ◌++◌, map, length, Option, Some, None, refl, arith, inl, inr}
use Rattle.std.specs.Prelude.{bytes_eq, filter_map, unwrap_or, is_none, if◌then◌else◌, codes, ◌⊎◌}
use Rattle.std.specs.List.{All, list_any, cons_option, IsDistinct, sum_by, AllByRecursion}
use Rattle.std.specs.Ordering.{int_eq}
use Rattle.std.specs.Option.{ForSome}
use Rattle.std.proofs.lemmas.Int.{ints}
use Rattle.std.proofs.lemmas.Bool.{true≢false, ltb-false, le-ltb, lt-leb, false_from_ne_true}
use Rattle.std.proofs.lemmas.Bool.Decides.{Decides-int_eq}
use Rattle.std.proofs.lemmas.List.{length-map, append_assoc}
use Rattle.std.proofs.lemmas.List.Elements.{All-head, All-tail, All-nil}
use Rattle.std.proofs.lemmas.List.Sums.{sum_by-cons}
use Rattle.std.proofs.lemmas.Map.Keys.{IsDistinct-head, IsDistinct-tail, IsDistinct-cons}
use Rattle.num_text.specs.Words.{last_of}
use Rattle.mps_reader.specs.MpsLines.{Line, Entry, kept_rows, column_names, entries_of, is_one_of}
use Rattle.mps_reader.specs.MpsRules.{or_else, first_kind}
use Rattle.mps_reader.specs.MpsModels.{number_in, is_not_zero, terms_from, cost_of, low_of, high_of, is_implied, is_infinite, is_integer, has_negative_upper, column_end_kind, end_kind, row_of}
use Rattle.mps_reader.specs.ColumnBounds.{last_setting}
use Rattle.mps_reader.specs.ColumnStates.{IsLimited}
use Rattle.mps_reader.specs.ColumnNumbers.{makes_term, is_objective_role}
use Rattle.mps_reader.specs.RowStates.{terms_for, term_weight}
use Rattle.mps_reader.specs.Tables.{texts_of}
use Rattle.mps_reader.specs.EndedColumns.{IsColumnOf, part_of, costs_from}
use Rattle.mps_reader.specs.MadeRows.{row_made, row_with, constant_made, costs_made, objective_with}
use Rattle.mps_reader.specs.Drafts.{HasParts}
use Rattle.mps_reader.specs.declared.draft.Draft.{Draft}
use Rattle.mps_reader.specs.declared.row_draft.RowDraft.{RowDraft}
use Rattle.mps_reader.specs.declared.row_draft.RowRole.{RowRole}
use Rattle.mps_reader.specs.declared.row_draft.RowRole.TheVariants.{Objective, Dropped, Kept}
use Rattle.mps_reader.specs.declared.columns.ColumnDraft.{ColumnDraft}
use Rattle.mps_reader.specs.declared.MpsKind.{MpsKind}
use Rattle.mps_reader.specs.declared.MpsKind.TheVariants.{Continuous, NegativeUpper, Unbounded}
use Rattle.int_model.specs.declared.model.Row.{Row}
use Rattle.int_model.specs.declared.model.RowSense.{RowSense}
use Rattle.mps_reader.proofs.TermLists.{absent_b, distinct_front}
use Rattle.int_model.specs.declared.build.ColumnPart.{ColumnPart}
use Rattle.int_model.specs.declared.build.ModelError.{ModelError}
use Rattle.int_model.specs.declared.build.ModelError.TheVariants as error
use Rattle.int_model.specs.declared.build.Counted.TheVariants as counted
use Rattle.int_model.specs.declared.build.Place.TheVariants as place
use Rattle.int_model.specs.Models.{entry_count}
use Rattle.int_model.specs.Build as build
use Rattle.mps_reader.proofs.EndLemmas.{names_of, named_by, all_columns}
use Rattle.mps_reader.proofs.ModelLemmas.{RowFacts, last_with, costs_here, rows_are, row_facts, named_rows}
use Rattle.mps_reader.specs.Faults.{IsFault}
use Rattle.mps_reader.specs.declared.fault.Fault.{Fault}
use Rattle.mps_reader.specs.declared.fault.Fault.TheVariants as fault

-- ---- tests

skip : (b : Bool) (e : ModelError) (o : Option ModelError) → b ≡ false → build.first_of (build.refuse_if b e) o ≡ o
skip true e o h = absurd (true≢false h)
skip false e o h = refl

passes : (b : Bool) (e : ModelError) → b ≡ false → build.refuse_if b e ≡ None
passes true e h = absurd (true≢false h)
passes false e h = refl

both_none : (o p : Option ModelError) → o ≡ None → p ≡ None → build.first_of o p ≡ None
both_none o p a b = ap (λ x. build.first_of x p) a ∙ b

exceeds_not : (most : ℕ) (z : ℤ) → unsigned_abs z ≤ most → build.exceeds most z ≡ false
exceeds_not most z h = le-ltb most (unsigned_abs z) h

side_not : (most : ℕ) (o : Option ℤ) → ForSome o (λ z. unsigned_abs z ≤ most) → build.side_exceeds most o ≡ false
side_not most None h = refl
side_not most (Some z) h = exceeds_not most z (h z refl)

abbrev IsSmall : ℕ × ℤ → Type 0
IsSmall t = unsigned_abs t.1 ≤ 1000000000

-- ---- what the last of the rows gives

module _ {X : Type 0} (P : X → Type 0) where
  last_limit : (o p : Option X) → ForSome o P → ForSome p P → ForSome (last_setting o p) P
  last_limit o None a b = a
  last_limit o (Some x) a b = b

  lasts : (f : RowDraft → Option X) (D : List RowDraft) → ((r : RowDraft) → ForSome (f r) P) → ForSome (last_of (filter_map f D)) P
  lasts f [] each = λ x e. absurd (cc)
  lasts f (r ∷ D) each = subst (λ (o : Option X). ForSome o P) (sym (last_with (f r) (filter_map f D))) (last_limit (f r) (last_of (filter_map f D)) (each r) (lasts f D each))

  made_limit : (R : RowRole) (x : X) → (is_objective_role R ≡ true → P x) → ForSome (objective_with R x) P
  made_limit Objective x h = λ y e. let same : x ≡ y = cc in subst P same (h refl)
  made_limit Dropped x h = λ y e. absurd (cc)
  made_limit (Kept s) x h = λ y e. absurd (cc)

  or_limit : (o : Option X) (d : X) → ForSome o P → P d → P (unwrap_or o d)
  or_limit None d h p = p
  or_limit (Some x) d h p = h x refl

negated : (o : Option ℤ) → ForSome o (λ z. unsigned_abs z ≤ 1000000000000000) → unsigned_abs (neg_ℤ (unwrap_or o (pos 0))) ≤ 1000000000000000
negated None h = omega (arith, ints)
negated (Some z) h = let limit : unsigned_abs z ≤ 1000000000000000 = h z refl in omega (arith, ints, limit)

constant_small : (D : List RowDraft) → unsigned_abs (unwrap_or (last_of (filter_map constant_made D)) (pos 0)) ≤ 1000000000000000
constant_small D = or_limit (λ (z : ℤ). unsigned_abs z ≤ 1000000000000000) (last_of (filter_map constant_made D)) (pos 0)
    (lasts (λ (z : ℤ). unsigned_abs z ≤ 1000000000000000) constant_made D (λ r. made_limit (λ (z : ℤ). unsigned_abs z ≤ 1000000000000000) r.role (neg_ℤ (unwrap_or r.rhs (pos 0))) (λ is. negated r.rhs (r.constant_limit is)))) (omega arith)

costs_small : (D : List RowDraft) → All IsSmall (unwrap_or (last_of (filter_map costs_made D)) [])
costs_small D = or_limit (λ (ts : List (ℕ × ℤ)). All IsSmall ts) (last_of (filter_map costs_made D)) []
    (lasts (λ (ts : List (ℕ × ℤ)). All IsSmall ts) costs_made D (λ r. made_limit (λ (ts : List (ℕ × ℤ)). All IsSmall ts) r.role r.terms.items (λ is. r.terms_limit))) (All-nil IsSmall)

-- ---- columns

pub record ColumnFine (ls : List Line) (c : ColumnDraft) : Type 0 where
  pub right : IsColumnOf ls c
  pub low_limit : IsLimited c.bounds.low
  pub high_limit : IsLimited c.bounds.high

cost_b : (b : Bool) (k : ℕ) (z : ℤ) (rest : List (ℕ × ℤ)) → is_not_zero z ≡ b → All IsSmall (cond b ((k, z) ∷ rest) rest) → (unsigned_abs z ≤ 1000000000) × All IsSmall rest
cost_b true k z rest e all = (All-head IsSmall (k, z) rest all, All-tail IsSmall (k, z) rest all)
cost_b false k z rest e all = let none : unsigned_abs z ≤ 0 = ltb-false 0 (unsigned_abs z) e in (omega (arith, none), all)

within : (o : Option (Option ℤ)) (d : Option ℤ) → IsLimited o → ForSome d (λ z. unsigned_abs z ≤ 1000000) → ForSome (unwrap_or o d) (λ z. unsigned_abs z ≤ 1000000)
within None d h p = p
within (Some s) d h p = h s refl

number_small : (w : ℤ) → unsigned_abs w ≤ 1000000 → ForSome (Some w) (λ z. unsigned_abs z ≤ 1000000)
number_small w h = λ z e. let same : w ≡ z = cc in subst (λ (x : ℤ). unsigned_abs x ≤ 1000000) same h

default_small : (b : Bool) → ForSome (if b then Some (pos 1) else None) (λ z. unsigned_abs z ≤ 1000000)
default_small true = number_small (pos 1) (omega arith)
default_small false = λ z e. absurd (cc)

third_none : (a b c : Bool) → first_kind ((a, Continuous) ∷ (b, NegativeUpper) ∷ (c, Unbounded) ∷ []) ≡ None → c ≡ false
third_none true b c e = absurd (cc)
third_none false true c e = absurd (cc)
third_none false false true e = absurd (cc)
third_none false false false e = refl

none_is : (o : Option ℤ) → is_none o ≡ is_infinite o
none_is None = refl
none_is (Some z) = refl

first_end : (o p : Option MpsKind) → or_else o p ≡ None → (o ≡ None) × (p ≡ None)
first_end None p e = (refl, e)
first_end (Some k) p e = absurd (cc)

column_fine : (j : ℕ) (ls : List Line) (c : ColumnDraft) → ColumnFine ls c → column_end_kind ls c.name ≡ None → unsigned_abs (cost_of ls c.name) ≤ 1000000000 → build.column_refusal j (part_of ls c) ≡ None
column_fine j ls c f good cost =
    let low : ForSome (low_of ls c.name) (λ z. unsigned_abs z ≤ 1000000) = subst (λ (o : Option (Option ℤ)). ForSome (unwrap_or o (Some (pos 0))) (λ z. unsigned_abs z ≤ 1000000)) f.right.bounds.low (within c.bounds.low (Some (pos 0)) f.low_limit (number_small (pos 0) (omega arith))) in
    let high : ForSome (high_of ls c.name) (λ z. unsigned_abs z ≤ 1000000) = subst (λ (o : Option (Option ℤ)). ForSome (unwrap_or o (if is_implied ls c.name then Some (pos 1) else None)) (λ z. unsigned_abs z ≤ 1000000)) f.right.bounds.high (within c.bounds.high (if is_implied ls c.name then Some (pos 1) else None) f.high_limit (default_small (is_implied ls c.name))) in
    let infinite : (is_infinite (low_of ls c.name) || is_infinite (high_of ls c.name)) ≡ false = third_none (not (is_integer ls c.name)) (has_negative_upper ls c.name) (is_infinite (low_of ls c.name) || is_infinite (high_of ls c.name)) good in
    let finite : (is_none (low_of ls c.name) || is_none (high_of ls c.name)) ≡ false = ap (λ b. b || is_none (high_of ls c.name)) (none_is (low_of ls c.name)) ∙ ap (λ b. is_infinite (low_of ls c.name) || b) (none_is (high_of ls c.name)) ∙ infinite in
    skip (build.exceeds 1000000000 (cost_of ls c.name)) (error.Magnitude (place.Cost j)) _ (exceeds_not 1000000000 (cost_of ls c.name) cost)
    ∙ skip (build.side_exceeds 1000000 (low_of ls c.name)) (error.Magnitude (place.Low j)) _ (side_not 1000000 (low_of ls c.name) low)
    ∙ skip (build.side_exceeds 1000000 (high_of ls c.name)) (error.Magnitude (place.High j)) _ (side_not 1000000 (high_of ls c.name) high)
    ∙ passes (is_none (low_of ls c.name) || is_none (high_of ls c.name)) (error.Unbounded j) finite

columns_fine : (j : ℕ) (ls : List Line) (C : List ColumnDraft) → All (ColumnFine ls) C → end_kind ls (names_of C) ≡ None → All IsSmall (costs_from j ls (names_of C)) → build.columns_refusal j (map (part_of ls) C) ≡ None
columns_fine j ls [] facts good small = refl
columns_fine j ls (c ∷ C) facts good small =
    let ends = first_end (column_end_kind ls c.name) (end_kind ls (names_of C)) good in
    let costs = cost_b (is_not_zero (cost_of ls c.name)) j (cost_of ls c.name) (costs_from (j + 1) ls (names_of C)) refl small in
    both_none (build.column_refusal j (part_of ls c)) (build.columns_refusal (j + 1) (map (part_of ls) C)) (column_fine j ls c (All-head (ColumnFine ls) c C facts) ends.0 costs.0)
    (columns_fine (j + 1) ls C (All-tail (ColumnFine ls) c C facts) ends.1 costs.1)

-- ---- rows

not_zero : (z : ℤ) → is_not_zero z ≡ true → int_eq z (pos 0) ≡ false
not_zero z e = false_from_ne_true (int_eq z (pos 0)) (λ is. true≢false (sym e ∙ ap is_not_zero ((Decides-int_eq z (pos 0)).0 is)))

terms_b : (b : Bool) (least k n : ℕ) (z : ℤ) (rest : List (ℕ × ℤ)) → is_not_zero z ≡ b → least ≤ k → k < n → build.has_bad_term (k + 1) n rest ≡ false → build.has_bad_term least n rest ≡ false → build.has_bad_term least n (cond b ((k, z) ∷ rest) rest) ≡ false
terms_b true least k n z rest e low below behind other =
    ap (λ x. x || nat_le n k || int_eq z (pos 0) || build.has_bad_term (k + 1) n rest) (le-ltb k least low)
    ∙ ap (λ x. x || int_eq z (pos 0) || build.has_bad_term (k + 1) n rest) (lt-leb n k below)
    ∙ ap (λ x. x || build.has_bad_term (k + 1) n rest) (not_zero z e)
    ∙ behind
terms_b false least k n z rest e low below behind other = other

good_terms : (least k n : ℕ) (es : List Entry) (cs : List (List ℕ)) (nm : List ℕ) → least ≤ k → k + length cs ≤ n → build.has_bad_term least n (terms_from k es cs nm) ≡ false
good_terms least k n es [] nm low below = refl
good_terms least k n es (c ∷ cs) nm low below =
    terms_b (is_not_zero (number_in es c nm)) least k n (number_in es c nm) (terms_from (k + 1) es cs nm) refl low (omega arith)
    (good_terms (k + 1) (k + 1) n es cs nm (omega arith) (omega arith)) (good_terms least (k + 1) n es cs nm (omega arith) (omega arith))

entries_fine : (i : ℕ) (ts : List (ℕ × ℤ)) → All IsSmall ts → build.entries_refusal i ts ≡ None
entries_fine i [] small = refl
entries_fine i (t ∷ ts) small = both_none (build.refuse_if (build.exceeds 1000000000 t.1) (error.Magnitude (place.Entry i t.0))) (build.entries_refusal i ts) (passes (build.exceeds 1000000000 t.1) (error.Magnitude (place.Entry i t.0)) (exceeds_not 1000000000 t.1 (All-head IsSmall t ts small))) (entries_fine i ts (All-tail IsSmall t ts small))

abbrev row_for : RowDraft → RowSense → Row
row_for r s = record { name = r.name; sense = s; rhs = unwrap_or r.rhs (pos 0); range = r.range; terms = r.terms.items }

row_fine : (n i : ℕ) (ls : List Line) (r : RowDraft) (s : RowSense) → makes_term r.role ≡ true → RowFacts ls r → length (column_names ls) ≤ n → build.row_refusal n i (row_for r s) ≡ None
row_fine n i ls r s kept f few =
    let terms : build.has_bad_term 0 n r.terms.items ≡ false = ap (build.has_bad_term 0 n) (f.terms kept) ∙ good_terms 0 0 n (entries_of (codes "COLUMNS") ls) (column_names ls) r.name (omega arith) (omega (arith, few)) in
    let rhs : unsigned_abs (unwrap_or r.rhs (pos 0)) ≤ 1000000000000000000 = or_limit (λ (z : ℤ). unsigned_abs z ≤ 1000000000000000000) r.rhs (pos 0) r.rhs_limit (omega arith) in
    skip (build.has_bad_term 0 n r.terms.items) (error.BadTerm i) _ terms
    ∙ both_none (build.entries_refusal i r.terms.items) _ (entries_fine i r.terms.items r.terms_limit)
    (skip (build.exceeds 1000000000000000000 (unwrap_or r.rhs (pos 0))) (error.Magnitude (place.Rhs i)) _ (exceeds_not 1000000000000000000 (unwrap_or r.rhs (pos 0)) rhs)
    ∙ passes (build.side_exceeds 1000000000000000000 r.range) (error.Magnitude (place.Range i)) (side_not 1000000000000000000 r.range r.range_limit))

rows_b : (R : RowRole) (n i : ℕ) (ls : List Line) (r : RowDraft) (rest : List Row) → r.role ≡ R → RowFacts ls r → length (column_names ls) ≤ n → ((j : ℕ) → build.rows_refusal n j rest ≡ None) → build.rows_refusal n i (cons_option (row_with R r) rest) ≡ None
rows_b Objective n i ls r rest e f few more = more i
rows_b Dropped n i ls r rest e f few more = more i
rows_b (Kept s) n i ls r rest e f few more = both_none (build.row_refusal n i (row_for r s)) (build.rows_refusal n (i + 1) rest) (row_fine n i ls r s (ap makes_term e) f few) (more (i + 1))

rows_fine : (n : ℕ) (ls : List Line) (D : List RowDraft) → All (RowFacts ls) D → length (column_names ls) ≤ n → (i : ℕ) → build.rows_refusal n i (filter_map row_made D) ≡ None
rows_fine n ls [] facts few = λ i. refl
rows_fine n ls (r ∷ D) facts few = λ i. rows_b r.role n i ls r (filter_map row_made D) refl (All-head (RowFacts ls) r D facts) few (rows_fine n ls D (All-tail (RowFacts ls) r D facts) few)

-- ---- counts

count_b : (R : RowRole) (r : RowDraft) (rest : List Row) → entry_count (cons_option (row_with R r) rest) ≡ terms_for R r.terms.items + entry_count rest
count_b Objective r rest = omega arith
count_b Dropped r rest = omega arith
count_b (Kept s) r rest = sum_by-cons (λ (x : Row). length x.terms) (row_for r s) rest

counts_are : (D : List RowDraft) → entry_count (filter_map row_made D) ≡ sum_by term_weight D
counts_are [] = refl
counts_are (r ∷ D) = count_b r.role r (filter_map row_made D) ∙ ap (λ n. term_weight r + n) (counts_are D) ∙ sym (sum_by-cons term_weight r D)

-- ---- names

apart_b : (before ns : List (List ℕ)) (n : List ℕ) → IsDistinct bytes_eq (before ++ n ∷ ns) → (before ++ n ∷ []) ++ ns ≡ before ++ n ∷ ns
apart_b before ns n d = append_assoc before (n ∷ []) ns

names_fine : (k : ℕ) (before ns : List (List ℕ)) → IsDistinct bytes_eq (before ++ ns) → build.names_refusal k before ns ≡ None
names_fine k before [] d = refl
names_fine k before (n ∷ ns) d =
    both_none (build.refuse_if (list_any (bytes_eq n) before) (error.SameName k)) (build.names_refusal (k + 1) (before ++ n ∷ []) ns)
    (passes (list_any (bytes_eq n) before) (error.SameName k) (absent_b before n (is_one_of before n) (distinct_front before n ns d) refl))
    (names_fine (k + 1) (before ++ n ∷ []) ns (subst (λ (xs : List (List ℕ)). IsDistinct bytes_eq xs) (sym (apart_b before ns n d)) d))

abbrev row_name : Row → List ℕ
row_name r = r.name

module _ (P : List ℕ → Type 0) where
  kept_b : (R : RowRole) (r : RowDraft) (rest : List Row) → P r.name → AllByRecursion P (map row_name rest) → AllByRecursion P (map row_name (cons_option (row_with R r) rest))
  kept_b Objective r rest p all = all
  kept_b Dropped r rest p all = all
  kept_b (Kept s) r rest p all = (p, all)

  kept_names : (D : List RowDraft) → AllByRecursion P (map (λ r. r.name) D) → AllByRecursion P (map row_name (filter_map row_made D))
  kept_names [] all = all
  kept_names (r ∷ D) all = kept_b r.role r (filter_map row_made D) all.0 (kept_names D all.1)

apart_rows_b : (R : RowRole) (r : RowDraft) (rest : List Row) → AllByRecursion (λ y. bytes_eq r.name y ≡ false) (map row_name rest) → IsDistinct bytes_eq (map row_name rest) → IsDistinct bytes_eq (map row_name (cons_option (row_with R r) rest))
apart_rows_b Objective r rest head d = d
apart_rows_b Dropped r rest head d = d
apart_rows_b (Kept s) r rest head d = IsDistinct-cons bytes_eq r.name (map row_name rest) head d

apart_rows : (D : List RowDraft) → IsDistinct bytes_eq (map (λ r. r.name) D) → IsDistinct bytes_eq (map row_name (filter_map row_made D))
apart_rows [] d = d
apart_rows (r ∷ D) d = apart_rows_b r.role r (filter_map row_made D) (kept_names (λ y. bytes_eq r.name y ≡ false) D (IsDistinct-head bytes_eq r.name (map (λ x. x.name) D) d)) (apart_rows D (IsDistinct-tail bytes_eq r.name (map (λ x. x.name) D) d))

part_names : (ls : List Line) (C : List ColumnDraft) → map (λ (p : ColumnPart). p.name) (map (part_of ls) C) ≡ names_of C
part_names ls [] = refl
part_names ls (c ∷ C) = ap (λ r. c.name ∷ r) (part_names ls C)

-- ---- all together

pub never_refused : (d : Draft) (ls : List Line) (parts : List ColumnPart) (rows : List Row) (constant : ℤ) → HasParts d ls → end_kind ls (names_of d.columns.table.items.items) ≡ None → parts ≡ map (part_of ls) d.columns.table.items.items → rows ≡ filter_map row_made d.rows.table.items.items → constant ≡ unwrap_or (last_of (filter_map constant_made d.rows.table.items.items)) (pos 0) → build.refusal parts rows constant ≡ None
never_refused d ls parts rows constant h good p r c =
    let D : List RowDraft = d.rows.table.items.items in
    let C : List ColumnDraft = d.columns.table.items.items in
    let names : List (List ℕ) = texts_of d.rows.table.names.keys in
    let columns : List (List ℕ) = texts_of d.columns.table.names.keys in
    let named : names_of C ≡ columns = named_by columns C ls h.bounds.known in
    let size : length parts ≡ length C = ap length p ∙ length-map C (part_of ls) in
    let few_columns : length parts ≤ 1000 = omega (arith, size, d.columns.few, d.columns.table.items.ok.0) in
    let lines : rows ≡ map (row_of ls) (kept_rows ls) = r ∙ rows_are names D ls columns d.columns.entries h.roles h.sides h.numbers h.ranges h.called in
    let few_rows : length rows ≤ 1000 = omega (arith, h.few_rows, ap length lines, length-map (kept_rows ls) (row_of ls)) in
    let entries : entry_count rows ≤ 100000 = omega (arith, ap entry_count r, counts_are D, h.numbers.total, h.numbers.few) in
    let counts : build.counts_refusal parts rows ≡ None =
    skip (nat_lt 1000 (length parts)) (error.TooMany counted.Columns) _ (le-ltb 1000 (length parts) few_columns)
    ∙ skip (nat_lt 1000 (length rows)) (error.TooMany counted.Rows) _ (le-ltb 1000 (length rows) few_rows)
    ∙ passes (nat_lt 100000 (entry_count rows)) (error.TooMany counted.Entries) (le-ltb 100000 (entry_count rows) entries) in
    let fine : All (ColumnFine ls) C = λ k x inside. record {
      right = all_columns columns C C ls refl h.bounds k x inside;
      low_limit = (h.bounds.known.each k [] x inside).low_limit;
      high_limit = (h.bounds.known.each k [] x inside).high_limit;
    } in
    let small : All IsSmall (costs_from 0 ls (names_of C)) = subst (λ (ts : List (ℕ × ℤ)). All IsSmall ts) (costs_here d ls C (unwrap_or (last_of (filter_map costs_made D)) []) h refl refl) (costs_small D) in
    let sides : build.columns_refusal 0 parts ≡ None = ap (build.columns_refusal 0) p ∙ columns_fine 0 ls C fine good small in
    let length_is : length (column_names ls) ≡ length parts = sym (ap length (named ∙ h.called)) ∙ length-map C (λ x. x.name) ∙ sym size in
    let numbers : build.rows_refusal (length parts) 0 rows ≡ None = ap (build.rows_refusal (length parts) 0) r ∙ rows_fine (length parts) ls D (row_facts names D ls columns d.columns.entries h.roles h.sides h.numbers h.ranges h.called) (omega (arith, length_is)) 0 in
    let value : build.exceeds 1000000000000000 constant ≡ false = exceeds_not 1000000000000000 constant (subst (λ (z : ℤ). unsigned_abs z ≤ 1000000000000000) (sym c) (constant_small D)) in
    let both : build.parts_refusal parts rows constant ≡ None = both_none (build.columns_refusal 0 parts) _ sides (both_none (build.rows_refusal (length parts) 0 rows) _ numbers (passes (build.exceeds 1000000000000000 constant) (error.Magnitude place.Constant) value)) in
    let column_names_are : map (λ (x : ColumnPart). x.name) parts ≡ columns = ap (map (λ (x : ColumnPart). x.name)) p ∙ part_names ls C ∙ named in
    let first : build.names_refusal 0 [] (map (λ (x : ColumnPart). x.name) parts) ≡ None = names_fine 0 [] (map (λ (x : ColumnPart). x.name) parts) (subst (λ (xs : List (List ℕ)). IsDistinct bytes_eq xs) (sym column_names_are) h.numbers.apart) in
    let row_names_apart : IsDistinct bytes_eq (map row_name rows) = subst (λ (xs : List Row). IsDistinct bytes_eq (map row_name xs)) (sym r) (apart_rows D (subst (λ (xs : List (List ℕ)). IsDistinct bytes_eq xs) (sym (named_rows names D ls columns d.columns.entries h.roles h.sides h.numbers D h.roles.roles)) h.roles.distinct)) in
    let second : build.names_refusal 0 [] (map row_name rows) ≡ None = names_fine 0 [] (map row_name rows) row_names_apart in
    both_none (build.counts_refusal parts rows) _ counts (both_none (build.parts_refusal parts rows constant) _ both (both_none (build.names_refusal 0 [] (map (λ (x : ColumnPart). x.name) parts)) _ first second))

pub only_memory : (e : ModelError) (f : Fault) (k : Option MpsKind) (r : Option ModelError) → (e ≡ error.Memory) ⊎ (r ≡ Some e) → r ≡ None → (e ≡ error.Memory → f ≡ fault.Memory) → IsFault f k
only_memory e f k r (inl memory) none made = subst (λ (g : Fault). IsFault g k) (sym (made memory)) tt
only_memory e f k r (inr refuses) none made = absurd (clash e (sym none ∙ refuses))
  where
    clash : (e : ModelError) → None ≡ Some e → ⊥
    clash e h = cc
