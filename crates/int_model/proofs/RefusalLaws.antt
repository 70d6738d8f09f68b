-- What is refused: exactly the parts that make no model.
use Rattle.std.proofs.Common.{◌≡◌, ◌∙◌, ◌++◌, sym, subst, ℕ, ◌+◌, ◌^◌, ◌<◌, ◌≤◌, ℤ, pos, unsigned_abs, List, [], ◌∷◌, length, map, Bool, false, nat_lt, nat_le, Option, Some, None, IfSome, refl, arith, append_assoc}
use Rattle.std.specs.Prelude.{IsSome, is_none}
use Rattle.std.specs.List.{All, list_any}
use Rattle.std.specs.Ordering.{int_eq}
use Rattle.std.specs.Str.{bytes_eq}
use Rattle.std.proofs.lemmas.Slice.Eq.{bytes_eq-Decides}
use Rattle.std.proofs.lemmas.Bool.{false_from_ne_true, le-ltb, lt-leb, or_from}
use Rattle.std.proofs.lemmas.Bool.Decides.{Decides-int_eq}
use Rattle.std.proofs.lemmas.List.{length-map, length-append, get_or_append_left}
use Rattle.std.proofs.Math.Seq.{get_or-append_seam}
use Rattle.std.proofs.lemmas.List.Folds.{Any-from_list_any}
use Rattle.std.proofs.lemmas.List.Elements.{All-nil, All-cons, All-head, All-rest}
use Rattle.int_model.specs.Programs.{Terms, AreTerms}
use Rattle.int_model.specs.Models.{IsColumn, IsRow, entry_count}
use Rattle.int_model.specs.Build.{AreDistinct, AreParts, HasSides, first_of, refuse_if, exceeds, side_exceeds, column_refusal, columns_refusal, has_bad_term, entries_refusal, row_refusal, rows_refusal, names_refusal, counts_refusal, parts_refusal, all_names_refusal, refusal, side_or_zero, column_made}
use Rattle.int_model.specs.declared.model.Row.{Row}
use Rattle.int_model.specs.declared.model.Direction.TheVariants.{Min}
use Rattle.int_model.specs.declared.build.ColumnPart.{ColumnPart}
use Rattle.int_model.specs.declared.build.ModelError.{ModelError}
use Rattle.int_model.proofs.BuildLemmas.{first_none, limits_kept, names-distinct, part_fits}

-- ---- what is refused lacks something

parts-sides : (j : ℕ) (cs : List ColumnPart) → columns_refusal j cs ≡ None → All HasSides cs
parts-sides j [] e = All-nil HasSides
parts-sides j (c ∷ cs) e =
    let a = first_none (column_refusal j c) (columns_refusal (j + 1) cs) e in
    All-cons HasSides c cs (part_fits j c a.0).sides (parts-sides (j + 1) cs a.1)

pub unrefused-parts : (columns : List ColumnPart) (rows : List Row) (constant : ℤ) → refusal columns rows constant ≡ None → AreParts columns rows constant
unrefused-parts columns rows constant e =
    let a = first_none (counts_refusal columns rows) (first_of (parts_refusal columns rows constant) (all_names_refusal columns rows)) e in
    let b = first_none (parts_refusal columns rows constant) (all_names_refusal columns rows) a.1 in
    let parts = first_none _ _ b.0 in
    let names = first_none _ _ b.1 in
    record {
      sides = parts-sides 0 columns parts.0;
      limits = limits_kept columns rows constant Min e;
      column_names = names-distinct (map (λ (c : ColumnPart). c.name) columns) names.0;
      row_names = names-distinct (map (λ (r : Row). r.name) rows) names.1;
    }

-- ---- what lacks nothing is not refused

both-none : (a b : Option ModelError) → a ≡ None → b ≡ None → first_of a b ≡ None
both-none a b e f = rw (e, f) refl

not-refused : (b : Bool) (e : ModelError) → b ≡ false → refuse_if b e ≡ None
not-refused b e h = rw h refl

not-above : (limit : ℕ) (z : ℤ) → unsigned_abs z ≤ limit → exceeds limit z ≡ false
not-above limit z h = le-ltb limit (unsigned_abs z) h

side-not-above : (limit : ℕ) (side : Option ℤ) → IfSome side (λ z. unsigned_abs z ≤ limit) → side_exceeds limit side ≡ false
side-not-above limit None h = refl
side-not-above limit (Some z) h = not-above limit z h

bound-not-above : (side : Option ℤ) → unsigned_abs (side_or_zero side) ≤ 10 ^ 6 → side_exceeds (10 ^ 6) side ≡ false
bound-not-above None h = refl
bound-not-above (Some z) h = not-above (10 ^ 6) z h

some-not-none : (side : Option ℤ) → IsSome side → is_none side ≡ false
some-not-none None h = absurd (cc)
some-not-none (Some z) h = refl

column-unrefused : (j : ℕ) (c : ColumnPart) → HasSides c → IsColumn (column_made c) → column_refusal j c ≡ None
column-unrefused j c s k =
    both-none _ _ (not-refused _ _ (not-above (10 ^ 9) c.cost k.cost))
    (both-none _ _ (not-refused _ _ (bound-not-above c.low k.low))
    (both-none _ _ (not-refused _ _ (bound-not-above c.high k.high))
    (not-refused _ _ (or_from (is_none c.low) (is_none c.high) (some-not-none c.low s.0) (some-not-none c.high s.1)))))

columns-unrefused : (j : ℕ) (cs : List ColumnPart) → All HasSides cs → All IsColumn (map column_made cs) → columns_refusal j cs ≡ None
columns-unrefused j [] s k = refl
columns-unrefused j (c ∷ cs) s k =
    both-none _ _ (column-unrefused j c (All-head HasSides c cs s) (All-head IsColumn (column_made c) (map column_made cs) k))
    (columns-unrefused (j + 1) cs (All-rest HasSides c cs (c ∷ cs) refl s) (All-rest IsColumn (column_made c) (map column_made cs) (column_made c ∷ map column_made cs) refl k))

terms-good : (least n : ℕ) (ts : Terms) → AreTerms least n ts → has_bad_term least n ts ≡ false
terms-good least n [] h = refl
terms-good least n (t ∷ ts) h =
    let rises : nat_lt t.0 least ≡ false = le-ltb t.0 least h.0 in
    let inside : nat_le n t.0 ≡ false = lt-leb n t.0 h.1 in
    let nonzero : int_eq t.1 (pos 0) ≡ false = false_from_ne_true (int_eq t.1 (pos 0)) (λ e. h.3 ((Decides-int_eq t.1 (pos 0)).0 e)) in
    rw (rises, inside, nonzero) (terms-good (t.0 + 1) n ts h.4)

entries-unrefused : (i least n : ℕ) (ts : Terms) → AreTerms least n ts → entries_refusal i ts ≡ None
entries-unrefused i least n [] h = refl
entries-unrefused i least n (t ∷ ts) h =
    both-none _ _ (not-refused _ _ (not-above (10 ^ 9) t.1 h.2)) (entries-unrefused i (t.0 + 1) n ts h.4)

row-unrefused : (n i : ℕ) (r : Row) → IsRow n r → row_refusal n i r ≡ None
row-unrefused n i r k =
    both-none _ _ (not-refused _ _ (terms-good 0 n r.terms k.terms))
    (both-none _ _ (entries-unrefused i 0 n r.terms k.terms)
    (both-none _ _ (not-refused _ _ (not-above (10 ^ 18) r.rhs k.rhs))
    (not-refused _ _ (side-not-above (10 ^ 18) r.range k.range))))

rows-unrefused : (n i : ℕ) (rs : List Row) → All (IsRow n) rs → rows_refusal n i rs ≡ None
rows-unrefused n i [] k = refl
rows-unrefused n i (r ∷ rs) k =
    both-none _ _ (row-unrefused n i r (All-head (IsRow n) r rs k)) (rows-unrefused n (i + 1) rs (All-rest (IsRow n) r rs (r ∷ rs) refl k))

-- a name that differs from all before it isn't among them
name-new : (before ns : List (List ℕ)) (n : List ℕ) → AreDistinct (before ++ n ∷ ns) → list_any (bytes_eq n) before ≡ false
name-new before ns n h =
    false_from_ne_true (list_any (bytes_eq n) before) (λ e.
    let found = Any-from_list_any (bytes_eq n) before e in
    let k : ℕ = found.0 in
    let x : List ℕ = found.1 in
    let same : n ≡ x = (bytes_eq-Decides n x).0 found.4 in
    let inside : length before < length (before ++ n ∷ ns) = simp length-append (omega arith) in
    h k (length before) x found.2 inside (get_or_append_left before (n ∷ ns) x k found.2 ∙ found.3 ∙ sym same ∙ sym (get_or-append_seam before n ns x)))

names-unrefused : (k : ℕ) (before ns : List (List ℕ)) → AreDistinct (before ++ ns) → names_refusal k before ns ≡ None
names-unrefused k before [] h = refl
names-unrefused k before (n ∷ ns) h =
    both-none _ _ (not-refused _ _ (name-new before ns n h))
    (names-unrefused (k + 1) (before ++ n ∷ []) ns (subst AreDistinct (sym (append_assoc before (n ∷ []) ns)) h))

pub parts-unrefused : (columns : List ColumnPart) (rows : List Row) (constant : ℤ) → AreParts columns rows constant → refusal columns rows constant ≡ None
parts-unrefused columns rows constant a =
    let n : length (map column_made columns) ≡ length columns = length-map columns column_made in
    both-none _ _
    (both-none _ _ (not-refused _ _ (le-ltb 1000 (length columns) (rw (← n) a.limits.few_columns)))
    (both-none _ _ (not-refused _ _ (le-ltb 1000 (length rows) a.limits.few_rows))
    (not-refused _ _ (le-ltb 100000 (entry_count rows) a.limits.few_entries))))
    (both-none _ _
    (both-none _ _ (columns-unrefused 0 columns a.sides a.limits.columns)
    (both-none _ _ (rows-unrefused (length columns) 0 rows (subst (λ (m : ℕ). All (IsRow m) rows) n a.limits.rows))
    (not-refused _ _ (not-above (10 ^ 15) constant a.limits.constant))))
    (both-none _ _ (names-unrefused 0 [] (map (λ (c : ColumnPart). c.name) columns) a.column_names)
    (names-unrefused 0 [] (map (λ (r : Row). r.name) rows) a.row_names)))
