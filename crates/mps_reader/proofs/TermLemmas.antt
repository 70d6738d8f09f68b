-- What a pair of COLUMNS does to the rows.
use Rattle.std.proofs.Common.{◌≡◌, ◌∙◌, ap, sym, subst, ℕ, ℤ, pos, ◌+◌, ◌-◌, ◌<◌, ◌≤◌, Bool, true, false, ◌||◌, ◌&&◌, not, cond, nat_lt, nat_le, unsigned_abs, List, [], ◌∷◌, ◌++◌, length, get_or, set, Option, Some, None, refl, arith, Bor, inl, inr, FitsSigned, w64, of_z, to_z, append-nil, add-zero}
use Rattle.std.specs.Prelude.{IfSome, bytes_eq, if◌then◌else◌, ◌^◌, unwrap_or}
use Rattle.std.specs.List.{position, sum_by}
use Rattle.std.proofs.lemmas.Bool.{true≢false, and_left, and_right, cases_lt, lt-ltb, le-ltb, le-leb, lt-leb, eq-eqb, leb-false}
use Rattle.std.proofs.lemmas.List.{append_assoc, length_push}
use Rattle.std.proofs.lemmas.Int.{ints, to_z-of_z}
use Rattle.mps_reader.specs.MpsLines.{Line, Entry, is_dropped, is_kept, is_objective, is_one_of, last_of}
use Rattle.mps_reader.specs.MpsRules.{is_row, or_else, first_kind, number_kind, is_nonzero, term_kind, term_count, entries_kind}
use Rattle.mps_reader.specs.MpsModels.{number_or_zero}
use Rattle.mps_reader.specs.Faults.{IsFault}
use Rattle.mps_reader.specs.Tables.{IsAlong, texts_of, IsTable}
use Rattle.mps_reader.specs.ColumnNumbers.{makes_term, is_unread, is_column, number_for_kind}
use Rattle.mps_reader.specs.RowStates.{HasRole, HasLast, RowsAgree, EntriesAgree, entry_with, is_given, is_objective_role, terms_for, term_weight}
use Rattle.mps_reader.specs.ColumnSteps.{HasSameSides, TakesTerms, RefusesTerms}
use Rattle.mps_reader.specs.declared.row_draft.RowDraft.{RowDraft}
use Rattle.mps_reader.specs.declared.row_draft.RowRole.{RowRole}
use Rattle.mps_reader.specs.declared.row_draft.RowRole.TheVariants.{Objective, Dropped, Kept}
use Rattle.mps_reader.specs.declared.fault.Fault.{Fault}
use Rattle.mps_reader.specs.declared.fault.Fault.TheVariants.{Refused, Memory}
use Rattle.mps_reader.specs.declared.MpsKind.{MpsKind}
use Rattle.mps_reader.specs.declared.MpsKind.TheVariants.{Duplicate, UnknownRow, TooMany}
use Rattle.mps_reader.proofs.OpeningLemmas.{or-true, last_in}
use Rattle.mps_reader.proofs.TableLemmas.{table_get, table_set, table_along, map_along, place_has}
use Rattle.mps_reader.proofs.EntryLemmas.{one_kind, first_entry, next_entry, entry_other, entry_own, given_other, is_given-push, term_added, nonzero_is, number_other}
use Rattle.mps_reader.proofs.RoleLemmas.{is_row-names}
use Rattle.mps_reader.proofs.SideLemmas.{placed, differs, role_as}
use Rattle.mps_reader.specs.RowTables.{sense_with}
use Rattle.mps_reader.proofs.TermLists.{terms_added, terms_same}
use Rattle.std.proofs.lemmas.List.Sums.{sum_by-set}

-- ---- the kind

dropped_unread : (r : RowRole) → (not (makes_term r) && not (is_objective_role r)) ≡ is_unread r
dropped_unread Objective = refl
dropped_unread Dropped = refl
dropped_unread (Kept s) = refl

pub dropped_is : (ls : List Line) (n : List ℕ) (row : RowDraft) → HasRole ls n row → is_dropped ls n ≡ is_unread row.role
dropped_is ls n row h = ap (λ f. f && not (is_objective ls n)) h.free ∙ ap (λ o. not (makes_term row.role) && not o) h.objective ∙ dropped_unread row.role

unless_unread : (b c d : Bool) (o : Option MpsKind) → (b ≡ false → c ≡ d) → (if b then None else or_else (first_kind ((c, Duplicate) ∷ [])) o) ≡ (if b then None else or_else (first_kind ((d, Duplicate) ∷ [])) o)
unless_unread true c d o e = refl
unless_unread false c d o e = ap (λ x. or_else (first_kind ((x, Duplicate) ∷ [])) o) (e refl)

more_than : (count : ℕ) → nat_lt 100000 (count + 1) ≡ nat_le 100000 count
more_than count = elim (cases_lt count 100000) [
  | inl below ↦ le-ltb 100000 (count + 1) (omega arith) ∙ sym (lt-leb 100000 count (omega arith))
  | inr above ↦ lt-ltb 100000 (count + 1) (omega arith) ∙ sym (le-leb 100000 count above)
]

too_many : (K Z : Bool) (count : ℕ) → count ≤ 100000 → (nat_lt 100000 (count + cond (K && Z) 1 0) && K) ≡ (K && Z && nat_le 100000 count)
too_many false Z count few = and_right (nat_lt 100000 (count + 0)) false refl
too_many true true count few = ap (λ b. b && true) (more_than count) ∙ and_true (nat_le 100000 count)
  where
    and_true : (b : Bool) → (b && true) ≡ b
    and_true true = refl
    and_true false = refl
too_many true false count few = ap (λ b. b && true) (le-ltb 100000 (count + 0) (omega arith))

by_role : (R : RowRole) (G Z L : Bool) (o : Option MpsKind) → or_else (if is_unread R then None else or_else (first_kind ((G, Duplicate) ∷ [])) o) (first_kind ((makes_term R && Z && L, TooMany) ∷ [])) ≡ (if is_unread R then None else or_else (or_else (first_kind ((G, Duplicate) ∷ [])) o) (first_kind ((makes_term R && Z && L, TooMany) ∷ [])))
by_role Objective G Z L o = refl
by_role Dropped G Z L o = refl
by_role (Kept s) G Z L o = refl

given_none : (G : Bool) (o p : Option MpsKind) → or_else (or_else (first_kind ((G, Duplicate) ∷ [])) o) p ≡ None → G ≡ false
given_none true o p e = absurd (cc)
given_none false o p e = refl

first_given : (b G : Bool) (o p : Option MpsKind) → b ≡ false → (if b then None else or_else (or_else (first_kind ((G, Duplicate) ∷ [])) o) p) ≡ None → G ≡ false
first_given true G o p reads e = absurd (true≢false reads)
first_given false G o p reads e = given_none G o p e

many_none : (b : Bool) (o : Option MpsKind) → or_else o (first_kind ((b, TooMany) ∷ [])) ≡ None → b ≡ false
many_none false o e = refl
many_none true None e = absurd (cc)
many_none true (Some k) e = absurd (cc)

room_of : (R : RowRole) (G Z : Bool) (count : ℕ) (o : Option MpsKind) → count ≤ 100000 → (if is_unread R then None else or_else (or_else (first_kind ((G, Duplicate) ∷ [])) o) (first_kind ((makes_term R && Z && nat_le 100000 count, TooMany) ∷ []))) ≡ None → count + cond (makes_term R && Z) 1 0 ≤ 100000
room_of Objective G Z count o few e = omega arith
room_of Dropped G Z count o few e = omega arith
room_of (Kept s) G false count o few e = omega arith
room_of (Kept s) G true count o few e =
    let less : count < 100000 = leb-false 100000 count (many_none (nat_le 100000 count) (or_else (first_kind ((G, Duplicate) ∷ [])) o) e) in
    omega arith

weight_then : (R : RowRole) (Z : Bool) (ts us : List (ℕ × ℤ)) (t : ℕ × ℤ) → (is_unread R ≡ false → us ≡ ts ++ cond Z (t ∷ []) []) → terms_for R us ≡ terms_for R ts + cond (makes_term R && Z) 1 0
weight_then Objective Z ts us t listed = omega arith
weight_then Dropped Z ts us t listed = omega arith
weight_then (Kept s) true ts us t listed = ap length (listed refl) ∙ length_push ts t
weight_then (Kept s) false ts us t listed = ap length (listed refl ∙ append-nil ts) ∙ sym (add-zero (length ts))

weight_set : (names : List (List ℕ)) (old : List RowDraft) (k : ℕ) (r new : RowDraft) (count new_count : ℕ) (Z : Bool) (t : ℕ × ℤ) (n : List ℕ) {Q : List ℕ → RowDraft → Type 0} → position (bytes_eq n) names ≡ Some k → IsTable Q names old → r ≡ get_or old k r → new.role ≡ r.role → sum_by term_weight old ≡ count → new_count ≡ count + cond (makes_term r.role && Z) 1 0 → (is_unread r.role ≡ false → new.terms.items ≡ r.terms.items ++ cond Z (t ∷ []) []) → sum_by term_weight (set old k new) ≡ new_count
weight_set names old k r new count new_count Z t n at table read role total counts listed =
    let within : k < length old = omega (arith, table.size, (place_has names n k at).0) in
    let sums : sum_by term_weight (set old k new) + term_weight (get_or old k r) ≡ sum_by term_weight old + term_weight new = sum_by-set term_weight old k new r within in
    let before : term_weight (get_or old k r) ≡ term_weight r = ap term_weight (sym read) in
    let after : term_weight new ≡ term_weight r + cond (makes_term r.role && Z) 1 0 = ap (λ R. terms_for R new.terms.items) role ∙ weight_then r.role Z r.terms.items new.terms.items t listed in
    omega (arith, sums, before, after, total, counts)

module _ (names : List (List ℕ)) (old : List RowDraft) (k : ℕ) (r : RowDraft) (n text : List ℕ) (column count : ℕ) (at : position (bytes_eq n) names ≡ Some k) (read : r ≡ get_or old k r) (ls : List Line) (es : List Entry) (columns : List (List ℕ)) (owner : List ℕ) (rows : RowsAgree names old ls) (agree : EntriesAgree names old columns count ls es) (ends : last_of columns ≡ Some owner) (size : length columns ≡ column + 1) where
  role_here : HasRole ls n r
  role_here = subst (λ (x : RowDraft). HasRole ls n x) (sym read) (table_get (HasRole ls) names old n k r rows.roles at).1

  last_here : HasLast columns es n r
  last_here = subst (λ (x : RowDraft). HasLast columns es n x) (sym read) (table_get (HasLast columns es) names old n k r agree.last at).1

  is_here : is_row ls n ≡ true
  is_here = is_row-names ls n ∙ ap (λ w. is_one_of w n) (sym rows.called) ∙ placed names n k at

  behind : length columns - 1 ≡ column
  behind = omega (arith, size)

  given_here : is_unread r.role ≡ false → is_given es owner n ≡ is_column r.last_column column
  given_here reads = sym (last_here.same owner ends reads) ∙ ap (is_column r.last_column) behind

  counted_then : term_count ls (es ++ entry_with owner n text ∷ []) ≡ count + cond (makes_term r.role && is_nonzero text) 1 0
  counted_then = term_added ls es (entry_with owner n text) ∙ ap (λ c. c + cond (is_kept ls n && is_nonzero text) 1 0) (sym agree.counted) ∙ ap (λ b. count + cond (b && is_nonzero text) 1 0) role_here.kept

  kind_here : term_kind ls es (entry_with owner n text) ≡ number_for_kind r.role (is_column r.last_column column) count text
  kind_here =
      ap (λ b. or_else (if b then (if is_dropped ls n then None else or_else (first_kind ((is_given es owner n, Duplicate) ∷ [])) (number_kind (10 ^ 9) text)) else Some UnknownRow) (first_kind ((nat_lt 100000 (term_count ls (es ++ entry_with owner n text ∷ [])) && is_kept ls n, TooMany) ∷ []))) is_here
      ∙ ap (λ b. or_else (if b then None else or_else (first_kind ((is_given es owner n, Duplicate) ∷ [])) (number_kind (10 ^ 9) text)) (first_kind ((nat_lt 100000 (term_count ls (es ++ entry_with owner n text ∷ [])) && is_kept ls n, TooMany) ∷ []))) (dropped_is ls n r role_here)
      ∙ ap (λ o. or_else o (first_kind ((nat_lt 100000 (term_count ls (es ++ entry_with owner n text ∷ [])) && is_kept ls n, TooMany) ∷ []))) (unless_unread (is_unread r.role) (is_given es owner n) (is_column r.last_column column) (number_kind (10 ^ 9) text) given_here)
      ∙ ap (λ t. or_else (if is_unread r.role then None else or_else (first_kind ((is_column r.last_column column, Duplicate) ∷ [])) (number_kind (10 ^ 9) text)) (first_kind ((nat_lt 100000 t && is_kept ls n, TooMany) ∷ []))) counted_then
      ∙ ap (λ b. or_else (if is_unread r.role then None else or_else (first_kind ((is_column r.last_column column, Duplicate) ∷ [])) (number_kind (10 ^ 9) text)) (first_kind ((nat_lt 100000 (count + cond (makes_term r.role && is_nonzero text) 1 0) && b, TooMany) ∷ []))) role_here.kept
      ∙ ap (λ b. or_else (if is_unread r.role then None else or_else (first_kind ((is_column r.last_column column, Duplicate) ∷ [])) (number_kind (10 ^ 9) text)) (first_kind ((b, TooMany) ∷ []))) (too_many (makes_term r.role) (is_nonzero text) count agree.few)
      ∙ by_role r.role (is_column r.last_column column) (is_nonzero text) (nat_le 100000 count) (number_kind (10 ^ 9) text)

  pub term_refused_at : (kind : MpsKind) → number_for_kind r.role (is_column r.last_column column) count text ≡ Some kind → entries_kind (term_kind ls) es (entry_with owner n text ∷ []) ≡ Some kind
  term_refused_at kind e = one_kind (term_kind ls) es (entry_with owner n text) ∙ kind_here ∙ e

  pub term_taken_at : (new : RowDraft) (new_count : ℕ) → number_for_kind r.role (is_column r.last_column column) count text ≡ None → new.role ≡ r.role → (is_unread r.role ≡ false → new.last_column ≡ Some column) → ((j : ℕ) → new.last_column ≡ Some j → j < length columns) → new_count ≡ count + cond (makes_term r.role && is_nonzero text) 1 0 → (is_unread r.role ≡ false → new.terms.items ≡ r.terms.items ++ cond (is_nonzero text) ((column, number_or_zero text) ∷ []) []) → (entries_kind (term_kind ls) es (entry_with owner n text ∷ []) ≡ None) × EntriesAgree names (set old k new) columns new_count ls (es ++ entry_with owner n text ∷ [])
  term_taken_at new new_count good role given below counts listed =
      let e : Entry = entry_with owner n text in
      let here : HasLast columns (es ++ e ∷ []) n new = record {
        same = λ o at_last reads.
            let unread : is_unread r.role ≡ false = ap is_unread (sym role) ∙ reads in
            let mine : o ≡ owner = some_same o owner (sym at_last ∙ ends) in
            let left : is_column new.last_column (length columns - 1) ≡ true = ap (is_column new.last_column) behind ∙ ap (λ l. is_column l column) (given unread) ∙ eq-eqb column column refl in
            let right : is_given (es ++ e ∷ []) owner n ≡ true = is_given-push es e owner n ∙ ap (λ b. is_given es owner n || b) (entry_own e) ∙ or-true (is_given es owner n) in
            left ∙ sym right ∙ ap (λ w. is_given (es ++ e ∷ []) w n) (sym mine);
        below = below;
        terms = λ reads.
            let unread : is_unread r.role ≡ false = ap is_unread (sym role) ∙ reads in
            let first : is_given es owner n ≡ false = given_here unread ∙ first_given (is_unread r.role) (is_column r.last_column column) (number_kind (10 ^ 9) text) (first_kind ((makes_term r.role && is_nonzero text && nat_le 100000 count, TooMany) ∷ [])) unread good in
            listed unread ∙ ap (λ ts. ts ++ cond (is_nonzero text) ((column, number_or_zero text) ∷ []) []) (last_here.terms unread) ∙ sym (terms_added es columns owner n text column ends agree.apart size first);
      } in (
        one_kind (term_kind ls) es e ∙ kind_here ∙ good,
        record {
          last = table_set (HasLast columns es) (HasLast columns (es ++ e ∷ [])) names old n k new rows.distinct at agree.last here
              (λ m y other h. record { same = λ o at_last reads. h.same o at_last reads ∙ sym (given_other es e o m (entry_other e o m other)); below = h.below; terms = λ reads. h.terms reads ∙ sym (terms_same 0 es (es ++ e ∷ []) columns m (λ c. ap (λ g. unwrap_or g (pos 0)) (number_other es e c m (entry_other e c m other)))) });
          rows_known = λ m absent o. given_other es e o m (entry_other e o m (differs names n m (placed names n k at) absent)) ∙ agree.rows_known m absent o;
          owners_known = λ o absent m. given_other es e o m (and_left (bytes_eq owner o) (bytes_eq n m) (differs columns owner o (last_in columns owner ends) absent)) ∙ agree.owners_known o absent m;
          counted = counts ∙ sym counted_then;
          few = subst (λ (c : ℕ). c ≤ 100000) (sym counts) (room_of r.role (is_column r.last_column column) (is_nonzero text) count (number_kind (10 ^ 9) text) agree.few good);
          apart = agree.apart;
          total = weight_set names old k r new count new_count (is_nonzero text) (column, number_or_zero text) n at agree.last read role agree.total counts listed;
        },
      )
    where
      some_same : (o p : List ℕ) → Some o ≡ Some p → o ≡ p
      some_same o p e = cc

module _ (keys : List (Bor (List ℕ))) (old : List RowDraft) (k : ℕ) (r : RowDraft) (n text : List ℕ) (column count : ℕ) (at : position (bytes_eq n) (texts_of keys) ≡ Some k) (read : r ≡ get_or old k r) where
  -- a number that is noted
  pub term_taken : (new : RowDraft) (new_count : ℕ) → number_for_kind r.role (is_column r.last_column column) count text ≡ None → new.role ≡ r.role → new.last_column ≡ Some column → new_count ≡ count + cond (makes_term r.role && is_nonzero text) 1 0 → new.terms.items ≡ r.terms.items ++ cond (is_nonzero text) ((column, number_or_zero text) ∷ []) [] → TakesTerms keys column old count (set old k new) new_count (n ∷ text ∷ [])
  term_taken new new_count good role noted counts listed = λ ls es columns owner rows agree last size.
      term_taken_at (texts_of keys) old k r n text column count at read ls es columns owner rows agree last size new new_count good role (λ reads. noted)
      (λ j e. let same : column ≡ j = column_same column j (sym noted ∙ e) in omega (arith, same, size)) counts (λ reads. listed)
    where
      column_same : (i j : ℕ) → Some i ≡ Some j → i ≡ j
      column_same i j e = cc

  -- a number that is not read
  pub term_unread : number_for_kind r.role (is_column r.last_column column) count text ≡ None → is_unread r.role ≡ true → TakesTerms keys column old count (set old k r) count (n ∷ text ∷ [])
  term_unread good unread = λ ls es columns owner rows agree last size.
      let below = (last_here (texts_of keys) old k r n text column count at read ls es columns owner rows agree last size).below in
      term_taken_at (texts_of keys) old k r n text column count at read ls es columns owner rows agree last size r count good refl (λ reads. absurd (true≢false (sym unread ∙ reads))) below (no_term r.role (is_nonzero text) count unread) (λ reads. absurd (true≢false (sym unread ∙ reads)))
    where
      no_term : (R : RowRole) (Z : Bool) (c : ℕ) → is_unread R ≡ true → c ≡ c + cond (makes_term R && Z) 1 0
      no_term Objective Z c e = absurd (true≢false (sym e))
      no_term Dropped Z c e = omega arith
      no_term (Kept s) Z c e = absurd (true≢false (sym e))

  pub term_refused : (kind : MpsKind) → number_for_kind r.role (is_column r.last_column column) count text ≡ Some kind → RefusesTerms keys column old count (n ∷ text ∷ []) (Refused kind)
  term_refused kind bad = λ ls es columns owner rows agree last size. term_refused_at (texts_of keys) old k r n text column count at read ls es columns owner rows agree last size kind bad

pub term_unknown : (keys : List (Bor (List ℕ))) (old : List RowDraft) (n text : List ℕ) (column count : ℕ) → is_one_of (texts_of keys) n ≡ false → RefusesTerms keys column old count (n ∷ text ∷ []) (Refused UnknownRow)
term_unknown keys old n text column count absent = λ ls es columns owner rows agree last size.
    let e : Entry = entry_with owner n text in
    let not_row : is_row ls n ≡ false = is_row-names ls n ∙ ap (λ w. is_one_of w n) (sym rows.called) ∙ absent in
    one_kind (term_kind ls) es e ∙ ap (λ b. or_else (if b then (if is_dropped ls n then None else or_else (first_kind ((is_given es owner n, Duplicate) ∷ [])) (number_kind (10 ^ 9) text)) else Some UnknownRow) (first_kind ((nat_lt 100000 (term_count ls (es ++ e ∷ [])) && is_kept ls n, TooMany) ∷ []))) not_row

-- ---- two pairs

pub roles_along : (names : List (List ℕ)) (old new : List RowDraft) (ls : List Line) → IsAlong HasSameSides old new → RowsAgree names old ls → RowsAgree names new ls
roles_along names old new ls along rows = record {
  called = rows.called;
  distinct = rows.distinct;
  roles = table_along HasSameSides (HasRole ls) (HasRole ls) names old new (λ m x y r h. role_as ls m x y r.role r.name h) along rows.roles;
  senses = map_along HasSameSides (λ row. sense_with row.role) old new (λ x y r. ap sense_with r.role) along ∙ rows.senses;
}

module _ (keys others : List (Bor (List ℕ))) (column : ℕ) (old middle : List RowDraft) (count middle_count : ℕ) (a b x y : List ℕ) (same : others ≡ keys) where
  pub terms_taken : (new : List RowDraft) (new_count : ℕ) → TakesTerms keys column old count middle middle_count (a ∷ b ∷ []) → IsAlong HasSameSides old middle → TakesTerms others column middle middle_count new new_count (x ∷ y ∷ []) → TakesTerms keys column old count new new_count (a ∷ b ∷ x ∷ y ∷ [])
  terms_taken new new_count one along two = λ ls es columns owner rows agree last size.
      let p = one ls es columns owner rows agree last size in
      let two_here = subst (λ (k : List (Bor (List ℕ))). TakesTerms k column middle middle_count new new_count (x ∷ y ∷ [])) same two in
      let q = two_here ls (es ++ entry_with owner a b ∷ []) columns owner (roles_along (texts_of keys) old middle ls along rows) p.1 last size in (
        next_entry (term_kind ls) es (entry_with owner a b) (entry_with owner x y ∷ []) (sym (one_kind (term_kind ls) es (entry_with owner a b)) ∙ p.0) ∙ q.0,
        subst (λ (all : List Entry). EntriesAgree (texts_of keys) new columns new_count ls all) (append_assoc es (entry_with owner a b ∷ []) (entry_with owner x y ∷ [])) q.1,
      )

  pub second_term_refused : (fault : Fault) → TakesTerms keys column old count middle middle_count (a ∷ b ∷ []) → IsAlong HasSameSides old middle → RefusesTerms others column middle middle_count (x ∷ y ∷ []) fault → RefusesTerms keys column old count (a ∷ b ∷ x ∷ y ∷ []) fault
  second_term_refused fault one along two = λ ls es columns owner rows agree last size.
      let p = one ls es columns owner rows agree last size in
      let two_here = subst (λ (k : List (Bor (List ℕ))). RefusesTerms k column middle middle_count (x ∷ y ∷ []) fault) same two in
      subst (λ (o : Option MpsKind). IsFault fault o) (sym (next_entry (term_kind ls) es (entry_with owner a b) (entry_with owner x y ∷ []) (sym (one_kind (term_kind ls) es (entry_with owner a b)) ∙ p.0)))
      (two_here ls (es ++ entry_with owner a b ∷ []) columns owner (roles_along (texts_of keys) old middle ls along rows) p.1 last size)

first_fault : (kind : List Entry → Entry → Option MpsKind) (before : List Entry) (e : Entry) (es : List Entry) (fault : Fault) → IsFault fault (entries_kind kind before (e ∷ [])) → IsFault fault (entries_kind kind before (e ∷ es))
first_fault kind before e es (Refused k) h = first_entry kind before e es k (sym (one_kind kind before e) ∙ h)
first_fault kind before e es Memory h = tt

pub first_term_refused : (keys : List (Bor (List ℕ))) (column : ℕ) (old : List RowDraft) (count : ℕ) (a b x y : List ℕ) (fault : Fault) → RefusesTerms keys column old count (a ∷ b ∷ []) fault → RefusesTerms keys column old count (a ∷ b ∷ x ∷ y ∷ []) fault
first_term_refused keys column old count a b x y fault one = λ ls es columns owner rows agree last size.
    first_fault (term_kind ls) es (entry_with owner a b) (entry_with owner x y ∷ []) fault (one ls es columns owner rows agree last size)

-- ---- what the code tests

pub unread_of : (b : Bool) (z : ℤ) (o : Option ℤ) → o ≡ (if b then None else Some z) → o ≡ None → b ≡ true
unread_of true z o e none = refl
unread_of false z o e none = absurd (cc)

pub value_of : (b : Bool) (y z : ℤ) (o : Option ℤ) → o ≡ (if b then None else Some z) → o ≡ Some y → y ≡ z
value_of true y z o e some = absurd (cc)
value_of false y z o e some = cc

pub listed_more : (Z : Bool) (ts us : List (ℕ × ℤ)) (column : ℕ) (v z : ℤ) → Z ≡ true → v ≡ z → us ≡ ts ++ (column, v) ∷ [] → us ≡ ts ++ cond Z ((column, z) ∷ []) []
listed_more Z ts us column v z e same pushed = pushed ∙ ap (λ w. ts ++ (column, w) ∷ []) same ∙ ap (λ b. ts ++ cond b ((column, z) ∷ []) []) (sym e)

pub listed_same : (Z : Bool) (ts : List (ℕ × ℤ)) (column : ℕ) (z : ℤ) → Z ≡ false → ts ≡ ts ++ cond Z ((column, z) ∷ []) []
listed_same Z ts column z e = sym (append-nil ts) ∙ ap (λ b. ts ++ cond b ((column, z) ∷ []) []) (sym e)

pub count_with : (R : RowRole) (Z : Bool) (c n : ℕ) → Z ≡ true → n ≡ c + cond (makes_term R) 1 0 → n ≡ c + cond (makes_term R && Z) 1 0
count_with R Z c n e h = h ∙ ap (λ b. c + cond b 1 0) (sym (ap (λ z. makes_term R && z) e ∙ and_true (makes_term R)))
  where
    and_true : (b : Bool) → (b && true) ≡ b
    and_true true = refl
    and_true false = refl

pub count_same : (R : RowRole) (Z : Bool) (c : ℕ) → (makes_term R && Z) ≡ false → c ≡ c + cond (makes_term R && Z) 1 0
count_same R Z c e = rw e (omega arith)

above_zero : (z : ℤ) → (z ≡ pos 0 → ⊥) → 0 < unsigned_abs z
above_zero z ne = omega (arith, ints, ne)

pub is_number : (text : List ℕ) (z : ℤ) → z ≡ number_or_zero text → (of_z w64 z ≡ 0 → ⊥) → is_nonzero text ≡ true
is_number text z same ne = nonzero_is text ∙ ap (λ v. nat_lt 0 (unsigned_abs v)) (sym same) ∙ lt-ltb 0 (unsigned_abs z) (above_zero z (λ e. ne (ap (of_z w64) e)))

pub is_no_number : (text : List ℕ) (z : ℤ) → unsigned_abs z ≤ 1000000000 → z ≡ number_or_zero text → of_z w64 z ≡ 0 → is_nonzero text ≡ false
is_no_number text z limit same e =
    let fits : FitsSigned w64 z = omega (arith, ints, limit) in
    let zero : z ≡ pos 0 = sym (to_z-of_z w64 z fits) ∙ ap (to_z w64) e in
    nonzero_is text ∙ ap (λ v. nat_lt 0 (unsigned_abs v)) (sym same ∙ zero)

pub some_limit : (o : Option ℤ) (z : ℤ) → o ≡ Some z → IfSome o (λ v. unsigned_abs v ≤ 1000000000) → unsigned_abs z ≤ 1000000000
some_limit o z e h = let at_some = rw e at h in at_some
