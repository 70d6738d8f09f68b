-- The lines of bounds are accepted, and each column has one at the end.
use Rattle.std.proofs.Common.{◌≡◌, ◌∙◌, ap, sym, refl, subst, ℕ, zero, suc, ◌+◌, ◌^◌, ◌<◌, ◌≤◌, ◌⊎◌, inl, inr, true, false, List, [], ◌∷◌, ◌++◌, map, filter, codes, None, append-nil, arith}
use Rattle.std.specs.Prelude.{filter_map}
use Rattle.std.specs.List.{list_all, range_with_len}
use Rattle.std.specs.Str.{bytes_eq}
use Rattle.std.proofs.Math.Nat.{eq-or-lt_of_le}
use Rattle.std.proofs.lemmas.List.Elements.{filter-append}
use Rattle.num_text.specs.Words.{is_one_of}
use Rattle.mps_reader.specs.MpsLines.{Line, data_of, column_names, integer_names, set_of, bound_column}
use Rattle.mps_reader.specs.MpsRules.{line_kind, is_second}
use Rattle.mps_reader.specs.MpsModels.{column_end_kind, end_kind}
use Rattle.mps_reader.proofs.OpeningLemmas.{headers_of-data, direction_words-append, filter_map-append, bytes_eq-refl}
use Rattle.model_gen.specs.Texts.{column_name, bound_line}
use Rattle.made_problems.proofs.LineTexts.{is_word}
use Rattle.made_problems.proofs.NumberTexts.{name_word, names_apart}
use Rattle.made_problems.proofs.NameTexts.{names, name_is_there, among_names}
use Rattle.made_problems.proofs.Triples.{Leads}
use Rattle.made_problems.proofs.ModelLines.{run, IsIn, data_leads, grown_section}
use Rattle.made_problems.proofs.ModelFacts.{HasBound, BoundFacts, Facts, rows_stay, columns_stay, sides_stay}
use Rattle.made_problems.proofs.SideLines.{second_stays}

abbrev bound_at : ℕ → ℕ → Line
bound_at n j = record { number = n; section = codes "BOUNDS"; header = false; fields = codes "UP" ∷ codes "bnd" ∷ column_name j ∷ codes "9" ∷ [] }

bound_accepted : (headers : List (List ℕ)) (r c h j n : ℕ) (earlier : List Line) → j < c → Facts headers r c h j earlier → line_kind earlier (bound_at n j) ≡ None
bound_accepted headers r c h j n earlier there f =
    let known : is_one_of (column_names earlier) (column_name j) ≡ true = ap (λ (ws : List (List ℕ)). is_one_of ws (column_name j)) f.columns.named ∙ among_names (column_name j) (names column_name c) true (name_is_there column_name c j there) in
    rw (f.bounds.set, known) refl

-- a further bound is of one column alone
other_bound : (j b n : ℕ) (bounds : List Line) → j < 2 ^ 63 → b < 2 ^ 63 → (b ≡ j → ⊥) → filter (λ l. bytes_eq (bound_column l) (column_name j)) (bounds ++ bound_at n b ∷ []) ≡ filter (λ l. bytes_eq (bound_column l) (column_name j)) bounds
other_bound j b n bounds h k apart =
    filter-append (λ l. bytes_eq (bound_column l) (column_name j)) bounds (bound_at n b ∷ []) ∙ rw (names_apart 99 b j k h apart) (append-nil (filter (λ l. bytes_eq (bound_column l) (column_name j)) bounds))

own_bound : (b n : ℕ) (bounds : List Line) → filter (λ l. bytes_eq (bound_column l) (column_name b)) bounds ≡ [] → filter (λ l. bytes_eq (bound_column l) (column_name b)) (bounds ++ bound_at n b ∷ []) ≡ bound_at n b ∷ []
own_bound b n bounds none =
    filter-append (λ l. bytes_eq (bound_column l) (column_name b)) bounds (bound_at n b ∷ []) ∙ rw (none, bytes_eq-refl (column_name b)) refl

each_then : (b n j : ℕ) (bounds : List Line) → BoundFacts b bounds → suc b < 2 ^ 63 → (j ≡ b) ⊎ (j < b) → HasBound j (bounds ++ bound_at n b ∷ [])
each_then b n j bounds f few (inl same) =
    subst (λ (k : ℕ). HasBound k (bounds ++ bound_at n b ∷ [])) (sym same) (record { line = bound_at n b; only = own_bound b n bounds (f.none b (omega arith) (omega arith)); fields = refl })
each_then b n j bounds f few (inr less) =
    let has = f.each j less (omega arith) in
    record { line = has.line; only = other_bound j b n bounds (omega arith) (omega arith) (λ e. omega arith) ∙ has.only; fields = has.fields }

bound_then : (b n : ℕ) (bounds : List Line) → BoundFacts b bounds → BoundFacts (suc b) (bounds ++ bound_at n b ∷ [])
bound_then b n bounds f = record {
  set = ap (λ (ws : List (List ℕ)). is_second ws (codes "bnd")) (filter_map-append (set_of (codes "BOUNDS")) bounds (bound_at n b ∷ [])) ∙ second_stays (codes "bnd") (filter_map (set_of (codes "BOUNDS")) bounds) f.set;
  each = λ j h few. each_then b n j bounds f few (eq-or-lt_of_le (at_last j h));
  none = λ j h few. other_bound j b n bounds few (omega arith) (λ e. omega arith) ∙ f.none j (omega arith) few;
}
  where
    at_last : (j : ℕ) → j < suc b → j ≤ b
    at_last j h = omega arith

bound_added : (headers : List (List ℕ)) (r c h b n : ℕ) (earlier : List Line) → Facts headers r c h b earlier → Facts headers r c h (suc b) (earlier ++ bound_at n b ∷ [])
bound_added headers r c h b n earlier f =
    let l : Line = bound_at n b in
    record {
      headed = headers_of-data earlier l refl ∙ f.headed;
      directions = direction_words-append earlier (l ∷ []) ∙ rw (f.directions) refl;
      rows = rows_stay r earlier l refl f.rows;
      columns = columns_stay c earlier l refl f.columns;
      sides = sides_stay h earlier l refl f.sides;
      bounds = subst (BoundFacts (suc b)) (sym (grown_section (codes "BOUNDS") earlier l refl)) (bound_then b n (data_of (codes "BOUNDS") earlier) f.bounds);
    }

pub bound_leads : (last : ℕ) (headers : List (List ℕ)) (r c h j : ℕ) → j < c → c ≤ 1000 → Leads (run last) (IsIn (codes "BOUNDS") (Facts headers r c h j)) (bound_line j) (IsIn (codes "BOUNDS") (Facts headers r c h (suc j)))
unfolding bound_line
bound_leads last headers r c h j there few =
    let words : list_all is_word (codes "UP" ∷ codes "bnd" ∷ column_name j ∷ codes "9" ∷ []) ≡ true = rw (name_word 99 j refl (omega arith)) refl in
    data_leads last (codes "BOUNDS") (Facts headers r c h j) (Facts headers r c h (suc j)) (codes "UP") (codes "bnd" ∷ column_name j ∷ codes "9" ∷ []) words (λ n earlier f. (bound_accepted headers r c h j n earlier there f, bound_added headers r c h j n earlier f))

-- ---- at the end

ended_column : (j : ℕ) (earlier : List Line) → is_one_of (integer_names earlier) (column_name j) ≡ true → HasBound j (data_of (codes "BOUNDS") earlier) → column_end_kind earlier (column_name j) ≡ None
ended_column j earlier integer bound = rw (integer, bound.only, bound.fields) refl

ended_columns : (a n : ℕ) (earlier : List Line) → ((j : ℕ) → j < a + n → column_end_kind earlier (column_name j) ≡ None) → end_kind earlier (map column_name (range_with_len a n)) ≡ None
ended_columns a zero earlier each = refl
ended_columns a (suc n) earlier each = rw (each a (omega arith)) (ended_columns (a + 1) n earlier (λ j h. each j (omega arith)))

pub ended : (headers : List (List ℕ)) (r c h : ℕ) (earlier : List Line) → c ≤ 1000 → Facts headers r c h c earlier → end_kind earlier (column_names earlier) ≡ None
ended headers r c h earlier few f =
    ap (end_kind earlier) f.columns.named
    ∙ ended_columns 0 c earlier (λ j there.
    let within : j < c = omega arith in
    ended_column j earlier (ap (λ (ws : List (List ℕ)). is_one_of ws (column_name j)) f.columns.integers ∙ among_names (column_name j) (names column_name c) true (name_is_there column_name c j within)) (f.bounds.each j within (omega arith)))
