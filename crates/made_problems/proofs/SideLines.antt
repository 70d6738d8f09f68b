-- The lines of right-hand sides are accepted.
use Rattle.std.proofs.Common.{◌≡◌, ◌∙◌, ap, sym, refl, subst, ℕ, suc, ◌^◌, ◌<◌, ◌≤◌, Bool, true, false, ◌&&◌, if◌then◌else◌, List, [], ◌∷◌, ◌++◌, map, codes, None, arith, decimal}
use Rattle.std.specs.Prelude.{flat_map, filter_map}
use Rattle.std.specs.List.{list_any, list_all}
use Rattle.std.specs.Str.{bytes_eq}
use Rattle.std.proofs.lemmas.Grind.{flat_map-append}
use Rattle.std.proofs.lemmas.List.{map-append}
use Rattle.mps_reader.specs.MpsLines.{Line, Entry, data_of, set_entries, entries_of, set_of, is_objective}
use Rattle.mps_reader.specs.MpsRules.{line_kind, number_kind, is_second}
use Rattle.mps_reader.proofs.HeaderLemmas.{list_any-map}
use Rattle.mps_reader.proofs.OpeningLemmas.{headers_of-data, direction_words-append, filter_map-append, bytes_eq-refl, or-parts}
use Rattle.model_gen.specs.Texts.{row_name, demand_line}
use Rattle.made_problems.proofs.LineTexts.{is_word}
use Rattle.made_problems.proofs.NumberTexts.{name_word, number_word}
use Rattle.made_problems.proofs.NameTexts.{names_more, name_is_new}
use Rattle.made_problems.proofs.Triples.{Leads}
use Rattle.made_problems.proofs.ModelLines.{run, IsIn, data_leads, grown_section}
use Rattle.made_problems.proofs.ModelFacts.{SideFacts, Facts, rows_stay, columns_stay, bounds_stay}
use Rattle.made_problems.proofs.RowLines.{number_accepted, row_known, row_not_dropped}

and_false : (t : Bool) → (t && false) ≡ false
and_false true = refl
and_false false = refl

-- tests of both an owner and a row fail where that of the row does
row_fails : (owner row : List ℕ) (es : List Entry) → list_any (λ (b : Entry). bytes_eq b.row row) es ≡ false → list_any (λ (b : Entry). bytes_eq b.owner owner && bytes_eq b.row row) es ≡ false
row_fails owner row [] h = refl
row_fails owner row (e ∷ es) h =
    let split = or-parts (bytes_eq e.row row) (list_any (λ (b : Entry). bytes_eq b.row row) es) h in
    rw (split.0, and_false (bytes_eq e.owner owner)) (row_fails owner row es split.1)

pub second_stays : (w : List ℕ) (sets : List (List ℕ)) → is_second sets w ≡ false → is_second (sets ++ w ∷ []) w ≡ false
second_stays w [] h = rw (bytes_eq-refl w) refl
second_stays w (first ∷ sets) h = h

side_number : (t : Bool) (n : ℕ) → n ≤ 10000 → number_kind (if t then 10 ^ 15 else 10 ^ 18) (decimal n) ≡ None
side_number true n h = number_accepted (10 ^ 15) n (omega arith) (omega arith)
side_number false n h = number_accepted (10 ^ 18) n (omega arith) (omega arith)

abbrev side_at : ℕ → ℕ → ℕ → Line
side_at n i number = record { number = n; section = codes "RHS"; header = false; fields = codes "rhs" ∷ row_name i ∷ decimal number ∷ [] }

side_accepted : (headers : List (List ℕ)) (r c i n number : ℕ) (earlier : List Line) → i < r → r ≤ 1000 → number ≤ 10000 → Facts headers r c i 0 earlier → line_kind earlier (side_at n i number) ≡ None
side_accepted headers r c i n number earlier h few small f =
    let es : List Entry = entries_of (codes "RHS") earlier in
    let other : list_any (λ (b : Entry). bytes_eq b.row (row_name i)) es ≡ false = sym (list_any-map (λ w. bytes_eq w (row_name i)) (λ (b : Entry). b.row) es) ∙ ap (λ (ws : List (List ℕ)). list_any (λ w. bytes_eq w (row_name i)) ws) f.sides.rows ∙ name_is_new 114 i i (omega arith) (omega arith) in
    let new : list_any (λ (b : Entry). bytes_eq b.owner [] && bytes_eq b.row (row_name i)) es ≡ false = row_fails [] (row_name i) es other in
    rw (f.sides.set, row_known r i earlier f.rows h, row_not_dropped r i earlier f.rows, new, side_number (is_objective earlier (row_name i)) number small) refl

side_then : (k n number : ℕ) (sides : List Line) → SideFacts k sides → SideFacts (suc k) (sides ++ side_at n k number ∷ [])
side_then k n number sides f =
    let l : Line = side_at n k number in
    let e : Entry = record { owner = []; row = row_name k; text = decimal number } in
    record {
      rows = ap (map (λ (b : Entry). b.row)) (flat_map-append set_entries sides (l ∷ [])) ∙ map-append (λ (b : Entry). b.row) (flat_map set_entries sides) (e ∷ []) ∙ ap (λ (ws : List (List ℕ)). ws ++ row_name k ∷ []) f.rows ∙ sym (names_more row_name k);
      set = ap (λ (ws : List (List ℕ)). is_second ws (codes "rhs")) (filter_map-append (set_of (codes "RHS")) sides (l ∷ [])) ∙ second_stays (codes "rhs") (filter_map (set_of (codes "RHS")) sides) f.set;
    }

side_added : (headers : List (List ℕ)) (r c k n number : ℕ) (earlier : List Line) → Facts headers r c k 0 earlier → Facts headers r c (suc k) 0 (earlier ++ side_at n k number ∷ [])
side_added headers r c k n number earlier f =
    let l : Line = side_at n k number in
    record {
      headed = headers_of-data earlier l refl ∙ f.headed;
      directions = direction_words-append earlier (l ∷ []) ∙ rw (f.directions) refl;
      rows = rows_stay r earlier l refl f.rows;
      columns = columns_stay c earlier l refl f.columns;
      sides = subst (SideFacts (suc k)) (sym (grown_section (codes "RHS") earlier l refl)) (side_then k n number (data_of (codes "RHS") earlier) f.sides);
      bounds = bounds_stay 0 earlier l refl f.bounds;
    }

pub side_leads : (last : ℕ) (headers : List (List ℕ)) (r c i number : ℕ) → i < r → r ≤ 1000 → number ≤ 10000 → Leads (run last) (IsIn (codes "RHS") (Facts headers r c i 0)) (demand_line i number) (IsIn (codes "RHS") (Facts headers r c (suc i) 0))
unfolding demand_line
side_leads last headers r c i number h few small =
    let words : list_all is_word (codes "rhs" ∷ row_name i ∷ decimal number ∷ []) ≡ true = rw (name_word 114 i refl (omega arith), number_word number (omega arith)) refl in
    data_leads last (codes "RHS") (Facts headers r c i 0) (Facts headers r c (suc i) 0) (codes "rhs") (row_name i ∷ decimal number ∷ []) words (λ n earlier f. (side_accepted headers r c i n number earlier h few small f, side_added headers r c i n number earlier f))
