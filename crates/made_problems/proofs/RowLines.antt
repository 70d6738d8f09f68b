-- The lines of rows are accepted, and what entries may name.
use Rattle.std.proofs.Common.{◌≡◌, ◌∙◌, ap, sym, refl, ℕ, suc, ◌^◌, ◌<◌, ◌≤◌, true, false, nat_lt, nat_le, List, [], ◌∷◌, map, codes, length, None, arith, decimal}
use Rattle.std.specs.List.{list_any, list_all}
use Rattle.std.specs.Str.{bytes_eq}
use Rattle.std.proofs.lemmas.Bool.Decides.{nat_tests}
use Rattle.std.proofs.lemmas.Fmt.{length-decimal-le}
use Rattle.std.proofs.lemmas.List.{length-map}
use Rattle.num_text.specs.Words.{is_one_of}
use Rattle.mps_reader.specs.MpsLines.{Line, field, data_of, free_rows, kept_rows, is_kept, is_dropped}
use Rattle.mps_reader.specs.MpsRules.{line_kind, is_row, is_long, number_kind}
use Rattle.mps_reader.proofs.HeaderLemmas.{list_any-map}
use Rattle.mps_reader.proofs.OpeningLemmas.{or-true}
use Rattle.model_gen.specs.Texts.{row_name, row_line}
use Rattle.made_problems.proofs.LineTexts.{is_word}
use Rattle.made_problems.proofs.NumberTexts.{number_read, words_apart, name_word}
use Rattle.made_problems.proofs.NameTexts.{names, names_count, name_is_new, name_is_there, among_names}
use Rattle.made_problems.proofs.Triples.{Leads}
use Rattle.made_problems.proofs.ModelLines.{run, IsIn, data_leads}
use Rattle.made_problems.proofs.ModelFacts.{RowFacts, Facts, row_added}

pub at_most : (most n : ℕ) → n ≤ most → nat_lt most n ≡ false
at_most most n h = grind (arith, nat_tests)

pub below : (most n : ℕ) → n < most → nat_le most n ≡ false
below most n h = grind (arith, nat_tests)

-- names and numbers of generated problems are short
pub short_name : (b n : ℕ) → n < 2 ^ 63 → is_long (b ∷ decimal n) ≡ false
short_name b n h = at_most 255 (suc (length (decimal n))) (omega (arith, length-decimal-le 19 n (omega arith) (omega arith) (omega arith)))

pub number_accepted : (most n : ℕ) → n ≤ most → n < 2 ^ 63 → number_kind most (decimal n) ≡ None
number_accepted most n h fits = rw (number_read n fits, at_most most n h) refl

-- ---- which rows there are

new_row : (k : ℕ) (rows : List Line) → RowFacts k rows → k < 2 ^ 63 → is_one_of (map (field 1) rows) (row_name k) ≡ false
new_row k rows f h =
    ap (λ (ws : List (List ℕ)). is_one_of ws (row_name k)) f.all
    ∙ among_names (row_name k) (codes "obj" ∷ names row_name k) false (rw (words_apart 111 (codes "bj") 114 (decimal k) (λ e. absurd (omega arith)), name_is_new 114 k k (omega arith) h) refl)

few_rows : (k : ℕ) (earlier : List Line) → RowFacts k (data_of (codes "ROWS") earlier) → length (kept_rows earlier) ≡ k
few_rows k earlier f = sym (length-map (kept_rows earlier) (field 1)) ∙ ap (λ (ws : List (List ℕ)). length ws) f.kept ∙ names_count row_name k

kept_if : (earlier : List Line) (name : List ℕ) → is_kept earlier name ≡ list_any (λ n. bytes_eq n name) (map (field 1) (kept_rows earlier))
kept_if earlier name = sym (list_any-map (λ n. bytes_eq n name) (field 1) (kept_rows earlier))

pub row_kept : (r i : ℕ) (earlier : List Line) → RowFacts r (data_of (codes "ROWS") earlier) → i < r → is_kept earlier (row_name i) ≡ true
row_kept r i earlier f h = kept_if earlier (row_name i) ∙ ap (λ (ws : List (List ℕ)). list_any (λ n. bytes_eq n (row_name i)) ws) f.kept ∙ name_is_there row_name r i h

pub row_known : (r i : ℕ) (earlier : List Line) → RowFacts r (data_of (codes "ROWS") earlier) → i < r → is_row earlier (row_name i) ≡ true
row_known r i earlier f h = rw (row_kept r i earlier f h) (or-true (is_one_of (free_rows earlier) (row_name i)))

pub row_not_free : (r i : ℕ) (earlier : List Line) → RowFacts r (data_of (codes "ROWS") earlier) → is_one_of (free_rows earlier) (row_name i) ≡ false
row_not_free r i earlier f = ap (λ (ws : List (List ℕ)). is_one_of ws (row_name i)) f.free ∙ rw (words_apart 114 (decimal i) 111 (codes "bj") (λ e. absurd (omega arith))) refl

pub row_not_dropped : (r i : ℕ) (earlier : List Line) → RowFacts r (data_of (codes "ROWS") earlier) → is_dropped earlier (row_name i) ≡ false
row_not_dropped r i earlier f = rw (row_not_free r i earlier f) refl

-- ---- the lines

row_accepted : (headers : List (List ℕ)) (k n : ℕ) (earlier : List Line) → k < 1000 → Facts headers k 0 0 0 earlier → line_kind earlier (record { number = n; section = codes "ROWS"; header = false; fields = codes "G" ∷ row_name k ∷ [] }) ≡ None
row_accepted headers k n earlier h f =
    let few : nat_le 1000 (length (kept_rows earlier)) ≡ false = below 1000 (length (kept_rows earlier)) (omega (arith, few_rows k earlier f.rows)) in
    rw (short_name 114 k (omega arith), new_row k (data_of (codes "ROWS") earlier) f.rows (omega arith), few) refl

pub row_leads : (last : ℕ) (headers : List (List ℕ)) (k : ℕ) → k < 1000 → Leads (run last) (IsIn (codes "ROWS") (Facts headers k 0 0 0)) (row_line k) (IsIn (codes "ROWS") (Facts headers (suc k) 0 0 0))
unfolding row_line
row_leads last headers k h =
    let words : list_all is_word (codes "G" ∷ row_name k ∷ []) ≡ true = rw (name_word 114 k refl (omega arith)) refl in
    data_leads last (codes "ROWS") (Facts headers k 0 0 0) (Facts headers (suc k) 0 0 0) (codes "G") (row_name k ∷ []) words (λ n earlier f. (row_accepted headers k n earlier h f, row_added headers k n earlier f))
