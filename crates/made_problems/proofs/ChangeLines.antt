-- Lines of a changes text that are accepted.
use Rattle.std.proofs.Common.{◌≡◌, ◌∙◌, ap, refl, ℕ, ◌+◌, ◌^◌, ◌<◌, ◌≤◌, pos, true, false, nat_eq, nat_lt, List, [], ◌∷◌, ◌++◌, codes, Some, None, is_none, Result, Ok, arith, decimal}
use Rattle.std.specs.List.{list_all, join_with_byte}
use Rattle.std.proofs.lemmas.Bool.Decides.{nat_tests}
use Rattle.num_text.specs.Lines.{lines_of, fields_of}
use Rattle.num_text.specs.Words.{line, is_read}
use Rattle.int_model.specs.Models.{IntegerModel}
use Rattle.int_model.specs.declared.model.Rhs.TheVariants.{Value}
use Rattle.scenario_changes.specs.Changes.{ChangeSet}
use Rattle.changes_reader.specs.ChangesText.{Line, read_from, changes_from, is_empty, scenario_count}
use Rattle.changes_reader.specs.Names.{column_names, row_names, number_named}
use Rattle.changes_reader.specs.Values.{value_of, rhs_of}
use Rattle.changes_reader.specs.Kinds.{line_kind}
use Rattle.changes_reader.specs.declared.ChangesKind.{ChangesKind}
use Rattle.made_problems.proofs.LineTexts.{is_word, line_first, joined_fields}
use Rattle.made_problems.proofs.NumberTexts.{number_read, number_is_none_of}
use Rattle.made_problems.proofs.Triples.{Moves}

-- where a reader of changes stands: the next line's number, and the lines before it
pub record Place : Type 0 where
  pub number : ℕ
  pub earlier : List Line

abbrev pub run : IntegerModel → Place → List ℕ → Result ChangeSet (ℕ × ChangesKind)
run m p bytes = changes_from m p.earlier (read_from p.number (lines_of bytes))

abbrev pub behind : Place → List (List ℕ) → Place
behind p fields = record { number = p.number + 1; earlier = p.earlier ++ record { number = p.number; fields = fields } ∷ [] }

read_more : (n : ℕ) (bare : List ℕ) (more fields : List (List ℕ)) → is_read bare ≡ true → fields_of bare ≡ fields → read_from n (bare ∷ more) ≡ record { number = n; fields = fields } ∷ read_from (n + 1) more
read_more n bare more fields h e = rw (h, e) refl

accepted_first : (m : IntegerModel) (earlier : List Line) (l : Line) (ls : List Line) → line_kind m (is_empty earlier) (scenario_count earlier) l.fields ≡ None → changes_from m earlier (l ∷ ls) ≡ changes_from m (earlier ++ l ∷ []) ls
accepted_first m earlier l ls h = rw h refl

-- a line of words that has no kind of refusal
pub line_moves : (m : IntegerModel) (p : Place) (w : List ℕ) (ws : List (List ℕ)) → list_all is_word (w ∷ ws) ≡ true → is_read (join_with_byte 32 (w ∷ ws)) ≡ true → line_kind m (is_empty p.earlier) (scenario_count p.earlier) (w ∷ ws) ≡ None → Moves (run m) p (line (w ∷ ws)) (behind p (w ∷ ws))
line_moves m p w ws h read kind rest =
    ap (λ ls. changes_from m p.earlier (read_from p.number ls)) (line_first (w ∷ ws) rest h)
    ∙ ap (changes_from m p.earlier) (read_more p.number (join_with_byte 32 (w ∷ ws)) (lines_of rest) (w ∷ ws) read (joined_fields w ws h))
    ∙ accepted_first m p.earlier (record { number = p.number; fields = w ∷ ws }) (read_from (p.number + 1) (lines_of rest)) kind

-- ---- what a number's text says

pub value_read : (n : ℕ) → n < 2 ^ 63 → value_of (decimal n) ≡ Ok (Some (pos n))
value_read n h = rw (number_is_none_of n h (codes "undefined") refl, number_read n h) refl

pub rhs_read : (n : ℕ) → n < 2 ^ 63 → rhs_of (decimal n) ≡ Ok (Some (Value (pos n)))
rhs_read n h = rw (number_is_none_of n h (codes "inf") refl, number_is_none_of n h (codes "-inf") refl, value_read n h) refl

at_most : (limit n : ℕ) → n ≤ limit → nat_lt limit n ≡ false
at_most limit n h = grind (arith, nat_tests)

below : (k n : ℕ) → k < n → nat_lt k n ≡ true
below k n h = grind (arith, nat_tests)

some_count : (n : ℕ) → 0 < n → nat_eq n 0 ≡ false
some_count n h = grind (arith, nat_tests)

-- ---- the lines

pub scenarios_accepted : (m : IntegerModel) (n : ℕ) → n ≤ 64 → line_kind m true 0 (codes "scenarios" ∷ decimal n ∷ []) ≡ None
scenarios_accepted m n h = rw (number_read n (omega arith), at_most 64 n h) refl

pub scenario_accepted : (m : IntegerModel) (count k : ℕ) → k < count → k < 2 ^ 63 → line_kind m false count (codes "scenario" ∷ decimal k ∷ []) ≡ None
scenario_accepted m count k h fits = rw (number_read k fits, below k count h) refl

pub cost_accepted : (m : IntegerModel) (count n : ℕ) (name : List ℕ) → 0 < count → n ≤ 10 ^ 9 → is_none (number_named (column_names m) name) ≡ false → line_kind m false count (codes "obj" ∷ name ∷ decimal n ∷ []) ≡ None
cost_accepted m count n name some h named = rw (some_count count some, named, value_read n (omega arith), at_most (10 ^ 9) n h) refl

pub bound_accepted : (m : IntegerModel) (count n : ℕ) (name : List ℕ) → 0 < count → n ≤ 10 ^ 6 → is_none (number_named (column_names m) name) ≡ false → line_kind m false count (codes "ub" ∷ name ∷ decimal n ∷ []) ≡ None
bound_accepted m count n name some h named = rw (some_count count some, named, value_read n (omega arith), at_most (10 ^ 6) n h) refl

pub demand_accepted : (m : IntegerModel) (count n : ℕ) (name : List ℕ) → 0 < count → n ≤ 10 ^ 18 → is_none (number_named (row_names m) name) ≡ false → line_kind m false count (codes "rhs" ∷ name ∷ decimal n ∷ []) ≡ None
demand_accepted m count n name some h named = rw (some_count count some, named, rhs_read n (omega arith), at_most (10 ^ 18) n h) refl
