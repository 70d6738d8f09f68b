-- The last settings of lines are what the lines make one by one.
use Rattle.std.proofs.Common.{◌≡◌, ◌∙◌, ap, sym, ℕ, Bool, true, false, ◌||◌, ◌⊎◌, not, List, [], ◌∷◌, ◌++◌, length, drop, Option, Some, None, Result, refl, inl, inr}
use Rattle.std.specs.Prelude.{nat_eq, bytes_eq, codes, slice_set, unwrap_or}
use Rattle.std.specs.List.{list_any}
use Rattle.std.proofs.lemmas.List.FromFn.{length-map-range_with_len}
use Rattle.std.proofs.lemmas.Bool.{cases_Bool, true≢false}
use Rattle.std.proofs.lemmas.Slice.Eq.{bytes_eq-Decides}
use Rattle.num_text.specs.Words.{is_one_of}
use Rattle.int_model.specs.Models.{IntegerModel}
use Rattle.scenario_changes.specs.Changes.{Change, ChangeSet}
use Rattle.changes_reader.specs.Names.{number_named, column_names, row_names}
use Rattle.changes_reader.specs.Values.{number_set, side_set}
use Rattle.changes_reader.specs.Kinds.{kind_if, or_else, place_kind, own_kind, word_kind, line_kind, words}
use Rattle.changes_reader.specs.Takings.{taken, taken_words}
use Rattle.changes_reader.specs.ChangesText.{Line, field, has_word, scenario_count, change_of, changes_of_lines, is_empty, unless_refused, changes_from, changes_of, changes_lines}
use Rattle.changes_reader.proofs.Runs.{run}
use Rattle.changes_reader.proofs.Selections.{setting_made, selection_made, count_made, change_named, change_cost, change_low, change_high, change_rhs}
use Rattle.changes_reader.specs.declared.ChangesKind.{ChangesKind}
use Rattle.changes_reader.specs.declared.ChangesKind.TheVariants.{NoScenario}

-- ---- what no kind means

or_none : (a b : Option ChangesKind) → or_else a b ≡ None → (a ≡ None) × (b ≡ None)
or_none None b e = (refl, e)
or_none (Some k) b e = absurd (cc)

kind_none : (b : Bool) (k : ChangesKind) → kind_if b k ≡ None → b ≡ false
kind_none true k e = absurd (cc)
kind_none false k e = refl

not_false : (b : Bool) → not b ≡ false → b ≡ true
not_false true e = refl
not_false false e = absurd (cc)

not_none : (k : ChangesKind) → Some k ≡ None → ⊥
not_none k e = cc

placed : (unknown : ChangesKind) (count : ℕ) (place : Option ℕ) → place_kind unknown count place ≡ None → place ≡ Some (unwrap_or place 0)
placed unknown count None e = absurd (not_none unknown (or_none (kind_if (nat_eq count 0) NoScenario) (Some unknown) e).1)
placed unknown count (Some i) e = refl

first_or_others : (x w : List ℕ) (ws : List (List ℕ)) → is_one_of (x ∷ ws) w ≡ true → (w ≡ x) ⊎ (is_one_of ws w ≡ true)
first_or_others x w ws e =
    elim (cases_Bool (bytes_eq w x)) [
      | inl t ↦ inl ((bytes_eq-Decides w x).0 t)
      | inr t ↦ inr (sym (ap (λ (b : Bool). b || list_any (bytes_eq w) ws) t) ∙ e)
    ]

-- ---- a line of each word

module _ (m : IntegerModel) (ls : List Line) (l : Line) (some : is_empty ls ≡ false) where
  abbrev Makes : Type 0
  Makes = changes_of_lines m (ls ++ l ∷ []) ≡ taken_words m (changes_of_lines m ls) (field 0 l) (field 1 l) (field 2 l)

  abbrev IsGood : Type 0
  IsGood = own_kind m (scenario_count ls) (field 0 l) (field 1 l) (field 2 l) ≡ None

  made_as : (w : List ℕ) → field 0 l ≡ w → changes_of_lines m (ls ++ l ∷ []) ≡ taken_words m (changes_of_lines m ls) w (field 1 l) (field 2 l) → Makes
  made_as w e made = made ∙ sym (ap (λ (w : List ℕ). taken_words m (changes_of_lines m ls) w (field 1 l) (field 2 l)) e)

  good_as : (w : List ℕ) → field 0 l ≡ w → IsGood → own_kind m (scenario_count ls) w (field 1 l) (field 2 l) ≡ None
  good_as w e good = ap (λ (w : List ℕ). own_kind m (scenario_count ls) w (field 1 l) (field 2 l)) (sym e) ∙ good

  other_than : (w v : List ℕ) → field 0 l ≡ w → bytes_eq w v ≡ false → has_word v l ≡ false
  other_than w v e f = ap (λ (w : List ℕ). bytes_eq w v) e ∙ f

  column : ℕ
  column = unwrap_or (number_named (column_names m) (field 1 l)) 0

  row : ℕ
  row = unwrap_or (number_named (row_names m) (field 1 l)) 0

  name_step : field 0 l ≡ codes "name" → Makes
  name_step e = made_as (codes "name") e (setting_made m ls l (λ (c : Change). record c { name = Some (field 1 l) }) some (other_than (codes "name") (codes "scenario") e refl) (λ k h. change_named m ls l k e h))

  cost_step : field 0 l ≡ codes "obj" → IsGood → Makes
  unfolding column
  cost_step e good =
      let place : number_named (column_names m) (field 1 l) ≡ Some column = placed _ _ _ (or_none _ _ (good_as (codes "obj") e good)).0 in
      made_as (codes "obj") e (setting_made m ls l (λ (c : Change). record c { costs = slice_set c.costs column (number_set (field 2 l)) }) some (other_than (codes "obj") (codes "scenario") e refl) (λ k h. change_cost m ls l column k e place h))

  low_step : field 0 l ≡ codes "lb" → IsGood → Makes
  unfolding column
  low_step e good =
      let place : number_named (column_names m) (field 1 l) ≡ Some column = placed _ _ _ (or_none _ _ (good_as (codes "lb") e good)).0 in
      made_as (codes "lb") e (setting_made m ls l (λ (c : Change). record c { lows = slice_set c.lows column (number_set (field 2 l)) }) some (other_than (codes "lb") (codes "scenario") e refl) (λ k h. change_low m ls l column k e place h))

  high_step : field 0 l ≡ codes "ub" → IsGood → Makes
  unfolding column
  high_step e good =
      let place : number_named (column_names m) (field 1 l) ≡ Some column = placed _ _ _ (or_none _ _ (good_as (codes "ub") e good)).0 in
      made_as (codes "ub") e (setting_made m ls l (λ (c : Change). record c { highs = slice_set c.highs column (number_set (field 2 l)) }) some (other_than (codes "ub") (codes "scenario") e refl) (λ k h. change_high m ls l column k e place h))

  rhs_step : field 0 l ≡ codes "rhs" → IsGood → Makes
  unfolding row
  rhs_step e good =
      let place : number_named (row_names m) (field 1 l) ≡ Some row = placed _ _ _ (or_none _ _ (good_as (codes "rhs") e good)).0 in
      made_as (codes "rhs") e (setting_made m ls l (λ (c : Change). record c { rhs = slice_set c.rhs row (side_set (field 2 l)) }) some (other_than (codes "rhs") (codes "scenario") e refl) (λ k h. change_rhs m ls l row k e place h))

  later_step : word_kind false (field 0 l) ≡ None → IsGood → Makes
  later_step word good =
      let no_count : bytes_eq (field 0 l) (codes "scenarios") ≡ false = kind_none _ _ (or_none _ _ word).0 in
      let known : is_one_of words (field 0 l) ≡ true = not_false _ (kind_none _ _ (or_none _ _ word).1) in
      elim (first_or_others (codes "scenarios") (field 0 l) (drop 1 words) known) [
        | inl e ↦ absurd (true≢false (sym ((bytes_eq-Decides (field 0 l) (codes "scenarios")).1 e) ∙ no_count))
        | inr others ↦ elim (first_or_others (codes "scenario") (field 0 l) (drop 2 words) others) [
          | inl e ↦ made_as (codes "scenario") e (selection_made m ls l some e)
          | inr others ↦ elim (first_or_others (codes "name") (field 0 l) (drop 3 words) others) [
            | inl e ↦ name_step e
            | inr others ↦ elim (first_or_others (codes "obj") (field 0 l) (drop 4 words) others) [
              | inl e ↦ cost_step e good
              | inr others ↦ elim (first_or_others (codes "lb") (field 0 l) (drop 5 words) others) [
                | inl e ↦ low_step e good
                | inr others ↦ elim (first_or_others (codes "ub") (field 0 l) (drop 6 words) others) [
                  | inl e ↦ high_step e good
                  | inr others ↦ elim (first_or_others (codes "rhs") (field 0 l) (drop 7 words) others) [
                    | inl e ↦ rhs_step e good
                    | inr others ↦ absurd (true≢false (sym others))
                  ]
                ]
              ]
            ]
          ]
        ]
      ]

-- a good line at the end makes of the changes what it says
step : (m : IntegerModel) (ls : List Line) (l : Line) → line_kind m (is_empty ls) (scenario_count ls) l.fields ≡ None → changes_of_lines m (ls ++ l ∷ []) ≡ taken m (changes_of_lines m ls) l.fields
step m [] l e =
    let word : field 0 l ≡ codes "scenarios" = (bytes_eq-Decides (field 0 l) (codes "scenarios")).0 (not_false _ (kind_none _ _ (or_none _ _ (or_none _ _ e).0).0)) in
    count_made m l word ∙ sym (ap (λ (w : List ℕ). taken_words m (changes_of_lines m []) w (field 1 l) (field 2 l)) word)
step m (x ∷ ls) l e = later_step m (x ∷ ls) l refl (or_none _ _ e).0 (or_none _ _ (or_none _ _ e).1).1

-- ---- all lines

same_unless : (k : Option ChangesKind) (n : ℕ) (a b : Result ChangeSet (ℕ × ChangesKind)) → (k ≡ None → a ≡ b) → unless_refused k n a ≡ unless_refused k n b
same_unless (Some k) n a b e = refl
same_unless None n a b e = e refl

not_empty : (ls : List Line) (l : Line) → is_empty (ls ++ l ∷ []) ≡ false
not_empty [] l = refl
not_empty (x ∷ ls) l = refl

lines_are_run : (m : IntegerModel) (earlier ls : List Line) → changes_from m earlier ls ≡ run m (is_empty earlier) (changes_of_lines m earlier) ls
lines_are_run m earlier [] = refl
lines_are_run m earlier (l ∷ ls) =
    let c : ChangeSet = changes_of_lines m earlier in
    let count : length c.scenarios ≡ scenario_count earlier = length-map-range_with_len (change_of m earlier) 0 (scenario_count earlier) in
    same_unless (line_kind m (is_empty earlier) (scenario_count earlier) l.fields) l.number (changes_from m (earlier ++ l ∷ []) ls) (run m false (taken m c l.fields) ls) (λ e.
    lines_are_run m (earlier ++ l ∷ []) ls
    ∙ ap (λ (first : Bool). run m first (changes_of_lines m (earlier ++ l ∷ [])) ls) (not_empty earlier l)
    ∙ ap (λ (d : ChangeSet). run m false d ls) (step m earlier l e))
    ∙ ap (λ (n : ℕ). unless_refused (line_kind m (is_empty earlier) n l.fields) l.number (run m false (taken m c l.fields) ls)) (sym count)

pub changes_are_run : (m : IntegerModel) (bytes : List ℕ) → changes_of m bytes ≡ run m true (changes_of_lines m []) (changes_lines bytes)
changes_are_run m bytes = lines_are_run m [] (changes_lines bytes)
