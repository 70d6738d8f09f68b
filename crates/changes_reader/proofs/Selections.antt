-- The last settings of lines, as lines are added at the end.
use Rattle.std.proofs.Common.{◌≡◌, ◌∙◌, ap, sym, ℕ, zero, suc, ◌+◌, ◌-◌, ◌<◌, Bool, cond, true, false, ◌&&◌, nat_eq, if◌then◌else◌, List, [], ◌∷◌, ◌++◌, length, map, filter, take, append-nil, append_assoc, Option, Some, None, refl, arith, inl, inr}
use Rattle.std.specs.Prelude.{ℤ, bytes_eq, codes, slice_index_or, slice_set, option_map, option_and_then, unwrap_or, replicate}
use Rattle.std.specs.List.{range_with_len}
use Rattle.std.proofs.lemmas.List.{length-set, get_or-set_other, length-map, take_all}
use Rattle.std.proofs.lemmas.Grind.{get_or-set_at}
use Rattle.std.proofs.lemmas.List.FromFn.{fill_by_all, length-map-range_with_len, get_or-map-range_with_len}
use Rattle.std.proofs.lemmas.List.Elements.{filter-append}
use Rattle.std.proofs.lemmas.Bool.{cases_Bool, eqb-true}
use Rattle.std.proofs.lemmas.Bool.Decides.{eqb_tells}
use Rattle.std.proofs.lemmas.Slice.Eq.{bytes_eq-Decides}
use Rattle.num_text.specs.Words.{last_of}
use Rattle.int_model.specs.Models.{IntegerModel}
use Rattle.scenario_changes.specs.Changes.{Change, ChangeSet, no_change, selected_change, with_selected, with_number, resized, shape_of}
use Rattle.int_model.specs.declared.model.Rhs.{Rhs}
use Rattle.int_model.specs.declared.model.Column.{Column}
use Rattle.int_model.specs.declared.model.Row.{Row}
use Rattle.changes_reader.specs.Names.{number_named, is_number, means, column_names, row_names}
use Rattle.changes_reader.specs.Values.{number_set, side_set}
use Rattle.changes_reader.specs.ChangesText.{Line, field, has_word, natural_of, scenario_count, selected_after, under_selected, last_line, last_setting, values_set, change_of, changes_of_lines, is_empty}

-- ---- lists

last_of-append : {X : Type 0} (xs : List X) (x : X) → last_of (xs ++ x ∷ []) ≡ Some x
last_of-append [] x = refl
last_of-append (y ∷ []) x = refl
last_of-append (y ∷ z ∷ xs) x = last_of-append (z ∷ xs) x

-- the last one that passes a test, where there is one more at the end
last_passing : {X : Type 0} (p : X → Bool) (xs : List X) (x : X) → last_of (filter p (xs ++ x ∷ [])) ≡ (if p x then Some x else last_of (filter p xs))
last_passing p xs x =
    ap last_of (filter-append p xs (x ∷ []))
    ∙ elim (p x) as (λ b. last_of (filter p xs ++ cond b (x ∷ []) []) ≡ (if b then Some x else last_of (filter p xs))) [
      | true ↦ last_of-append (filter p xs) x
      | false ↦ ap last_of (append-nil (filter p xs))
    ]

map_same : {X : Type 0} (f g : ℕ → X) → ((k : ℕ) → f k ≡ g k) → (xs : List ℕ) → map f xs ≡ map g xs
map_same f g e [] = refl
map_same f g e (x ∷ xs) = ap (λ y. y ∷ map f xs) (e x) ∙ ap (λ ys. g x ∷ ys) (map_same f g e xs)

map_same_below : {X : Type 0} (d : X) (f g : ℕ → X) (n : ℕ) → ((k : ℕ) → k < n → f k ≡ g k) → map f (range_with_len 0 n) ≡ map g (range_with_len 0 n)
map_same_below d f g n e = fill_by_all g (map f (range_with_len 0 n)) n d (length-map-range_with_len f 0 n) (λ k h. get_or-map-range_with_len f 0 n k k d h (omega arith) ∙ e k h)

pub map_constant : {X : Type 0} (f : ℕ → X) (d : X) → ((k : ℕ) → f k ≡ d) → (a n : ℕ) → map f (range_with_len a n) ≡ replicate n d
map_constant f d e a zero = refl
map_constant f d e a (suc n) = ap (λ y. y ∷ map f (range_with_len (a + 1) n)) (e a) ∙ ap (λ ys. d ∷ ys) (map_constant f d e (a + 1) n)

-- one place that is set
set_by_numbers : {X : Type 0} (g : ℕ → X) (n i : ℕ) (x : X) → slice_set (map g (range_with_len 0 n)) i x ≡ map (λ k. if nat_eq i k then x else g k) (range_with_len 0 n)
set_by_numbers g n i x =
    let count : length (map g (range_with_len 0 n)) ≡ n = length-map-range_with_len g 0 n in
    fill_by_all (λ k. if nat_eq i k then x else g k) (slice_set (map g (range_with_len 0 n)) i x) n x (length-set (map g (range_with_len 0 n)) i x ∙ count) (λ k h.
    elim (eqb_tells i k) [
      | inl (e, same) ↦ rw e (get_or-set_at (map g (range_with_len 0 n)) i k x x (sym same) (omega (arith, count, same, h)))
      | inr (e, other) ↦ rw e (get_or-set_other (map g (range_with_len 0 n)) i k x x (λ s. other (sym s)) ∙ get_or-map-range_with_len g 0 n k k x h (omega arith))
    ])

-- ---- lines, and one more

under_selected-append : (before ls : List Line) (l : Line) → under_selected before (ls ++ l ∷ []) ≡ under_selected before ls ++ (selected_after (before ++ ls), l) ∷ []
under_selected-append before [] l = ap (λ b. (selected_after b, l) ∷ []) (sym (append-nil before))
under_selected-append before (x ∷ ls) l = ap (λ ys. (selected_after before, x) ∷ ys) (under_selected-append (before ++ x ∷ []) ls l ∙ ap (λ b. under_selected (before ++ x ∷ []) ls ++ (selected_after b, l) ∷ []) (append_assoc before (x ∷ []) ls))

-- a line is the last one of its kind
passes : ℕ → List ℕ → (Line → Bool) → ℕ × Line → Bool
passes k word test l = nat_eq l.0 k && has_word word l.1 && test l.1

last_line-append : (ls : List Line) (l : Line) (k : ℕ) (word : List ℕ) (test : Line → Bool) → last_line (ls ++ l ∷ []) k word test ≡ (if nat_eq (selected_after ls) k && has_word word l && test l then Some l else last_line ls k word test)
unfolding passes
last_line-append ls l k word test =
    ap (λ (xs : List (ℕ × Line)). option_map (λ (x : ℕ × Line). x.1) (last_of (filter (passes k word test) xs))) (under_selected-append [] ls l)
    ∙ ap (option_map (λ (x : ℕ × Line). x.1)) (last_passing (passes k word test) (under_selected [] ls) (selected_after ls, l))
    ∙ elim (nat_eq (selected_after ls) k && has_word word l && test l) as (λ b. option_map (λ (x : ℕ × Line). x.1) (if b then Some (selected_after ls, l) else last_of (filter (passes k word test) (under_selected [] ls))) ≡ (if b then Some l else last_line ls k word test)) [ true ↦ refl | false ↦ refl ]

selected-append : (ls : List Line) (l : Line) → selected_after (ls ++ l ∷ []) ≡ (if has_word (codes "scenario") l then natural_of (field 1 l) else selected_after ls)
selected-append ls l =
    ap (λ (o : Option Line). unwrap_or (option_map (λ l. natural_of (field 1 l)) o) 0) (last_passing (has_word (codes "scenario")) ls l)
    ∙ elim (has_word (codes "scenario") l) as (λ b. unwrap_or (option_map (λ l. natural_of (field 1 l)) (if b then Some l else last_of (filter (has_word (codes "scenario")) ls))) 0 ≡ (if b then natural_of (field 1 l) else selected_after ls)) [ true ↦ refl | false ↦ refl ]

-- ---- the values that are set

module _ {X : Type 0} (value : List ℕ → Option X) where
  values_kept : (ls : List Line) (l : Line) (k : ℕ) (word : List ℕ) (names : List (List ℕ)) → (nat_eq (selected_after ls) k && has_word word l) ≡ false → values_set value (ls ++ l ∷ []) k word names ≡ values_set value ls k word names
  values_kept ls l k word names e =
      map_same _ _ (λ j. ap (λ (o : Option Line). option_and_then value (option_map (field 2) o)) (last_line-append ls l k word (λ l. means names (field 1 l) j) ∙ ap (λ (b : Bool). if b && means names (field 1 l) j then Some l else last_line ls k word (λ l. means names (field 1 l) j)) e)) (range_with_len 0 (length names))

  if_set : (b : Bool) (l : Line) (o : Option Line) → option_and_then value (option_map (field 2) (if b then Some l else o)) ≡ (if b then value (field 2 l) else option_and_then value (option_map (field 2) o))
  if_set true l o = refl
  if_set false l o = refl

  values_more : (ls : List Line) (l : Line) (k : ℕ) (word : List ℕ) (names : List (List ℕ)) (j : ℕ) → nat_eq (selected_after ls) k ≡ true → has_word word l ≡ true → number_named names (field 1 l) ≡ Some j → values_set value (ls ++ l ∷ []) k word names ≡ slice_set (values_set value ls k word names) j (value (field 2 l))
  values_more ls l k word names j here is named =
      let test : ℕ → Bool = λ i. nat_eq (selected_after ls) k && has_word word l && means names (field 1 l) i in
      let same : (i : ℕ) → test i ≡ nat_eq j i = λ i.
      ap (λ (b : Bool). b && has_word word l && means names (field 1 l) i) here
      ∙ ap (λ (b : Bool). true && b && means names (field 1 l) i) is
      ∙ ap (λ (o : Option ℕ). is_number o i) named in
      map_same _ (λ i. if nat_eq j i then value (field 2 l) else option_and_then value (last_setting ls k word names i)) (λ i.
      ap (λ (o : Option Line). option_and_then value (option_map (field 2) o)) (last_line-append ls l k word (λ l. means names (field 1 l) i) ∙ ap (λ (b : Bool). if b then Some l else last_line ls k word (λ l. means names (field 1 l) i)) (same i))
      ∙ if_set (nat_eq j i) l (last_line ls k word (λ l. means names (field 1 l) i))) (range_with_len 0 (length names))
      ∙ sym (set_by_numbers (λ i. option_and_then value (last_setting ls k word names i)) (length names) j (value (field 2 l)))

-- ---- one scenario's changes

abbrev change_with : Option (List ℕ) → List (Option ℤ) → List (Option ℤ) → List (Option ℤ) → List (Option Rhs) → Change
change_with name costs lows highs rhs = record { name = name; costs = costs; lows = lows; highs = highs; rhs = rhs }

same_change : (n n' : Option (List ℕ)) (a a' b b' c c' : List (Option ℤ)) (d d' : List (Option Rhs)) → n ≡ n' → a ≡ a' → b ≡ b' → c ≡ c' → d ≡ d' → change_with n a b c d ≡ change_with n' a' b' c' d'
same_change n n' a a' b b' c c' d d' e f g h i =
    ap (λ x. change_with x a b c d) e ∙ ap (λ x. change_with n' x b c d) f ∙ ap (λ x. change_with n' a' x c d) g ∙ ap (λ x. change_with n' a' b' x d) h ∙ ap (λ x. change_with n' a' b' c' x) i

-- the line sets this attribute of scenario k
abbrev pub sets : List Line → Line → ℕ → List ℕ → Bool
sets ls l k word = nat_eq (selected_after ls) k && has_word word l

name_kept : (ls : List Line) (l : Line) (k : ℕ) → sets ls l k (codes "name") ≡ false → option_map (field 1) (last_line (ls ++ l ∷ []) k (codes "name") (λ l. true)) ≡ option_map (field 1) (last_line ls k (codes "name") (λ l. true))
name_kept ls l k e = ap (option_map (field 1)) (last_line-append ls l k (codes "name") (λ l. true) ∙ ap (λ (b : Bool). if b && true then Some l else last_line ls k (codes "name") (λ l. true)) e)

name_more : (ls : List Line) (l : Line) (k : ℕ) → sets ls l k (codes "name") ≡ true → option_map (field 1) (last_line (ls ++ l ∷ []) k (codes "name") (λ l. true)) ≡ Some (field 1 l)
name_more ls l k e = ap (option_map (field 1)) (last_line-append ls l k (codes "name") (λ l. true) ∙ ap (λ (b : Bool). if b && true then Some l else last_line ls k (codes "name") (λ l. true)) e)

-- a line that sets nothing of scenario k
pub change_kept : (m : IntegerModel) (ls : List Line) (l : Line) (k : ℕ) → sets ls l k (codes "name") ≡ false → sets ls l k (codes "obj") ≡ false → sets ls l k (codes "lb") ≡ false → sets ls l k (codes "ub") ≡ false → sets ls l k (codes "rhs") ≡ false → change_of m (ls ++ l ∷ []) k ≡ change_of m ls k
change_kept m ls l k n a b c d =
    same_change _ _ _ _ _ _ _ _ _ _ (name_kept ls l k n)
    (values_kept number_set ls l k (codes "obj") (column_names m) a)
    (values_kept number_set ls l k (codes "lb") (column_names m) b)
    (values_kept number_set ls l k (codes "ub") (column_names m) c)
    (values_kept side_set ls l k (codes "rhs") (row_names m) d)

-- a line of another scenario
other_scenario : (ls : List Line) (l : Line) (k : ℕ) (word : List ℕ) → nat_eq (selected_after ls) k ≡ false → sets ls l k word ≡ false
other_scenario ls l k word e = ap (λ (b : Bool). b && has_word word l) e

change_other : (m : IntegerModel) (ls : List Line) (l : Line) (k : ℕ) → nat_eq (selected_after ls) k ≡ false → change_of m (ls ++ l ∷ []) k ≡ change_of m ls k
change_other m ls l k e = change_kept m ls l k (other_scenario ls l k (codes "name") e) (other_scenario ls l k (codes "obj") e) (other_scenario ls l k (codes "lb") e) (other_scenario ls l k (codes "ub") e) (other_scenario ls l k (codes "rhs") e)

and-false : (b : Bool) → (b && false) ≡ false
and-false true = refl
and-false false = refl

-- a line of another word
pub other_word : (ls : List Line) (l : Line) (k : ℕ) (word : List ℕ) (own : List ℕ) → field 0 l ≡ own → bytes_eq own word ≡ false → sets ls l k word ≡ false
other_word ls l k word own e f = ap (λ (w : List ℕ). nat_eq (selected_after ls) k && bytes_eq w word) e ∙ ap (λ (b : Bool). nat_eq (selected_after ls) k && b) f ∙ and-false (nat_eq (selected_after ls) k)

has_own : (l : Line) (word : List ℕ) → field 0 l ≡ word → has_word word l ≡ true
has_own l word e = (bytes_eq-Decides (field 0 l) word).1 e

sets_own : (ls : List Line) (l : Line) (k : ℕ) (word : List ℕ) → nat_eq (selected_after ls) k ≡ true → field 0 l ≡ word → sets ls l k word ≡ true
sets_own ls l k word e f = ap (λ (b : Bool). b && has_word word l) e ∙ has_own l word f

pub change_named : (m : IntegerModel) (ls : List Line) (l : Line) (k : ℕ) → field 0 l ≡ codes "name" → nat_eq (selected_after ls) k ≡ true → change_of m (ls ++ l ∷ []) k ≡ record (change_of m ls k) { name = Some (field 1 l) }
change_named m ls l k w e =
    same_change _ _ _ _ _ _ _ _ _ _ (name_more ls l k (sets_own ls l k (codes "name") e w))
    (values_kept number_set ls l k (codes "obj") (column_names m) (other_word ls l k (codes "obj") (codes "name") w refl))
    (values_kept number_set ls l k (codes "lb") (column_names m) (other_word ls l k (codes "lb") (codes "name") w refl))
    (values_kept number_set ls l k (codes "ub") (column_names m) (other_word ls l k (codes "ub") (codes "name") w refl))
    (values_kept side_set ls l k (codes "rhs") (row_names m) (other_word ls l k (codes "rhs") (codes "name") w refl))

pub change_cost : (m : IntegerModel) (ls : List Line) (l : Line) (j k : ℕ) → field 0 l ≡ codes "obj" → number_named (column_names m) (field 1 l) ≡ Some j → nat_eq (selected_after ls) k ≡ true → change_of m (ls ++ l ∷ []) k ≡ record (change_of m ls k) { costs = slice_set (change_of m ls k).costs j (number_set (field 2 l)) }
change_cost m ls l j k w n e =
    same_change _ _ _ _ _ _ _ _ _ _ (name_kept ls l k (other_word ls l k (codes "name") (codes "obj") w refl))
    (values_more number_set ls l k (codes "obj") (column_names m) j e (has_own l (codes "obj") w) n)
    (values_kept number_set ls l k (codes "lb") (column_names m) (other_word ls l k (codes "lb") (codes "obj") w refl))
    (values_kept number_set ls l k (codes "ub") (column_names m) (other_word ls l k (codes "ub") (codes "obj") w refl))
    (values_kept side_set ls l k (codes "rhs") (row_names m) (other_word ls l k (codes "rhs") (codes "obj") w refl))

pub change_low : (m : IntegerModel) (ls : List Line) (l : Line) (j k : ℕ) → field 0 l ≡ codes "lb" → number_named (column_names m) (field 1 l) ≡ Some j → nat_eq (selected_after ls) k ≡ true → change_of m (ls ++ l ∷ []) k ≡ record (change_of m ls k) { lows = slice_set (change_of m ls k).lows j (number_set (field 2 l)) }
change_low m ls l j k w n e =
    same_change _ _ _ _ _ _ _ _ _ _ (name_kept ls l k (other_word ls l k (codes "name") (codes "lb") w refl))
    (values_kept number_set ls l k (codes "obj") (column_names m) (other_word ls l k (codes "obj") (codes "lb") w refl))
    (values_more number_set ls l k (codes "lb") (column_names m) j e (has_own l (codes "lb") w) n)
    (values_kept number_set ls l k (codes "ub") (column_names m) (other_word ls l k (codes "ub") (codes "lb") w refl))
    (values_kept side_set ls l k (codes "rhs") (row_names m) (other_word ls l k (codes "rhs") (codes "lb") w refl))

pub change_high : (m : IntegerModel) (ls : List Line) (l : Line) (j k : ℕ) → field 0 l ≡ codes "ub" → number_named (column_names m) (field 1 l) ≡ Some j → nat_eq (selected_after ls) k ≡ true → change_of m (ls ++ l ∷ []) k ≡ record (change_of m ls k) { highs = slice_set (change_of m ls k).highs j (number_set (field 2 l)) }
change_high m ls l j k w n e =
    same_change _ _ _ _ _ _ _ _ _ _ (name_kept ls l k (other_word ls l k (codes "name") (codes "ub") w refl))
    (values_kept number_set ls l k (codes "obj") (column_names m) (other_word ls l k (codes "obj") (codes "ub") w refl))
    (values_kept number_set ls l k (codes "lb") (column_names m) (other_word ls l k (codes "lb") (codes "ub") w refl))
    (values_more number_set ls l k (codes "ub") (column_names m) j e (has_own l (codes "ub") w) n)
    (values_kept side_set ls l k (codes "rhs") (row_names m) (other_word ls l k (codes "rhs") (codes "ub") w refl))

pub change_rhs : (m : IntegerModel) (ls : List Line) (l : Line) (i k : ℕ) → field 0 l ≡ codes "rhs" → number_named (row_names m) (field 1 l) ≡ Some i → nat_eq (selected_after ls) k ≡ true → change_of m (ls ++ l ∷ []) k ≡ record (change_of m ls k) { rhs = slice_set (change_of m ls k).rhs i (side_set (field 2 l)) }
change_rhs m ls l i k w n e =
    same_change _ _ _ _ _ _ _ _ _ _ (name_kept ls l k (other_word ls l k (codes "name") (codes "rhs") w refl))
    (values_kept number_set ls l k (codes "obj") (column_names m) (other_word ls l k (codes "obj") (codes "rhs") w refl))
    (values_kept number_set ls l k (codes "lb") (column_names m) (other_word ls l k (codes "lb") (codes "rhs") w refl))
    (values_kept number_set ls l k (codes "ub") (column_names m) (other_word ls l k (codes "ub") (codes "rhs") w refl))
    (values_more side_set ls l k (codes "rhs") (row_names m) i e (has_own l (codes "rhs") w) n)

-- ---- all scenarios

abbrev set_of : IntegerModel → List Change → ℕ → ChangeSet
set_of m scenarios selected = record { columns = length m.columns; rows = map shape_of m.rows; scenarios = scenarios; selected = selected }

count_kept : (ls : List Line) (l : Line) → is_empty ls ≡ false → scenario_count (ls ++ l ∷ []) ≡ scenario_count ls
count_kept [] l e = absurd (cc)
count_kept (x ∷ ls) l e = refl

pub setting_made : (m : IntegerModel) (ls : List Line) (l : Line) (made : Change → Change) → is_empty ls ≡ false → has_word (codes "scenario") l ≡ false → ((k : ℕ) → nat_eq (selected_after ls) k ≡ true → change_of m (ls ++ l ∷ []) k ≡ made (change_of m ls k)) → changes_of_lines m (ls ++ l ∷ []) ≡ with_selected (changes_of_lines m ls) (made (selected_change (changes_of_lines m ls)))
setting_made m ls l made some other e =
    let n : ℕ = scenario_count ls in
    let s : ℕ = selected_after ls in
    let old : List Change = map (change_of m ls) (range_with_len 0 n) in
    let d : Change = no_change (length m.columns) (length (map shape_of m.rows)) in
    let v : Change = made (slice_index_or old s d) in
    let one : (k : ℕ) → k < n → change_of m (ls ++ l ∷ []) k ≡ (if nat_eq s k then v else change_of m ls k) = λ k h.
    elim (cases_Bool (nat_eq s k)) [
      | inl t ↦
          let same : s ≡ k = eqb-true s k t in
          let read : slice_index_or old s d ≡ change_of m ls k = get_or-map-range_with_len (change_of m ls) 0 n s k d (omega (arith, same, h)) (omega (arith, same)) in
          e k t ∙ ap made (sym read) ∙ sym (ap (λ (b : Bool). if b then v else change_of m ls k) t)
      | inr t ↦ change_other m ls l k t ∙ sym (ap (λ (b : Bool). if b then v else change_of m ls k) t)
    ] in
    let scenarios : map (change_of m (ls ++ l ∷ [])) (range_with_len 0 (scenario_count (ls ++ l ∷ []))) ≡ slice_set old s v =
    ap (λ (c : ℕ). map (change_of m (ls ++ l ∷ [])) (range_with_len 0 c)) (count_kept ls l some)
    ∙ map_same_below d (change_of m (ls ++ l ∷ [])) (λ k. if nat_eq s k then v else change_of m ls k) n one
    ∙ sym (set_by_numbers (change_of m ls) n s v) in
    let selected : selected_after (ls ++ l ∷ []) ≡ s = selected-append ls l ∙ ap (λ (b : Bool). if b then natural_of (field 1 l) else selected_after ls) other in
    ap (λ (xs : List Change). set_of m xs (selected_after (ls ++ l ∷ []))) scenarios ∙ ap (set_of m (slice_set old s v)) selected

-- a line that selects
pub selection_made : (m : IntegerModel) (ls : List Line) (l : Line) → is_empty ls ≡ false → field 0 l ≡ codes "scenario" → changes_of_lines m (ls ++ l ∷ []) ≡ record (changes_of_lines m ls) { selected = natural_of (field 1 l) }
selection_made m ls l some w =
    let one : (k : ℕ) → change_of m (ls ++ l ∷ []) k ≡ change_of m ls k = λ k. change_kept m ls l k (other_word ls l k (codes "name") (codes "scenario") w refl) (other_word ls l k (codes "obj") (codes "scenario") w refl) (other_word ls l k (codes "lb") (codes "scenario") w refl) (other_word ls l k (codes "ub") (codes "scenario") w refl) (other_word ls l k (codes "rhs") (codes "scenario") w refl) in
    let scenarios : map (change_of m (ls ++ l ∷ [])) (range_with_len 0 (scenario_count (ls ++ l ∷ []))) ≡ map (change_of m ls) (range_with_len 0 (scenario_count ls)) =
    ap (λ (c : ℕ). map (change_of m (ls ++ l ∷ [])) (range_with_len 0 c)) (count_kept ls l some)
    ∙ map_same (change_of m (ls ++ l ∷ [])) (change_of m ls) one (range_with_len 0 (scenario_count ls)) in
    let selected : selected_after (ls ++ l ∷ []) ≡ natural_of (field 1 l) = selected-append ls l ∙ ap (λ (b : Bool). if b then natural_of (field 1 l) else selected_after ls) (has_own l (codes "scenario") w) in
    ap (λ (xs : List Change). set_of m xs (selected_after (ls ++ l ∷ []))) scenarios ∙ ap (set_of m (map (change_of m ls) (range_with_len 0 (scenario_count ls)))) selected

-- the first line
no_values : {X : Type 0} (value : List ℕ → Option X) (k : ℕ) (word : List ℕ) (names : List (List ℕ)) → values_set value [] k word names ≡ replicate (length names) None
no_values value k word names = map_constant _ None (λ j. refl) 0 (length names)

none_changed : (m : IntegerModel) (k : ℕ) → change_of m [] k ≡ no_change (length m.columns) (length (map shape_of m.rows))
none_changed m k =
    let columns : length (column_names m) ≡ length m.columns = length-map m.columns (λ (j : Column). j.name) in
    let rows : length (row_names m) ≡ length (map shape_of m.rows) = length-map m.rows (λ (i : Row). i.name) ∙ sym (length-map m.rows shape_of) in
    let number : (word : List ℕ) → values_set number_set [] k word (column_names m) ≡ replicate (length m.columns) None = λ word. no_values number_set k word (column_names m) ∙ ap (λ (n : ℕ). replicate n None) columns in
    same_change _ _ _ _ _ _ _ _ _ _ refl (number (codes "obj")) (number (codes "lb")) (number (codes "ub")) (no_values side_set k (codes "rhs") (row_names m) ∙ ap (λ (n : ℕ). replicate n None) rows)

pub count_made : (m : IntegerModel) (l : Line) → field 0 l ≡ codes "scenarios" → changes_of_lines m (l ∷ []) ≡ with_number (changes_of_lines m []) (natural_of (field 1 l))
count_made m l w =
    let n : ℕ = natural_of (field 1 l) in
    let d : Change = no_change (length m.columns) (length (map shape_of m.rows)) in
    let one : (k : ℕ) → change_of m (l ∷ []) k ≡ d = λ k. change_kept m [] l k (other_word [] l k (codes "name") (codes "scenarios") w refl) (other_word [] l k (codes "obj") (codes "scenarios") w refl) (other_word [] l k (codes "lb") (codes "scenarios") w refl) (other_word [] l k (codes "ub") (codes "scenarios") w refl) (other_word [] l k (codes "rhs") (codes "scenarios") w refl) ∙ none_changed m k in
    let all : n ≡ n - 0 = omega arith in
    let nothing : take n [] ≡ [] = take_all n [] (omega arith) in
    let scenarios : map (change_of m (l ∷ [])) (range_with_len 0 n) ≡ resized [] n d = map_constant (change_of m (l ∷ [])) d one 0 n ∙ ap (λ (k : ℕ). replicate k d) all ∙ ap (λ (xs : List Change). xs ++ replicate (n - 0) d) (sym nothing) in
    let selected : selected_after (l ∷ []) ≡ 0 = selected-append [] l ∙ ap (λ (w : List ℕ). if bytes_eq w (codes "scenario") then natural_of (field 1 l) else 0) w in
    ap (λ (xs : List Change). set_of m xs (selected_after (l ∷ []))) scenarios ∙ ap (set_of m (resized [] n d)) selected
