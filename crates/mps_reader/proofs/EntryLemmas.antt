-- How one more entry changes what a section has given.
use Rattle.std.proofs.Common.{◌≡◌, ◌∙◌, ap, ℕ, ◌+◌, Bool, true, false, ◌||◌, ◌&&◌, cond, List, [], ◌∷◌, ◌++◌, Option, Some, None, refl, ℤ, nat_lt, unsigned_abs, Result, Ok, Err}
use Rattle.std.specs.Prelude.{bytes_eq, is_some, option_map, find}
use Rattle.std.specs.List.{list_any}
use Rattle.std.proofs.lemmas.Bool.{or_parts, and_right}
use Rattle.std.proofs.lemmas.List.Sums.{sum_by_push}
use Rattle.mps_reader.specs.MpsLines.{Line, Entry, is_kept}
use Rattle.mps_reader.specs.MpsRules.{or_else, entries_kind, is_nonzero, term_count, is_nonzero_result}
use Rattle.mps_reader.specs.MpsModels.{given, number_or_zero, ok_or_zero}
use Rattle.mps_reader.specs.RowStates.{is_entry, is_given}
use Rattle.mps_reader.specs.declared.MpsKind.{MpsKind}
use Rattle.mps_reader.proofs.OpeningLemmas.{bytes_eq-refl, or-false, list_any-append}
use Rattle.num_text.specs.NumberText.{number_of}
use Rattle.num_text.specs.declared.number.NumberError.{NumberError}

pub is_given-push : (es : List Entry) (e : Entry) (o n : List ℕ) → is_given (es ++ e ∷ []) o n ≡ (is_given es o n || is_entry o n e)
is_given-push es e o n = list_any-append (is_entry o n) es (e ∷ []) ∙ ap (λ b. is_given es o n || b) (or-false (is_entry o n e))

pub entry_other : (e : Entry) (o n : List ℕ) → bytes_eq e.row n ≡ false → is_entry o n e ≡ false
entry_other e o n not_it = and_right (bytes_eq e.owner o) (bytes_eq e.row n) not_it

pub entry_own : (e : Entry) → is_entry e.owner e.row e ≡ true
entry_own e = ap (λ b. b && bytes_eq e.row e.row) (bytes_eq-refl e.owner) ∙ bytes_eq-refl e.row

pub given_other : (es : List Entry) (e : Entry) (o n : List ℕ) → is_entry o n e ≡ false → is_given (es ++ e ∷ []) o n ≡ is_given es o n
given_other es e o n not_it = is_given-push es e o n ∙ ap (λ b. is_given es o n || b) not_it ∙ or-false (is_given es o n)

module _ {X : Type 0} (p : X → Bool) where
  found_b : (b : Bool) (x : X) (o : Option X) → is_some (cond b (Some x) o) ≡ (b || is_some o)
  found_b true x o = refl
  found_b false x o = refl

  pub found_some : (xs : List X) → is_some (find p xs) ≡ list_any p xs
  found_some [] = refl
  found_some (x ∷ xs) = found_b (p x) x (find p xs) ∙ ap (λ b. p x || b) (found_some xs)

  pub find_other : (xs : List X) (x : X) → p x ≡ false → find p (xs ++ x ∷ []) ≡ find p xs
  find_other [] x not_it = rw not_it refl
  find_other (y ∷ xs) x not_it = ap (λ o. cond (p y) (Some y) o) (find_other xs x not_it)

  pub find_new : (xs : List X) (x : X) → list_any p xs ≡ false → p x ≡ true → find p (xs ++ x ∷ []) ≡ Some x
  find_new [] x none is_it = rw is_it refl
  find_new (y ∷ xs) x none is_it =
      let parts = or_parts (p y) (list_any p xs) none in
      ap (λ b. cond b (Some y) (find p (xs ++ x ∷ []))) parts.0 ∙ find_new xs x parts.1 is_it

some_mapped : {X Y : Type 0} (f : X → Y) (o : Option X) → is_some (option_map f o) ≡ is_some o
some_mapped f None = refl
some_mapped f (Some x) = refl

pub given_some : (es : List Entry) (o n : List ℕ) → is_some (given es o n) ≡ is_given es o n
given_some es o n = some_mapped (λ (e : Entry). number_or_zero e.text) (find (is_entry o n) es) ∙ found_some (is_entry o n) es

pub number_other : (es : List Entry) (e : Entry) (o n : List ℕ) → is_entry o n e ≡ false → given (es ++ e ∷ []) o n ≡ given es o n
number_other es e o n not_it = ap (option_map (λ (e : Entry). number_or_zero e.text)) (find_other (is_entry o n) es e not_it)

pub number_new : (es : List Entry) (e : Entry) → is_given es e.owner e.row ≡ false → given (es ++ e ∷ []) e.owner e.row ≡ Some (number_or_zero e.text)
number_new es e none = ap (option_map (λ (e : Entry). number_or_zero e.text)) (find_new (is_entry e.owner e.row) es e none (entry_own e))

-- ---- lists of one entry or two

pub or_none : (o : Option MpsKind) → or_else o None ≡ o
or_none None = refl
or_none (Some k) = refl

pub one_kind : (kind : List Entry → Entry → Option MpsKind) (before : List Entry) (e : Entry) → entries_kind kind before (e ∷ []) ≡ kind before e
one_kind kind before e = or_none (kind before e)

pub first_entry : (kind : List Entry → Entry → Option MpsKind) (before : List Entry) (e : Entry) (es : List Entry) (k : MpsKind) → kind before e ≡ Some k → entries_kind kind before (e ∷ es) ≡ Some k
first_entry kind before e es k some = ap (λ o. or_else o (entries_kind kind (before ++ e ∷ []) es)) some

pub next_entry : (kind : List Entry → Entry → Option MpsKind) (before : List Entry) (e : Entry) (es : List Entry) → kind before e ≡ None → entries_kind kind before (e ∷ es) ≡ entries_kind kind (before ++ e ∷ []) es
next_entry kind before e es none = ap (λ o. or_else o (entries_kind kind (before ++ e ∷ []) es)) none

-- ---- terms

pub term_added : (ls : List Line) (es : List Entry) (e : Entry) → term_count ls (es ++ e ∷ []) ≡ term_count ls es + cond (is_kept ls e.row && is_nonzero e.text) 1 0
term_added ls es e = sum_by_push (λ (e : Entry). cond (is_kept ls e.row && is_nonzero e.text) 1 0) es e

-- ---- numbers

nonzero_result : (r : Result ℤ NumberError) → is_nonzero_result r ≡ nat_lt 0 (unsigned_abs (ok_or_zero r))
nonzero_result (Ok z) = refl
nonzero_result (Err e) = refl

pub nonzero_is : (text : List ℕ) → is_nonzero text ≡ nat_lt 0 (unsigned_abs (number_or_zero text))
nonzero_is text = nonzero_result (number_of text)
