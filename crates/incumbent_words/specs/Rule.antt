-- The rule of the words: what they and the seats' views keep between any two steps, and what each step tells.
use Rattle.std.specs.Prelude.{◌≡◌, ℕ, ◌+◌, ◌<◌, ◌≤◌, min, List, [], ◌∷◌, ◌++◌, length, slice_index_or, slice_set, replicate, Bool, true, false, ◌==◌, cond}
use mathlib.Core.Option.{some}
use lib.ListN.{get_elem?}
use Rattle.atomic_table.specs.Table.{State, Me, Step}
use Rattle.incumbent_words.specs.declared.view.View.{View}
use Rattle.incumbent_words.specs.Codes.{no_value, IsCode}

-- the code at a place, or that of none
abbrev pub code_at : List ℕ → ℕ → ℕ
code_at xs s = slice_index_or xs s no_value

-- how often x stands in the list
abbrev pub times : ℕ → List ℕ → ℕ
times x [] = 0
times x (y ∷ ys) = cond (x == y) 1 0 + times x ys

-- of a number x that stands k times: once where it is below n, and else never
abbrev pub OnceBelow : ℕ → ℕ → ℕ → Type 0
OnceBelow x n k = (x < n → k ≡ 1) × (n ≤ x → k ≡ 0)

abbrev pub total_of : (View → ℕ) → List View → ℕ
total_of f [] = 0
total_of f (v ∷ vs) = f v + total_of f vs

-- the least own offer for s in these views, or the code of none
abbrev pub least_offer : ℕ → List View → ℕ
least_offer s [] = no_value
least_offer s (v ∷ vs) = min (code_at v.offers s) (least_offer s vs)

abbrev pub weight : View → ℕ
weight v = cond v.leads 1 0

abbrev pub count_in : View → ℕ
count_in v = v.count

abbrev pub numbered : ℕ → View → ℕ
numbered x v = times x v.numbers

-- one view: its caps lie between the words and its own offers, and without a number it has no offer
pub record Fits (n : ℕ) (words : List ℕ) (v : View) : Type 0 where
  pub above : (s : ℕ) → s < n → code_at words s ≤ code_at v.caps s
  pub below : (s : ℕ) → s < n → code_at v.caps s ≤ code_at v.offers s
  pub codes : (s : ℕ) → s < n → IsCode (code_at v.offers s)
  pub idle : v.numbers ≡ [] → (s : ℕ) → s < n → code_at v.offers s ≡ no_value
  pub follows : v.leads ≡ false → v.count ≡ 0

pub record Keeps (n : ℕ) (words : List ℕ) (views : List View) : Type 0 where
  pub wide : length words ≡ n
  pub codes : (s : ℕ) → s < n → IsCode (code_at words s)
  pub least : (s : ℕ) → s < n → code_at words s ≡ least_offer s views
  pub each : (k : ℕ) (v : View) → get_elem? views k ≡ some v → Fits n words v
  pub leader : total_of weight views ≡ 1
  pub numbers : (x : ℕ) → OnceBelow x (total_of count_in views) (total_of (numbered x) views)

abbrev pub Holds : ℕ → State (Unit {0}) View → Type 0
Holds n s = Keeps n s.words s.views

abbrev pub none_for : ℕ → List ℕ
none_for n = replicate n no_value

-- the kinds of step, on the views
abbrev pub master_view : ℕ → View
master_view n = record { caps = none_for n; offers = none_for n; numbers = 0 ∷ []; leads = true; count = 1 }

abbrev pub looked : View → ℕ → ℕ → View
looked v s word = record { caps = slice_set v.caps s word; offers = v.offers; numbers = v.numbers; leads = v.leads; count = v.count }

abbrev pub offered : View → ℕ → ℕ → ℕ → View
offered v s word k = record { caps = slice_set v.caps s (min word k); offers = slice_set v.offers s (min (code_at v.offers s) k); numbers = v.numbers; leads = v.leads; count = v.count }

abbrev pub one_more : View → View
one_more v = record { caps = v.caps; offers = v.offers; numbers = v.numbers; leads = v.leads; count = v.count + 1 }

abbrev pub member_of : View → View
member_of v = record { caps = v.caps; offers = none_for (length v.caps); numbers = v.count ∷ []; leads = false; count = 0 }

abbrev pub note_of : View → View
note_of v = record { caps = v.caps; offers = none_for (length v.caps); numbers = []; leads = false; count = 0 }

abbrev pub least_of : List ℕ → List ℕ → List ℕ
least_of [] ys = []
least_of (x ∷ xs) [] = []
least_of (x ∷ xs) (y ∷ ys) = min x y ∷ least_of xs ys

abbrev pub either_leads : Bool → Bool → Bool
either_leads true b = true
either_leads false b = b

abbrev pub joined : View → View → View
joined v w = record { caps = least_of v.caps w.caps; offers = least_of v.offers w.offers; numbers = v.numbers ++ w.numbers; leads = either_leads v.leads w.leads; count = v.count + w.count }

-- a spent view has no cap, number, offer or count
abbrev pub spent : View
spent = record { caps = []; offers = []; numbers = []; leads = false; count = 0 }

-- no number, no offer and no count
pub record IsNote (v : View) : Type 0 where
  pub offers : v.offers ≡ none_for (length v.caps)
  pub numbers : v.numbers ≡ []
  pub leads : v.leads ≡ false
  pub count : v.count ≡ 0

-- the view is as before but for the caps
pub record IsSameButCaps (before now : View) : Type 0 where
  pub offers : now.offers ≡ before.offers
  pub numbers : now.numbers ≡ before.numbers
  pub leads : now.leads ≡ before.leads
  pub count : now.count ≡ before.count

-- the seat has the count and all numbers below it
abbrev pub HasAll : View → Type 0
HasAll v = (v.leads ≡ true) × ((x : ℕ) → x < v.count → 0 < times x v.numbers)

-- what a look tells
abbrev pub Looked : Step (Unit {0}) → Me (Unit {0}) View → ℕ → Me (Unit {0}) View → Type 0
Looked st me found me' =
    (me' ≡ (looked me.0 st.word found, me.1)) × (found ≤ code_at me.0.caps st.word) × (found ≤ code_at me.0.offers st.word) × IsCode found
    × (HasAll me.0 → found ≡ code_at me.0.offers st.word)

-- what an offer tells
abbrev pub Offered : Step (Unit {0}) → Me (Unit {0}) View → ℕ → Me (Unit {0}) View → Type 0
Offered st me found me' =
    (me' ≡ (offered me.0 st.word found st.first, me.1)) × (found ≤ code_at me.0.caps st.word) × (found ≤ code_at me.0.offers st.word) × IsCode found
