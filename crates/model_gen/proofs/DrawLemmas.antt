-- The words of the generator, and how many columns a row has.
use Rattle.std.proofs.Common.{◌≡◌, ◌∙◌, ap, sym, refl, ◌⊎◌, inl, inr, ℕ, zero, suc, ◌+◌, ◌-◌, ◌*◌, ◌/◌, ◌%◌, ◌<◌, ◌≤◌, min, Bool, true, false, nat_eq, nat_lt, List, [], ◌∷◌, ◌++◌, length, filter, arith, append_assoc, length-append}
use Rattle.std.proofs.lemmas.Nat.{div-mul-add, mod-mul-add, div-add-mod', mod_below, le-div}
use Rattle.std.proofs.lemmas.List.{append-nil}
use Rattle.std.proofs.lemmas.List.Elements.{filter-append}
use Rattle.std.specs.List.{range_with_len}
use Rattle.rand_core.specs.Steps.{first_words}
use Rattle.model_gen.specs.Draws.{word, size, filled, demand_of, demand}

-- ---- words

pub words_begun : {S : Type 0} (step : S → ℕ × S) (g h : S) (count : ℕ) (words : List ℕ) → g ≡ h → words ≡ [] → first_words step count h ≡ words ++ first_words step (count - 0) g
words_begun step g h count words e f =
    let all : count ≡ count - 0 = omega arith in
    rw (e, f) (ap (λ n. first_words step n h) all)

pub words_more : {S : Type 0} (step : S → ℕ × S) (g t : S) (w k count : ℕ) (whole words new : List ℕ) → k < count → (w, t) ≡ step g → whole ≡ words ++ first_words step (count - k) g → new ≡ words ++ w ∷ [] → whole ≡ new ++ first_words step (count - (k + 1)) t
unfolding first_words
words_more {S} step g t w k count whole words new h e before after =
    let m = count - (k + 1) in
    let next : count - k ≡ suc m = omega arith in
    before
    ∙ ap (λ n. words ++ first_words step n g) next
    ∙ ap (λ (p : ℕ × S). words ++ (p.0 ∷ first_words step m p.1)) (sym e)
    ∙ sym (append_assoc words (w ∷ []) (first_words step m t))
    ∙ ap (λ l. l ++ first_words step m t) (sym after)

pub words_ended : {S : Type 0} (step : S → ℕ × S) (g : S) (k count : ℕ) (whole words : List ℕ) → count ≤ k → whole ≡ words ++ first_words step (count - k) g → words ≡ whole
unfolding first_words
words_ended step g k count whole words h e =
    let none : count - k ≡ 0 = omega arith in
    sym (e ∙ ap (λ n. words ++ first_words step n g) none ∙ append-nil words)

pub length-first_words : {S : Type 0} (step : S → ℕ × S) (count : ℕ) (g : S) → length (first_words step count g) ≡ count
unfolding first_words
length-first_words step zero g = refl
length-first_words step (suc n) g = ap suc (length-first_words step n (step g).1)

-- ---- sizes

pub range_more : (a n : ℕ) → range_with_len a (suc n) ≡ range_with_len a n ++ (a + n) ∷ []
range_more a zero = let same : a ≡ a + 0 = omega arith in ap (λ k. k ∷ []) same
range_more a (suc n) =
    let same : a + 1 + n ≡ a + suc n = omega arith in
    ap (λ l. a ∷ l) (range_more (a + 1) n ∙ ap (λ k. range_with_len (a + 1) n ++ k ∷ []) same)

-- 1 where a test is true
abbrev one : Bool → ℕ
one b = mir.Val.bool_byte b

length-filter_one : (p : ℕ → Bool) (n : ℕ) (b : Bool) → p n ≡ b → length (filter p (n ∷ [])) ≡ one b
length-filter_one p n true e = rw e refl
length-filter_one p n false e = rw e refl

size_more : (n rows i : ℕ) → size (suc n) rows i ≡ size n rows i + one (nat_eq (n % rows) i)
unfolding size
size_more n rows i =
    let p = λ (j : ℕ). nat_eq (j % rows) i in
    ap (λ l. length (filter p l)) (range_more 0 n)
    ∙ ap length (filter-append p (range_with_len 0 n) ((0 + n) ∷ []))
    ∙ length-append (filter p (range_with_len 0 n)) (filter p ((0 + n) ∷ []))
    ∙ ap (λ k. length (filter p (range_with_len 0 n)) + k) (ap (λ k. length (filter p (k ∷ []))) (omega arith) ∙ length-filter_one p n _ refl)

-- a division goes on by one
div_more : (n d : ℕ) → n % d + 1 < d → suc n / d ≡ n / d
div_more n d h =
    let next : suc n ≡ n / d * d + (n % d + 1) = omega (arith, div-add-mod' n d) in
    ap (λ k. k / d) next ∙ div-mul-add (n / d) d (n % d + 1) h

mod_more : (n d : ℕ) → n % d + 1 < d → suc n % d ≡ n % d + 1
mod_more n d h =
    let next : suc n ≡ n / d * d + (n % d + 1) = omega (arith, div-add-mod' n d) in
    ap (λ k. k % d) next ∙ mod-mul-add (n / d) d (n % d + 1) h

div_next : (n d : ℕ) → 0 < d → n % d + 1 ≡ d → suc n / d ≡ n / d + 1
div_next n d h e =
    let next : suc n ≡ (n / d + 1) * d + 0 = omega (arith, div-add-mod' n d) in
    ap (λ k. k / d) next ∙ div-mul-add (n / d + 1) d 0 h

mod_next : (n d : ℕ) → 0 < d → n % d + 1 ≡ d → suc n % d ≡ 0
mod_next n d h e =
    let next : suc n ≡ (n / d + 1) * d + 0 = omega (arith, div-add-mod' n d) in
    ap (λ k. k % d) next ∙ mod-mul-add (n / d + 1) d 0 h

counted : (q r q' r' i rows : ℕ) → i < rows → r < rows → (r + 1 < rows → q' ≡ q) → (r + 1 < rows → r' ≡ r + 1) → (r + 1 ≡ rows → q' ≡ q + 1) → (r + 1 ≡ rows → r' ≡ 0) → q + one (nat_lt i r) + one (nat_eq r i) ≡ q' + one (nat_lt i r')
counted q r q' r' i rows h k a b c d = grind arith

counted_none : (q r i : ℕ) → q ≡ 0 → r ≡ 0 → q + one (nat_lt i r) ≡ 0
counted_none q r i e f = grind arith

pub size_is : (columns rows i : ℕ) → i < rows → columns / rows + one (nat_lt i (columns % rows)) ≡ size columns rows i
unfolding size
size_is zero rows i h =
    let some : 0 < rows = omega arith in
    let none : 0 ≡ 0 * rows + 0 = omega arith in
    counted_none (0 / rows) (0 % rows) i (ap (λ n. n / rows) none ∙ div-mul-add 0 rows 0 some) (ap (λ n. n % rows) none ∙ mod-mul-add 0 rows 0 some)
size_is (suc n) rows i h =
    let some : 0 < rows = omega arith in
    sym (size_more n rows i ∙ ap (λ k. k + one (nat_eq (n % rows) i)) (sym (size_is n rows i h))
    ∙ counted (n / rows) (n % rows) (suc n / rows) (suc n % rows) i rows h (mod_below n rows some) (div_more n rows) (mod_more n rows) (div_next n rows some) (mod_next n rows some))

-- a row past the columns has none
size_none : (columns rows i : ℕ) → i < rows → columns ≤ i → size columns rows i ≡ 0
size_none columns rows i h k =
    let below : columns < rows = omega arith in
    let same : columns ≡ 0 * rows + columns = omega arith in
    sym (size_is columns rows i h)
    ∙ none (columns / rows) (columns % rows) columns i k (ap (λ n. n / rows) same ∙ div-mul-add 0 rows columns below) (ap (λ n. n % rows) same ∙ mod-mul-add 0 rows columns below)
  where
    none : (q r columns i : ℕ) → columns ≤ i → q ≡ 0 → r ≡ columns → q + one (nat_lt i r) ≡ 0
    none q r columns i k e f = grind arith

pub size_some : (columns rows i : ℕ) → i < rows → (size columns rows i ≡ 0 → ⊥) → i < columns
size_some columns rows i h some =
    let none : columns ≤ i → ⊥ = λ k. some (size_none columns rows i h k) in
    omega (arith, none)

-- ---- rows that have columns

-- what holds in either order of two numbers
either_order : (a b : ℕ) (P : Type 0) → (a < b → P) → (b ≤ a → P) → P
either_order a b P below above = elim (decided a b) [ inl h ↦ below h | inr h ↦ above h ]
  where
    decided : (a b : ℕ) → (a < b) ⊎ (b ≤ a)
    decided a zero = inr (omega arith)
    decided zero (suc b) = inl (omega arith)
    decided (suc a) (suc b) = elim (decided a b) [ inl h ↦ inl (omega arith) | inr h ↦ inr (omega arith) ]

counted_some : (q r columns i : ℕ) → i < columns → q ≡ 0 → r ≡ columns → 0 < q + one (nat_lt i r)
counted_some q r columns i k e f = grind arith

size_within : (columns rows i : ℕ) → i < columns → columns < rows → 0 < columns / rows + one (nat_lt i (columns % rows))
size_within columns rows i k below =
    let same : columns ≡ 0 * rows + columns = omega arith in
    counted_some (columns / rows) (columns % rows) columns i k (ap (λ n. n / rows) same ∙ div-mul-add 0 rows columns below) (ap (λ n. n % rows) same ∙ mod-mul-add 0 rows columns below)

size_past : (columns rows i : ℕ) → 0 < rows → rows ≤ columns → 0 < columns / rows + one (nat_lt i (columns % rows))
size_past columns rows i some h =
    let once : 1 * rows ≤ columns = omega arith in
    let whole : 1 ≤ columns / rows = le-div 1 columns rows some once in
    omega (arith, whole)

size_positive : (columns rows i : ℕ) → i < rows → i < columns → 0 < size columns rows i
size_positive columns rows i h k =
    let within : columns < rows → 0 < size columns rows i = λ below. rw (← size_is columns rows i h) (size_within columns rows i k below) in
    let past : rows ≤ columns → 0 < size columns rows i = λ above. rw (← size_is columns rows i h) (size_past columns rows i (omega arith) above) in
    either_order columns rows (0 < size columns rows i) within past

filled_more : (columns rows n : ℕ) → filled columns rows (suc n) ≡ filled columns rows n + one (nat_lt 0 (size columns rows n))
unfolding filled
filled_more columns rows n =
    let p = λ (i : ℕ). nat_lt 0 (size columns rows i) in
    ap (λ l. length (filter p l)) (range_more 0 n)
    ∙ ap length (filter-append p (range_with_len 0 n) ((0 + n) ∷ []))
    ∙ length-append (filter p (range_with_len 0 n)) (filter p ((0 + n) ∷ []))
    ∙ ap (λ k. length (filter p (range_with_len 0 n)) + k) (ap (λ k. length (filter p (k ∷ []))) (omega arith) ∙ length-filter_one p n _ refl)

next_filled : (f size : ℕ) → 0 < size → f + one (nat_lt 0 size) ≡ f + 1
next_filled f size h = grind arith

next_empty : (f size : ℕ) → size ≡ 0 → f + one (nat_lt 0 size) ≡ f
next_empty f size h = grind arith

-- they are the first rows
pub filled_within : (columns rows n : ℕ) → n ≤ rows → n ≤ columns → filled columns rows n ≡ n
unfolding filled
filled_within columns rows zero h k = refl
filled_within columns rows (suc n) h k =
    filled_more columns rows n
    ∙ next_filled (filled columns rows n) (size columns rows n) (size_positive columns rows n (omega arith) (omega arith))
    ∙ ap (λ m. m + 1) (filled_within columns rows n (omega arith) (omega arith))
    ∙ (omega arith)

pub filled_past : (columns rows n : ℕ) → n ≤ rows → columns ≤ n → filled columns rows n ≡ columns
filled_past columns rows zero h k = filled_within columns rows zero h (omega arith) ∙ (omega arith)
filled_past columns rows (suc n) h k =
    let at : suc n ≤ columns → filled columns rows (suc n) ≡ columns = λ g. filled_within columns rows (suc n) h g ∙ omega arith in
    let past : columns < suc n → filled columns rows (suc n) ≡ columns = λ g. filled_more columns rows n ∙ next_empty (filled columns rows n) (size columns rows n) (size_none columns rows n (omega arith) (omega arith)) ∙ filled_past columns rows n (omega arith) (omega arith) in
    either_order columns (suc n) (filled columns rows (suc n) ≡ columns) past at

pub filled_all : (columns rows : ℕ) → filled columns rows rows ≡ min columns rows
filled_all columns rows =
    let within : rows ≤ columns → filled columns rows rows ≡ min columns rows = λ h. filled_within columns rows rows (omega arith) h ∙ omega arith in
    let past : columns < rows → filled columns rows rows ≡ min columns rows = λ h. filled_past columns rows rows (omega arith) (omega arith) ∙ omega arith in
    either_order columns rows (filled columns rows rows ≡ min columns rows) past within

demand_of_some : (n w : ℕ) → (n ≡ 0 → ⊥) → 1 + w % (9 * n) ≡ demand_of n w
demand_of_some zero w some = absurd (some refl)
demand_of_some (suc n) w some = refl

pub demand_some : (words : List ℕ) (columns rows i n : ℕ) → i < rows → n ≡ size columns rows i → (n ≡ 0 → ⊥) → 1 + word words (columns + i) % (9 * n) ≡ demand words columns rows i
demand_some words columns rows i n h e some =
    let within : i < columns = size_some columns rows i h (λ none. some (e ∙ none)) in
    demand_of_some n (word words (columns + i)) some
    ∙ ap (λ m. demand_of m (word words (columns + i))) e
    ∙ ap (λ k. demand_of (size columns rows i) (word words (columns + k))) (sym (filled_within columns rows i (omega arith) (omega arith)))
