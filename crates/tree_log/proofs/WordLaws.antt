-- What numbers and words of a line say, and how they are spelled.
use Rattle.std.proofs.Common.{◌≡◌, ◌∙◌, ap, refl, ℕ, zero, suc, ◌<◌, ◌≤◌, ◌^◌, ℤ, pos, negsuc, unsigned_abs, Bool, true, false, ◌&&◌, cond, nat_lt, nat_le, nat_eq, List, [], ◌∷◌, Option, Some, None, Result, Ok, Err, arith}
use Rattle.std.specs.Prelude.{option_and_then, option_map, decimal, bytes_eq}
use Rattle.std.proofs.lemmas.Bool.Decides.{nat_tests}
use Rattle.std.proofs.lemmas.Slice.Eq.{bytes_eq-Decides}
use Rattle.num_text.specs.NumberText.{number_of, is_canonical, integer_text}
use Rattle.num_text.specs.declared.number.NumberError.{NumberError}
use Rattle.num_text.proofs.TextLaws.{decimal_text}
use Rattle.tree_log.specs.HasText.{is_within}
use Rattle.tree_log.specs.LineWords.{number_ok, integer_of, below, below_of, within, within_of, behind, none_left}

-- ---- answers that are there

pub bind_some : {X Y : Type 0} (f : X → Option Y) (o : Option X) (y : Y) → option_and_then f o ≡ Some y → (x : X) × (o ≡ Some x) × (f x ≡ Some y)
bind_some f None y e = absurd (cc)
bind_some f (Some x) y e = (x, refl, e)

pub map_some : {X Y : Type 0} (f : X → Y) (o : Option X) (y : Y) → option_map f o ≡ Some y → (x : X) × (o ≡ Some x) × (f x ≡ y)
map_some f None y e = absurd (cc)
map_some f (Some x) y e = (x, refl, cc)

pub some_same : {X : Type 0} (x y : X) → Some x ≡ Some y → x ≡ y
some_same x y e = cc

-- the answer of a test that keeps
pub kept : {X : Type 0} (b : Bool) (o : Option X) (x : X) → cond b o None ≡ Some x → (b ≡ true) × (o ≡ Some x)
kept true o x e = (refl, e)
kept false o x e = absurd (cc)

-- the answer of a test that drops
pub dropped : {X : Type 0} (b : Bool) (o : Option X) (x : X) → cond b None o ≡ Some x → (b ≡ false) × (o ≡ Some x)
dropped true o x e = absurd (cc)
dropped false o x e = (refl, e)

pub both : (a b : Bool) → (a && b) ≡ true → (a ≡ true) × (b ≡ true)
both true b h = (refl, h)
both false b h = absurd (cc)

pub all : (a b : Bool) → a ≡ true → b ≡ true → (a && b) ≡ true
all a b h k = rw h k

pub lt_test : (a b : ℕ) → nat_lt a b ≡ true → a < b
lt_test a b h = grind (arith, nat_tests)

pub lt_true : (a b : ℕ) → a < b → nat_lt a b ≡ true
lt_true a b h = grind (arith, nat_tests)

pub lt_false : (a b : ℕ) → b ≤ a → nat_lt a b ≡ false
lt_false a b h = grind (arith, nat_tests)

pub not_lt : (a b : ℕ) → nat_lt a b ≡ false → b ≤ a
not_lt a b h = grind (arith, nat_tests)

pub le_test : (a b : ℕ) → nat_le a b ≡ true → a ≤ b
le_test a b h = grind (arith, nat_tests)

pub le_true : (a b : ℕ) → a ≤ b → nat_le a b ≡ true
le_true a b h = grind (arith, nat_tests)

pub eq_test : (a b : ℕ) → nat_eq a b ≡ true → a ≡ b
eq_test a b h = grind (arith, nat_tests)

pub eq_true : (a b : ℕ) → a ≡ b → nat_eq a b ≡ true
eq_true a b h = grind (arith, nat_tests)

pub positive : (a : ℕ) → nat_eq a 0 ≡ false → 0 < a
positive a h = grind (arith, nat_tests)

pub not_zero : (a : ℕ) → 0 < a → nat_eq a 0 ≡ false
not_zero a h = grind (arith, nat_tests)

-- ---- words

pub word_is : (w word : List ℕ) → bytes_eq w word ≡ true → w ≡ word
word_is w word h = (bytes_eq-Decides w word).0 h

pub word_same : (word : List ℕ) → bytes_eq word word ≡ true
word_same word = (bytes_eq-Decides word word).1 refl

pub behind_some : (word : List ℕ) (ws vs : List (List ℕ)) → behind word ws ≡ Some vs → ws ≡ word ∷ vs
behind_some word [] vs e = absurd (cc)
behind_some word (w ∷ ws) vs e =
    let h = kept (bytes_eq w word) (Some ws) vs e in
    rw (word_is w word h.0, some_same ws vs h.1) refl

pub behind_same : (word : List ℕ) (ws : List (List ℕ)) → behind word (word ∷ ws) ≡ Some ws
behind_same word ws = rw (word_same word) refl

pub none_left-some : (ws : List (List ℕ)) (u : Unit {0}) → none_left ws ≡ Some u → ws ≡ []
none_left-some [] u e = refl
none_left-some (w ∷ ws) u e = absurd (cc)

-- ---- numbers

number_ok-some : (r : Result ℤ NumberError) (z : ℤ) → number_ok r ≡ Some z → r ≡ Ok z
number_ok-some (Ok y) z e = ap Ok (some_same y z e)
number_ok-some (Err x) z e = absurd (cc)

-- the number of a decimal text
pub integer_of-text : (z : ℤ) → unsigned_abs z < 2 ^ 63 → integer_of (integer_text z) ≡ Some z
integer_of-text z h =
    let text = decimal_text z (omega arith) in
    ap (λ t. cond t (number_ok (number_of (integer_text z))) None) text.canonical ∙ ap number_ok (text.meaning h)

-- no other text has it
pub integer_of-only : (text : List ℕ) (z : ℤ) → unsigned_abs z < 2 ^ 64 → integer_of text ≡ Some z → text ≡ integer_text z
integer_of-only text z h e =
    let canonical = kept (is_canonical text) (number_ok (number_of text)) z e in
    (decimal_text z h).only text canonical.0 (number_ok-some (number_of text) z canonical.1)

below_some : (limit : ℕ) (z : ℤ) (n : ℕ) → below limit z ≡ Some n → (z ≡ pos n) × (n < limit)
below_some limit (pos m) n e =
    let h = kept (nat_lt m limit) (Some m) n e in
    let same : m ≡ n = some_same m n h.1 in
    (ap pos same, rw (← same) (lt_test m limit h.0))
below_some limit (negsuc m) n e = absurd (cc)

pub below_of-text : (limit n : ℕ) → n < limit → limit ≤ 2 ^ 32 → below_of limit (decimal n) ≡ Some n
below_of-text limit n h small =
    ap (option_and_then (below limit)) (integer_of-text (pos n) (omega arith)) ∙ ap (λ t. cond t (Some n) None) (lt_true n limit h)

pub below_of-only : (limit n : ℕ) (text : List ℕ) → limit ≤ 2 ^ 32 → below_of limit text ≡ Some n → (n < limit) × (text ≡ decimal n)
below_of-only limit n text small e =
    let read = bind_some (below limit) (integer_of text) n e in
    let value = below_some limit read.0 n read.2 in
    (value.1, integer_of-only text (pos n) (omega (arith, value.1)) (read.1 ∙ ap Some value.0))

pub within_of-text : (most : ℕ) (z : ℤ) → unsigned_abs z ≤ most → most ≤ 2 ^ 60 → within_of most (integer_text z) ≡ Some z
within_of-text most z h small =
    ap (option_and_then (within most)) (integer_of-text z (omega arith)) ∙ ap (λ t. cond t (Some z) None) (le_true (unsigned_abs z) most h)

pub within_of-only : (most : ℕ) (z : ℤ) (text : List ℕ) → most ≤ 2 ^ 60 → within_of most text ≡ Some z → (unsigned_abs z ≤ most) × (text ≡ integer_text z)
within_of-only most z text small e =
    let read = bind_some (within most) (integer_of text) z e in
    let value = kept (nat_le (unsigned_abs read.0) most) (Some read.0) z read.2 in
    let same : read.0 ≡ z = some_same read.0 z value.1 in
    let limit : unsigned_abs z ≤ most = rw (← same) (le_test (unsigned_abs read.0) most value.0) in
    (limit, integer_of-only text z (omega (arith, limit)) (read.1 ∙ ap Some same))

-- a number lies within ± a limit where its absolute value is at most that
pub abs_within : (most : ℕ) (z : ℤ) → unsigned_abs z ≤ most → is_within most z ≡ true
abs_within zero (pos n) h = grind (arith, nat_tests)
abs_within (suc most) (pos n) h = grind (arith, nat_tests)
abs_within zero (negsuc n) h = absurd (omega (arith, h))
abs_within (suc most) (negsuc n) h = grind (arith, nat_tests)

pub within_abs : (most : ℕ) (z : ℤ) → is_within most z ≡ true → unsigned_abs z ≤ most
within_abs zero (pos n) h = grind (arith, nat_tests)
within_abs (suc most) (pos n) h = grind (arith, nat_tests)
within_abs zero (negsuc n) h = absurd (cc)
within_abs (suc most) (negsuc n) h = grind (arith, nat_tests)
