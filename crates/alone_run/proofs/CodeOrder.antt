-- Codes and levels have one order.
use Rattle.std.specs.Prelude.{◌≡◌, ◌<◌, ◌≤◌, ℕ, zero, suc, ℤ, pos, negsuc, ◌≤ℤ◌, Option, Some, None, IfSome, IsTrue, List, [], ◌∷◌, length, slice_set, Bool, true, false, cond, refl}
use Rattle.std.proofs.Common.{arith, ap}
use Rattle.std.proofs.lemmas.Int.{ints}
use Rattle.certs.specs.Levels.{level_le, cap_level, lesser_level}
use Rattle.certs.specs.declared.level.Level.{Level}
use Rattle.certs.specs.declared.level.Level.TheVariants.{Value, Inf}
use Rattle.incumbent_words.specs.Codes.{code, code_of, no_value, IsValue}
use Rattle.incumbent_words.specs.Rule.{code_at}

value_le : (a b : ℤ) → IsValue a → IsValue b → code a ≤ code b → a ≤ℤ b
value_le (pos m) (pos n) h g e = omega (arith, ints, h, g, e)
value_le (pos m) (negsuc n) h g e = omega (arith, ints, h, g, e)
value_le (negsuc m) (pos n) h g e = omega (arith, ints, h, g, e)
value_le (negsuc m) (negsuc n) h g e = omega (arith, ints, h, g, e)

code_below : (a : ℤ) → IsValue a → code a < no_value
code_below (pos m) h = omega (arith, ints, h)
code_below (negsuc m) h = omega (arith, ints, h)

-- of two values, or none, the one with the lesser code is at most the other
pub code_level : (a b : Option ℤ) → IfSome a IsValue → IfSome b IsValue → code_of a ≤ code_of b → IsTrue (level_le (cap_level a) (cap_level b))
code_level None None h g e = refl
code_level None (Some b) h g e = absurd (omega (arith, e, code_below b g))
code_level (Some a) None h g e = refl
code_level (Some a) (Some b) h g e = let w : a ≤ℤ b = value_le a b h g e in grind (arith, ints, w)

pub code_same : (a b : Option ℤ) → IfSome a IsValue → IfSome b IsValue → code_of a ≡ code_of b → IsTrue (level_le (cap_level a) (cap_level b))
code_same a b h g e = code_level a b h g (omega (arith, e))

-- ---- levels

pub le_self : (a : Level) → IsTrue (level_le a a)
le_self (Value a) = grind (arith, ints)
le_self Inf = refl

pub le_trans : (a b c : Level) → IsTrue (level_le a b) → IsTrue (level_le b c) → IsTrue (level_le a c)
le_trans (Value a) (Value b) (Value c) g h = grind (arith, ints, g, h)
le_trans (Value a) b Inf g h = refl
le_trans (Value a) Inf (Value c) g h = absurd (cc)
le_trans Inf (Value b) c g h = absurd (cc)
le_trans Inf Inf c g h = h

le_else : (a b : Level) → level_le a b ≡ false → IsTrue (level_le b a)
le_else (Value a) (Value b) h = grind (arith, ints, h)
le_else (Value a) Inf h = absurd (cc)
le_else Inf (Value b) h = refl
le_else Inf Inf h = absurd (cc)

pub below_both : (x a b : Level) → IsTrue (level_le x a) → IsTrue (level_le x b) → IsTrue (level_le x (lesser_level a b))
below_both x a b g h = by_test (level_le a b)
  where
    by_test : (t : Bool) → IsTrue (level_le x (cond t a b))
    by_test true = g
    by_test false = h

pub lesser_below : (a b : Level) → IsTrue (level_le (lesser_level a b) b)
lesser_below a b = by_test (level_le a b) refl
  where
    by_test : (t : Bool) → level_le a b ≡ t → IsTrue (level_le (cond t a b) b)
    by_test true e = e
    by_test false e = le_self b

-- ---- lists of codes

-- after a write of a code that is no greater
pub set_le : (codes : List ℕ) (s c : ℕ) → c ≤ code_at codes s → (k : ℕ) → code_at (slice_set codes s c) k ≤ code_at codes k
set_le [] s c h k = omega arith
set_le (x ∷ codes) zero c h zero = h
set_le (x ∷ codes) zero c h (suc k) = omega arith
set_le (x ∷ codes) (suc s) c h zero = omega arith
set_le (x ∷ codes) (suc s) c h (suc k) = set_le codes s c h k

pub set_other : (codes : List ℕ) (s c k : ℕ) → (k ≡ s → ⊥) → code_at (slice_set codes s c) k ≡ code_at codes k
set_other [] s c k h = refl
set_other (x ∷ codes) zero c zero h = absurd (h refl)
set_other (x ∷ codes) zero c (suc k) h = refl
set_other (x ∷ codes) (suc s) c zero h = refl
set_other (x ∷ codes) (suc s) c (suc k) h = set_other codes s c k (λ e. h (ap suc e))

pub set_here : (codes : List ℕ) (s c : ℕ) → s < length codes → code_at (slice_set codes s c) s ≡ c
set_here [] s c h = absurd (omega arith)
set_here (x ∷ codes) zero c h = refl
set_here (x ∷ codes) (suc s) c h = set_here codes s c (omega arith)

pub code_past : (codes : List ℕ) (k : ℕ) → length codes ≤ k → code_at codes k ≡ no_value
code_past [] k h = refl
code_past (x ∷ codes) zero h = absurd (omega arith)
code_past (x ∷ codes) (suc k) h = code_past codes k (omega arith)
