-- Codes are ordered as their values.
use Rattle.std.proofs.Common.{◌≡◌, ◌≤◌, ℤ, pos, negsuc, ◌≤ℤ◌, ap, arith}
use Rattle.std.proofs.lemmas.Int.{ints}
use Rattle.incumbent_words.specs.Codes.{code, IsValue}

pub code-le : (v w : ℤ) → IsValue v → v ≤ℤ w → code v ≤ code w
code-le (pos m) (pos n) a h = omega (arith, ints)
code-le (pos m) (negsuc n) a h = omega (arith, ints)
code-le (negsuc m) (pos n) a h = omega (arith, ints)
code-le (negsuc m) (negsuc n) a h = omega (arith, ints)

pub le-code : (v w : ℤ) → IsValue v → IsValue w → code v ≤ code w → v ≤ℤ w
le-code (pos m) (pos n) a b h = omega (arith, ints)
le-code (pos m) (negsuc n) a b h = omega (arith, ints, a, b)
le-code (negsuc m) (pos n) a b h = omega (arith, ints)
le-code (negsuc m) (negsuc n) a b h = omega (arith, ints, a, b)

pub code-inj : (v w : ℤ) → IsValue v → IsValue w → code v ≡ code w → v ≡ w
code-inj (pos m) (pos n) a b h = ap pos (omega arith)
code-inj (pos m) (negsuc n) a b h = absurd (omega (arith, ints, b))
code-inj (negsuc m) (pos n) a b h = absurd (omega (arith, ints, a))
code-inj (negsuc m) (negsuc n) a b h = ap negsuc (omega (arith, ints, a, b))
