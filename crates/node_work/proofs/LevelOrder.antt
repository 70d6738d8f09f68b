-- The order of levels.
use Rattle.std.specs.Prelude.{◌≡◌, ℤ, int_le, Bool, true, false, cond, refl}
use Rattle.std.proofs.Common.{arith}
use Rattle.std.proofs.lemmas.Int.{ints}
use Rattle.certs.specs.Levels.{level_le, greater_level}
use Rattle.certs.specs.declared.level.Level.{Level}
use Rattle.certs.specs.declared.level.Level.TheVariants.{Value, Inf}

int_trans : (a b c : ℤ) → int_le a b ≡ true → int_le b c ≡ true → int_le a c ≡ true
int_trans a b c h g = grind (arith, ints)

pub le_trans : (a b c : Level) → level_le a b ≡ true → level_le b c ≡ true → level_le a c ≡ true
le_trans (Value a) (Value b) (Value c) h g = int_trans a b c h g
le_trans (Value a) (Value b) Inf h g = refl
le_trans (Value a) Inf (Value c) h g = absurd (cc)
le_trans (Value a) Inf Inf h g = refl
le_trans Inf (Value b) c h g = absurd (cc)
le_trans Inf Inf (Value c) h g = absurd (cc)
le_trans Inf Inf Inf h g = refl

pub le_inf : (a : Level) → level_le a Inf ≡ true
le_inf (Value a) = refl
le_inf Inf = refl

int_total : (a b : ℤ) → int_le a b ≡ false → int_le b a ≡ true
int_total a b h = grind (arith, ints)

pub le_other : (a b : Level) → level_le a b ≡ false → level_le b a ≡ true
le_other (Value a) (Value b) h = int_total a b h
le_other (Value a) Inf h = absurd (cc)
le_other Inf (Value b) h = refl
le_other Inf Inf h = absurd (cc)

int_same : (a : ℤ) → int_le a a ≡ true
int_same a = grind (arith, ints)

pub le_same : (a : Level) → level_le a a ≡ true
le_same (Value a) = int_same a
le_same Inf = refl

-- what is at most the second of two levels is at most the greater one
pub le_greater : (c l m : Level) → level_le c m ≡ true → level_le c (greater_level l m) ≡ true
le_greater c l m h = by_test (level_le l m) refl
  where
    by_test : (b : Bool) → level_le l m ≡ b → level_le c (cond b m l) ≡ true
    by_test true e = h
    by_test false e = le_trans c m l h (le_other l m e)
