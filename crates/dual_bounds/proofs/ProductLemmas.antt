-- Products within 128 bits, as the code has them.
use Rattle.std.proofs.Common.{◌≡◌, ℕ, ◌*◌, ◌^◌, ◌<◌, ◌≤◌, ℤ, ◌*ℤ◌, unsigned_abs, FitsSigned, to_z, of_z, arith}
use Rattle.std.proofs.lemmas.Int.{to_z-of_z, unsigned_abs-mul, fits_signed_from_abs}
use Rattle.std.proofs.Math.Nat.{mul-le-mul}
use mir.Syntax.{w128}

pub product-limit : (a b : ℤ) (m n : ℕ) → unsigned_abs a ≤ m → unsigned_abs b ≤ n → unsigned_abs (a *ℤ b) ≤ m * n
product-limit a b m n h k = rw unsigned_abs-mul (mul-le-mul h k)

pub wide-fits : (z : ℤ) (m : ℕ) → unsigned_abs z ≤ m → m < 2 ^ 127 → FitsSigned w128 z
wide-fits z m h k = fits_signed_from_abs w128 z (omega (arith, h, k))

pub product-kept : (a b x y : ℤ) (m n : ℕ) → x ≡ a → y ≡ b → unsigned_abs a ≤ m → unsigned_abs b ≤ n → m < 2 ^ 127 → n < 2 ^ 127 → m * n < 2 ^ 127 → to_z w128 (of_z w128 (to_z w128 (of_z w128 x) *ℤ to_z w128 (of_z w128 y))) ≡ a *ℤ b
product-kept a b x y m n ex ey ha hb hm hn hp =
    rw (ex, ey, to_z-of_z w128 a (wide-fits a m ha hm), to_z-of_z w128 b (wide-fits b n hb hn))
    (to_z-of_z w128 (a *ℤ b) (wide-fits (a *ℤ b) (m * n) (product-limit a b m n ha hb) hp))
