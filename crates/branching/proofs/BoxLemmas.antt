-- Boxes of intervals that hold one number each.
use Rattle.std.specs.Prelude.{◌≡◌, ℕ, suc, ◌<◌, ◌≤ℤ◌, ◌∷◌, [], length, int_lt, true, false, refl}
use Rattle.std.proofs.Common.{arith}
use Rattle.std.proofs.lemmas.Int.{ints}
use Rattle.int_model.specs.Integers.{int_eq}
use Rattle.int_model.specs.Boxes.{Box, interval_at, is_empty, is_single}

-- a box that isn't empty is single where no interval holds two numbers
pub none-wide : (box : Box) → is_empty box ≡ false → ((k : ℕ) → k < length box → (interval_at box k).high ≤ℤ (interval_at box k).low) → is_single box ≡ true
none-wide [] e h = refl
none-wide (i ∷ box) e h =
    let here : i.high ≤ℤ i.low = h 0 (omega arith) in
    let occupied : int_lt i.high i.low ≡ false = grind (arith, ints, e) in
    let rest : is_empty box ≡ false = grind (arith, ints, e) in
    let same : int_eq i.low i.high ≡ true = grind (arith, ints, here, occupied) in
    rw (same, none-wide box rest (λ k p. h (suc k) (omega (arith, p)))) refl
