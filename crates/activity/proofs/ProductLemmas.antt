-- The least and the greatest product of a coefficient with a number of an interval, by the coefficient's sign.
use Rattle.std.specs.Prelude.{◌≡◌, zero, suc, ℤ, pos, negsuc, ◌*ℤ◌, ◌≤ℤ◌, ◌<ℤ◌}
use Rattle.std.proofs.Common.{arith}
use Rattle.std.proofs.lemmas.Int.{ints, clamps}
use Rattle.int_model.specs.Boxes.{Interval}
use Rattle.int_model.specs.RowSums.{least_product, greatest_product}
use Rattle.int_model.proofs.IntegerLaws.{mul-le-pos, mul-le-negsuc}

-- the ends at which the products are least and greatest
pub record AreAt (a : ℤ) (i : Interval) (first last : ℤ) : Type 0 where
  pub least : least_product a i ≡ a *ℤ first
  pub greatest : greatest_product a i ≡ a *ℤ last

mul-le-above : (a x y : ℤ) → pos 0 <ℤ a → x ≤ℤ y → (a *ℤ x) ≤ℤ (a *ℤ y)
mul-le-above (pos n) x y h k = mul-le-pos n x y k
mul-le-above (negsuc n) x y h k = absurd (omega (arith, ints, h))

mul-le-below : (a x y : ℤ) → a ≤ℤ pos 0 → x ≤ℤ y → (a *ℤ y) ≤ℤ (a *ℤ x)
mul-le-below (pos zero) x y h k = omega (arith, ints)
mul-le-below (pos (suc n)) x y h k = absurd (omega (arith, ints, h))
mul-le-below (negsuc n) x y h k = mul-le-negsuc n x y k

pub ends-above : (a : ℤ) (i : Interval) → pos 0 <ℤ a → i.low ≤ℤ i.high → AreAt a i i.low i.high
ends-above a i h k = record {
  least = omega (arith, ints, clamps, mul-le-above a i.low i.high h k);
  greatest = omega (arith, ints, clamps, mul-le-above a i.low i.high h k);
}

pub ends-below : (a : ℤ) (i : Interval) → a ≤ℤ pos 0 → i.low ≤ℤ i.high → AreAt a i i.high i.low
ends-below a i h k = record {
  least = omega (arith, ints, clamps, mul-le-below a i.low i.high h k);
  greatest = omega (arith, ints, clamps, mul-le-below a i.low i.high h k);
}
