-- The ends of rows by the table of senses and ranges.
use Rattle.std.specs.Prelude.{◌*◌, ◌^◌, ℤ, pos, negsuc, ◌+ℤ◌, ◌≤ℤ◌, Option, Some, None, IfSome, ◌↔◌}
use Rattle.std.specs.Int.{int_max, int_min}
use Rattle.std.proofs.Common.{arith}
use Rattle.std.proofs.lemmas.Int.{ints, clamps}
use Rattle.int_model.specs.Limits.{IsSide}
use Rattle.int_model.specs.Programs.{IsBetween}
use Rattle.int_model.specs.Ends.{ends_from, EndsWithin}
use Rattle.int_model.specs.Laws.{EndsTable}
use Rattle.int_model.specs.declared.model.RowSense.{RowSense}
use Rattle.int_model.specs.declared.model.RowSense.TheVariants.{L, G, E}

equal-range : (b r z : ℤ) → IsBetween (ends_from E b (Some r)) z ↔ ((int_min b (b +ℤ r) ≤ℤ z) × (z ≤ℤ int_max b (b +ℤ r)))
equal-range b (pos r) z =
    (λ h. (omega (arith, ints, clamps, h.0, h.1), omega (arith, ints, clamps, h.0, h.1)), λ h. (omega (arith, ints, clamps, h.0, h.1), omega (arith, ints, clamps, h.0, h.1)))
equal-range b (negsuc r) z =
    (λ h. (omega (arith, ints, clamps, h.0, h.1), omega (arith, ints, clamps, h.0, h.1)), λ h. (omega (arith, ints, clamps, h.0, h.1), omega (arith, ints, clamps, h.0, h.1)))

pub ends-table : (b r z : ℤ) → EndsTable b r z
ends-table b r z = record {
  less = (λ h. h.1, λ h. (tt, h));
  greater = (λ h. h.0, λ h. (h, tt));
  equal = (λ h. omega (arith, ints, h.0, h.1), λ e. (omega (arith, ints, e), omega (arith, ints, e)));
  less_range = (λ h. h, λ h. h);
  greater_range = (λ h. h, λ h. h);
  equal_range = equal-range b r z;
}

-- ends made of two numbers within the limits are at most twice as large
pub ends-within : (sense : RowSense) (b : ℤ) (r : Option ℤ) → IsSide b → IfSome r IsSide → EndsWithin (2 * 10 ^ 18) (ends_from sense b r)
ends-within L b None h k = (tt, omega (arith, h))
ends-within G b None h k = (omega (arith, h), tt)
ends-within E b None h k = (omega (arith, h), omega (arith, h))
ends-within L b (Some r) h k = (omega (arith, ints, h, k), omega (arith, h))
ends-within G b (Some r) h k = (omega (arith, h), omega (arith, ints, h, k))
ends-within E b (Some (pos r)) h k = (omega (arith, h), omega (arith, ints, h, k))
ends-within E b (Some (negsuc r)) h k = (omega (arith, ints, h, k), omega (arith, h))
