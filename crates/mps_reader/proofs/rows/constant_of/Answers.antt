use Rattle.std.proofs.Common.{arith, ◌≡◌, ◌≤◌, unsigned_abs, FitsSigned, w64, pos, neg_ℤ, ◌-ℤ◌}
use Rattle.std.proofs.lemmas.Int.{ints, to_z-of_z}
use Rattle.mps_reader.proofs.rows.constant_of.Goals as goal

pub overflow_sub-result : goal.overflow_sub-result
overflow_sub-result c =
    let limit : unsigned_abs c.in-Some.value ≤ 1000000000000000000 = c.requires c.in-Some.value c.in-Some.is in
    let fits : FitsSigned w64 c.in-Some.value = omega (arith, ints, limit) in
    rw (to_z-of_z w64 c.in-Some.value fits) (omega (arith, ints, limit))

pub returns-in-Some : goal.returns-in-Some
returns-in-Some c =
    let limit : unsigned_abs c.in-Some.value ≤ 1000000000000000000 = c.requires c.in-Some.value c.in-Some.is in
    let fits : FitsSigned w64 c.in-Some.value = omega (arith, ints, limit) in
    let below : FitsSigned w64 (pos 0 -ℤ c.in-Some.value) = omega (arith, ints, limit) in
    let other : pos 0 -ℤ c.in-Some.value ≡ neg_ℤ c.in-Some.value = omega (arith, ints) in
    rw (to_z-of_z w64 c.in-Some.value fits, to_z-of_z w64 (pos 0 -ℤ c.in-Some.value) below, c.in-Some.is) other
