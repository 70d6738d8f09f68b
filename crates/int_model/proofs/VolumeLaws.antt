-- Volumes of boxes and of the parts of a cut.
use Rattle.std.specs.Prelude.{◌≡◌, ℕ, zero, suc, ◌+◌, ◌*◌, ◌<◌, ◌≤◌, ℤ, pos, negsuc, ◌+ℤ◌, ◌-ℤ◌, ◌≤ℤ◌, ◌<ℤ◌, [], ◌∷◌, length, slice_set, false, int_lt, refl}
use Rattle.std.proofs.Common.{arith, ap, sym, ◌∙◌}
use Rattle.std.proofs.lemmas.Nat.{mul-le}
use Rattle.std.proofs.Math.Nat.{add-mul, mul-add}
use Rattle.std.proofs.lemmas.Bool.{or_parts}
use Rattle.std.proofs.lemmas.Int.{ints, clamps}
use Rattle.std.specs.Int.{int_max, int_min}
use Rattle.int_model.specs.Boxes.{Interval, Box, width, volume, natural, interval_at, at_most, at_least, below_cut, above_cut, is_empty}
use Rattle.int_model.specs.Laws.{CanCut, Shrinks}

-- each interval holds a number
abbrev pub HasPoints : Box → Type 0
HasPoints [] = Unit {0}
HasPoints (i ∷ box) = (i.low ≤ℤ i.high) × HasPoints box

natural-pos : (z : ℤ) → pos 0 ≤ℤ z → pos (natural z) ≡ z
natural-pos (pos n) h = refl
natural-pos (negsuc n) h = absurd (omega (arith, ints, h))

width-pos : (i : Interval) → i.low ≤ℤ i.high → 1 ≤ width i
width-pos i h =
    let e : pos (width i) ≡ i.high +ℤ pos 1 -ℤ i.low = natural-pos (i.high +ℤ pos 1 -ℤ i.low) (omega (arith, ints, h)) in omega (arith, ints, e, h)

pub volume-pos : (box : Box) → HasPoints box → 1 ≤ volume box
volume-pos [] h = omega arith
volume-pos (i ∷ box) h = mul-le 1 1 (width i) (volume box) (width-pos i h.0) (volume-pos box h.1)

-- ---- cuts

width-cut : (i : Interval) (v : ℤ) → i.low ≤ℤ v → v <ℤ i.high → width (at_most i v) + width (at_least i (v +ℤ pos 1)) ≡ width i
width-cut i v h g =
    let a : pos (width (at_most i v)) ≡ int_min i.high v +ℤ pos 1 -ℤ i.low = natural-pos (int_min i.high v +ℤ pos 1 -ℤ i.low) (omega (arith, ints, clamps, h, g)) in
    let b : pos (width (at_least i (v +ℤ pos 1))) ≡ i.high +ℤ pos 1 -ℤ int_max i.low (v +ℤ pos 1) = natural-pos (i.high +ℤ pos 1 -ℤ int_max i.low (v +ℤ pos 1)) (omega (arith, ints, clamps, h, g)) in
    let c : pos (width i) ≡ i.high +ℤ pos 1 -ℤ i.low = natural-pos (i.high +ℤ pos 1 -ℤ i.low) (omega (arith, ints, h, g)) in
    omega (arith, ints, clamps, a, b, c, h, g)

add-mul-ℕ : (a b c d : ℕ) → a + b ≡ c → a * d + b * d ≡ c * d
add-mul-ℕ a b c d e = sym (add-mul a b d) ∙ ap (λ (n : ℕ). n * d) e

mul-add-ℕ : (w a b c : ℕ) → a + b ≡ c → w * a + w * b ≡ w * c
mul-add-ℕ w a b c e = sym (mul-add w a b) ∙ ap (λ (n : ℕ). w * n) e

pub volume-cut : (box : Box) (j : ℕ) (v : ℤ) → j < length box → (interval_at box j).low ≤ℤ v → v <ℤ (interval_at box j).high → volume (below_cut box j v) + volume (above_cut box j v) ≡ volume box
volume-cut [] j v l h g = absurd (omega arith)
volume-cut (i ∷ box) zero v l h g = add-mul-ℕ (width (at_most i v)) (width (at_least i (v +ℤ pos 1))) (width i) (volume box) (width-cut i v h g)
volume-cut (i ∷ box) (suc j) v l h g = mul-add-ℕ (width i) (volume (below_cut box j v)) (volume (above_cut box j v)) (volume box) (volume-cut box j v (omega arith) h g)

pub HasPoints-set : (box : Box) (j : ℕ) (i : Interval) → HasPoints box → i.low ≤ℤ i.high → HasPoints (slice_set box j i)
HasPoints-set [] j i h g = tt
HasPoints-set (k ∷ box) zero i h g = (g, h.1)
HasPoints-set (k ∷ box) (suc j) i h g = (h.0, HasPoints-set box j i h.1 g)

pub below_cut-points : (box : Box) (j : ℕ) (v : ℤ) → HasPoints box → (interval_at box j).low ≤ℤ v → v <ℤ (interval_at box j).high → HasPoints (below_cut box j v)
below_cut-points box j v h a b = HasPoints-set box j (at_most (interval_at box j) v) h (omega (arith, ints, clamps, a, b))

pub above_cut-points : (box : Box) (j : ℕ) (v : ℤ) → HasPoints box → (interval_at box j).low ≤ℤ v → v <ℤ (interval_at box j).high → HasPoints (above_cut box j v)
above_cut-points box j v h a b = HasPoints-set box j (at_least (interval_at box j) (v +ℤ pos 1)) h (omega (arith, ints, clamps, a, b))

pub not_empty-points : (box : Box) → is_empty box ≡ false → HasPoints box
not_empty-points [] e = tt
not_empty-points (i ∷ box) e = let q = or_parts (int_lt i.high i.low) (is_empty box) e in (omega (arith, ints, q.0), not_empty-points box q.1)

pub points-not_empty : (box : Box) → HasPoints box → is_empty box ≡ false
points-not_empty [] h = refl
points-not_empty (i ∷ box) h =
    let e : int_lt i.high i.low ≡ false = grind (arith, ints, h.0) in rw (e, points-not_empty box h.1) refl

pub shrinks : (box : Box) (j : ℕ) (v : ℤ) → CanCut box j v → Shrinks box j v
shrinks box j v c =
    let points : HasPoints box = not_empty-points box c.occupied in
    let below : HasPoints (below_cut box j v) = below_cut-points box j v points c.low c.high in
    let above : HasPoints (above_cut box j v) = above_cut-points box j v points c.low c.high in
    let volumes : volume (below_cut box j v) + volume (above_cut box j v) ≡ volume box = volume-cut box j v c.column c.low c.high in
    let low_pos : 1 ≤ volume (below_cut box j v) = volume-pos (below_cut box j v) below in
    let high_pos : 1 ≤ volume (above_cut box j v) = volume-pos (above_cut box j v) above in
    record {
      volumes = volumes;
      below_smaller = omega (arith, volumes, low_pos, high_pos);
      above_smaller = omega (arith, volumes, low_pos, high_pos);
      below_occupied = points-not_empty (below_cut box j v) below;
      above_occupied = points-not_empty (above_cut box j v) above;
    }
