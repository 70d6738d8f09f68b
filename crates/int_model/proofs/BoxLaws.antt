-- Laws of boxes.
use Rattle.std.specs.Prelude.{◌≤◌, unsigned_abs, ◌≡◌, ◌↔◌, ◌⊎◌, ℕ, zero, suc, ◌<◌, ℤ, pos, ◌+ℤ◌, ◌≤ℤ◌, ◌<ℤ◌, List, [], ◌∷◌, length, slice_set, map, slice_index_or, ◌&&◌, true, false, int_lt, int_le}
use Rattle.std.proofs.Common.{arith, refl, ap, sym, subst, inl, inr}
use Rattle.std.proofs.lemmas.Bool.{and_parts, or_parts, both_ways, cases_Bool}
use Rattle.std.proofs.lemmas.Bool.Decides.{Decides-int_eq}
use Rattle.std.proofs.lemmas.Int.{ints, clamps}
use Rattle.int_model.specs.Integers.{int_at, int_eq}
use Rattle.int_model.specs.Boxes.{BoundsWithin, Interval, Box, box_of, InBox, in_box, interval_at, at_most, at_least, below_cut, above_cut, meet, hull, is_empty, is_single}
use Rattle.int_model.specs.Laws.{Splits, TellsPoints}

-- a number of an interval
pub record IsIn (i : Interval) (v : ℤ) : Type 0 where
  pub low : i.low ≤ℤ v
  pub high : v ≤ℤ i.high

pub IsIn-at_most : (i : Interval) (v x : ℤ) → IsIn i x → x ≤ℤ v → IsIn (at_most i v) x
IsIn-at_most i v x h k = record { low = h.low; high = omega (arith, ints, clamps, h.high) }

pub IsIn-at_least : (i : Interval) (v x : ℤ) → IsIn i x → v ≤ℤ x → IsIn (at_least i v) x
IsIn-at_least i v x h k = record { low = omega (arith, ints, clamps, h.low); high = h.high }

pub at_most-IsIn : (i : Interval) (v x : ℤ) → IsIn (at_most i v) x → IsIn i x × (x ≤ℤ v)
at_most-IsIn i v x h = (record { low = h.low; high = omega (arith, ints, clamps, h.high) }, omega (arith, ints, clamps, h.high))

pub at_least-IsIn : (i : Interval) (v x : ℤ) → IsIn (at_least i v) x → IsIn i x × (v ≤ℤ x)
at_least-IsIn i v x h = (record { low = omega (arith, ints, clamps, h.low); high = h.high }, omega (arith, ints, clamps, h.low))

-- each column's number lies in its interval
pub InBox-at : (box : Box) (x : List ℤ) (j : ℕ) → j < length box → InBox box x → IsIn (interval_at box j) (int_at x j)
InBox-at [] x j p h = absurd (omega arith)
InBox-at (i ∷ box) [] j p h = absurd h
InBox-at (i ∷ box) (v ∷ xs) zero p h = record { low = h.0; high = h.1 }
InBox-at (i ∷ box) (v ∷ xs) (suc j) p h = InBox-at box xs j (omega arith) h.2

pub InBox-set : (box : Box) (x : List ℤ) (j : ℕ) (i : Interval) → InBox box x → IsIn i (int_at x j) → InBox (slice_set box j i) x
InBox-set [] [] j i h k = tt
InBox-set [] (v ∷ xs) j i h k = h
InBox-set (k ∷ box) [] j i h m = absurd h
InBox-set (k ∷ box) (v ∷ xs) zero i h m = (m.low, m.high, h.2)
InBox-set (k ∷ box) (v ∷ xs) (suc j) i h m = (h.0, h.1, InBox-set box xs j i h.2 m)

pub set-InBox : (box : Box) (x : List ℤ) (j : ℕ) (i : Interval) → j < length box → InBox (slice_set box j i) x → IsIn i (int_at x j) × (IsIn (interval_at box j) (int_at x j) → InBox box x)
set-InBox [] x j i p h = absurd (omega arith)
set-InBox (k ∷ box) [] zero i p h = absurd h
set-InBox (k ∷ box) [] (suc j) i p h = absurd h
set-InBox (k ∷ box) (v ∷ xs) zero i p h = (record { low = h.0; high = h.1 }, λ m. (m.low, m.high, h.2))
set-InBox (k ∷ box) (v ∷ xs) (suc j) i p h =
    let r = set-InBox box xs j i (omega arith) h.2 in (r.0, λ m. (h.0, h.1, r.1 m))

-- the two parts of a cut hold the points of the box, by whether the column's number is at most v
pub below_cut-points : (box : Box) (x : List ℤ) (j : ℕ) (v : ℤ) → j < length box → InBox (below_cut box j v) x ↔ (InBox box x × (int_at x j ≤ℤ v))
below_cut-points box x j v p = (to, from)
  where
    to : InBox (below_cut box j v) x → InBox box x × (int_at x j ≤ℤ v)
    to h = let r = set-InBox box x j (at_most (interval_at box j) v) p h in let m = at_most-IsIn (interval_at box j) v (int_at x j) r.0 in (r.1 m.0, m.1)

    from : InBox box x × (int_at x j ≤ℤ v) → InBox (below_cut box j v) x
    from h = InBox-set box x j (at_most (interval_at box j) v) h.0 (IsIn-at_most (interval_at box j) v (int_at x j) (InBox-at box x j p h.0) h.1)

pub above_cut-points : (box : Box) (x : List ℤ) (j : ℕ) (v : ℤ) → j < length box → InBox (above_cut box j v) x ↔ (InBox box x × ((v +ℤ pos 1) ≤ℤ int_at x j))
above_cut-points box x j v p = (to, from)
  where
    to : InBox (above_cut box j v) x → InBox box x × ((v +ℤ pos 1) ≤ℤ int_at x j)
    to h = let r = set-InBox box x j (at_least (interval_at box j) (v +ℤ pos 1)) p h in let m = at_least-IsIn (interval_at box j) (v +ℤ pos 1) (int_at x j) r.0 in (r.1 m.0, m.1)

    from : InBox box x × ((v +ℤ pos 1) ≤ℤ int_at x j) → InBox (above_cut box j v) x
    from h = InBox-set box x j (at_least (interval_at box j) (v +ℤ pos 1)) h.0 (IsIn-at_least (interval_at box j) (v +ℤ pos 1) (int_at x j) (InBox-at box x j p h.0) h.1)

-- the part in another box holds the points of both
pub InBox-meet : (box other : Box) (x : List ℤ) → InBox box x → InBox other x → InBox (meet box other) x
InBox-meet [] other [] h k = tt
InBox-meet [] other (v ∷ xs) h k = h
InBox-meet (i ∷ box) other [] h k = absurd h
InBox-meet (i ∷ box) [] (v ∷ xs) h k = absurd k
InBox-meet (i ∷ box) (l ∷ other) (v ∷ xs) h k =
    (omega (arith, ints, clamps, h.0, k.0), omega (arith, ints, clamps, h.1, k.1), InBox-meet box other xs h.2 k.2)

-- a box with a point isn't empty
pub InBox-not_empty : (box : Box) (x : List ℤ) → InBox box x → is_empty box ≡ false
InBox-not_empty [] x h = refl
InBox-not_empty (i ∷ box) [] h = absurd h
InBox-not_empty (i ∷ box) (v ∷ xs) h =
    let e : int_lt i.high i.low ≡ false = grind (arith, ints, h.0, h.1) in rw (e, InBox-not_empty box xs h.2) refl

-- the hull holds the points of both boxes
pub InBox-hull_left : (box other : Box) (x : List ℤ) → length box ≡ length other → InBox box x → InBox (hull box other) x
InBox-hull_left [] [] x e h = h
InBox-hull_left [] (k ∷ other) x e h = absurd (omega arith)
InBox-hull_left (i ∷ box) [] x e h = absurd (omega arith)
InBox-hull_left (i ∷ box) (k ∷ other) [] e h = h
InBox-hull_left (i ∷ box) (k ∷ other) (v ∷ xs) e h =
    (omega (arith, ints, clamps, h.0), omega (arith, ints, clamps, h.1), InBox-hull_left box other xs (omega arith) h.2)

pub InBox-hull_right : (box other : Box) (x : List ℤ) → length box ≡ length other → InBox other x → InBox (hull box other) x
InBox-hull_right [] [] x e h = h
InBox-hull_right [] (k ∷ other) x e h = absurd (omega arith)
InBox-hull_right (i ∷ box) [] x e h = absurd (omega arith)
InBox-hull_right (i ∷ box) (k ∷ other) [] e h = h
InBox-hull_right (i ∷ box) (k ∷ other) (v ∷ xs) e h =
    (omega (arith, ints, clamps, h.0), omega (arith, ints, clamps, h.1), InBox-hull_right box other xs (omega arith) h.2)

-- a point has as many numbers as the box has columns
pub length-InBox : (box : Box) (x : List ℤ) → InBox box x → length box ≡ length x
length-InBox [] [] h = refl
length-InBox [] (v ∷ xs) h = absurd h
length-InBox (i ∷ box) [] h = absurd h
length-InBox (i ∷ box) (v ∷ xs) h = ap suc (length-InBox box xs h.2)

-- a point lies in the box of two lists of sides exactly where each number lies between its sides
pub InBox-places : (lows highs x : List ℤ) → length lows ≡ length highs → length lows ≡ length x → ((k : ℕ) → k < length x → (slice_index_or lows k (pos 0) ≤ℤ slice_index_or x k (pos 0)) × (slice_index_or x k (pos 0) ≤ℤ slice_index_or highs k (pos 0))) → InBox (box_of lows highs) x
InBox-places [] highs [] e g h = tt
InBox-places [] highs (v ∷ x) e g h = absurd (omega arith)
InBox-places (l ∷ lows) [] x e g h = absurd (omega arith)
InBox-places (l ∷ lows) (u ∷ highs) [] e g h = absurd (omega arith)
InBox-places (l ∷ lows) (u ∷ highs) (v ∷ x) e g h =
    let first = h 0 (omega arith) in
    (first.0, first.1, InBox-places lows highs x (omega arith) (omega arith) (λ k i. h (suc k) (omega arith)))

pub places-InBox : (lows highs x : List ℤ) → InBox (box_of lows highs) x → (k : ℕ) → k < length x → (slice_index_or lows k (pos 0) ≤ℤ slice_index_or x k (pos 0)) × (slice_index_or x k (pos 0) ≤ℤ slice_index_or highs k (pos 0))
places-InBox lows highs [] h k i = absurd (omega arith)
places-InBox [] highs (v ∷ x) h k i = absurd h
places-InBox (l ∷ lows) [] (v ∷ x) h k i = absurd h
places-InBox (l ∷ lows) (u ∷ highs) (v ∷ x) h zero i = (h.0, h.1)
places-InBox (l ∷ lows) (u ∷ highs) (v ∷ x) h (suc k) i = places-InBox lows highs x h.2 k (omega arith)

-- a box of two lists of sides gives them back, has their length, and is written side by side
pub map-box_of : (lows highs : List ℤ) → length lows ≡ length highs → map (λ (i : Interval). i.low) (box_of lows highs) ≡ lows
map-box_of [] highs e = refl
map-box_of (l ∷ lows) [] e = absurd (omega arith)
map-box_of (l ∷ lows) (h ∷ highs) e = ap (λ (xs : List ℤ). l ∷ xs) (map-box_of lows highs (omega arith))

pub length-box_of : (lows highs : List ℤ) → length lows ≡ length highs → length (box_of lows highs) ≡ length lows
length-box_of [] highs e = refl
length-box_of (l ∷ lows) [] e = absurd (omega arith)
length-box_of (l ∷ lows) (h ∷ highs) e = ap suc (length-box_of lows highs (omega arith))

pub box_of-set : (lows highs : List ℤ) (j : ℕ) (a b : ℤ) → length lows ≡ length highs → box_of (slice_set lows j a) (slice_set highs j b) ≡ slice_set (box_of lows highs) j (record { low = a; high = b })
box_of-set [] [] j a b e = refl
box_of-set [] (h ∷ highs) j a b e = absurd (omega arith)
box_of-set (l ∷ lows) [] j a b e = absurd (omega arith)
box_of-set (l ∷ lows) (h ∷ highs) zero a b e = refl
box_of-set (l ∷ lows) (h ∷ highs) (suc j) a b e = ap (λ (box : Box). record { low = l; high = h } ∷ box) (box_of-set lows highs j a b (omega arith))

-- ---- what the tests on a box say

inside-test : (box : Box) (x : List ℤ) → in_box box x ≡ true → InBox box x
inside-test [] [] e = tt
inside-test [] (v ∷ xs) e = absurd (cc)
inside-test (i ∷ box) [] e = absurd (cc)
inside-test (i ∷ box) (v ∷ xs) e =
    let a = and_parts (int_le i.low v && int_le v i.high) (in_box box xs) e in
    let b = and_parts (int_le i.low v) (int_le v i.high) a.0 in
    (omega (arith, ints, b.0), omega (arith, ints, b.1), inside-test box xs a.1)

test-inside : (box : Box) (x : List ℤ) → InBox box x → in_box box x ≡ true
test-inside [] [] h = refl
test-inside [] (v ∷ xs) h = absurd h
test-inside (i ∷ box) [] h = absurd h
test-inside (i ∷ box) (v ∷ xs) h =
    let low : int_le i.low v ≡ true = grind (arith, ints, h.0) in
    let high : int_le v i.high ≡ true = grind (arith, ints, h.1) in
    rw (low, high, test-inside box xs h.2) refl

lows-inside : (box : Box) → is_empty box ≡ false → InBox box (map (λ (i : Interval). i.low) box)
lows-inside [] e = tt
lows-inside (i ∷ box) e =
    let a = or_parts (int_lt i.high i.low) (is_empty box) e in
    (omega (arith, ints), omega (arith, ints, a.0), lows-inside box a.1)

single-inside : (box : Box) (x : List ℤ) → is_single box ≡ true → InBox box x → x ≡ map (λ (i : Interval). i.low) box
single-inside [] [] e h = refl
single-inside [] (v ∷ xs) e h = absurd h
single-inside (i ∷ box) [] e h = absurd h
single-inside (i ∷ box) (v ∷ xs) e h =
    let a = and_parts (int_eq i.low i.high) (is_single box) e in
    let same : i.low ≡ i.high = (Decides-int_eq i.low i.high).0 a.0 in
    let here : v ≡ i.low = omega (arith, ints, same, h.0, h.1) in
    rw (here, single-inside box xs a.1 h.2) refl

pub single-not_empty : (box : Box) → is_single box ≡ true → is_empty box ≡ false
single-not_empty [] e = refl
single-not_empty (i ∷ box) e =
    let a = and_parts (int_eq i.low i.high) (is_single box) e in
    let same : i.low ≡ i.high = (Decides-int_eq i.low i.high).0 a.0 in
    let low : int_lt i.high i.low ≡ false = grind (arith, ints, same) in
    rw (low, single-not_empty box a.1) refl

pub tells-points : (box : Box) → TellsPoints box
tells-points box = record {
  inside = λ x. (inside-test box x, test-inside box x);
  none = λ e x h. absurd (both_ways (is_empty box) (InBox-not_empty box x h) e);
  some = lows-inside box;
  one = λ e x. (single-inside box x e, λ q. subst (InBox box) (sym q) (lows-inside box (single-not_empty box e)));
}

-- ---- the parts of a cut

at-most-or-above : (a b : ℤ) → (a ≤ℤ b) ⊎ (b <ℤ a)
at-most-or-above a b =
    elim (cases_Bool (int_le a b)) [ inl e ↦ inl (omega (arith, ints, e)) | inr e ↦ inr (omega (arith, ints, e)) ]

pub splits : (box : Box) (j : ℕ) (v : ℤ) → j < length box → Splits box j v
splits box j v h = record {
  low_part = λ x. below_cut-points box x j v h;
  high_part = λ x. (
    λ p. let q = (above_cut-points box x j v h).0 p in (q.0, omega (arith, ints, q.1)),
    λ q. (above_cut-points box x j v h).1 (q.0, omega (arith, ints, q.1)),
  );
  covers = λ x p. elim (at-most-or-above (int_at x j) v) [
    | inl low ↦ inl ((below_cut-points box x j v h).1 (p, low))
    | inr high ↦ inr ((above_cut-points box x j v h).1 (p, omega (arith, ints, high)))
  ];
  disjoint = λ x p q.
      let low : int_at x j ≤ℤ v = ((below_cut-points box x j v h).0 p).1 in
      let high : (v +ℤ pos 1) ≤ℤ int_at x j = ((above_cut-points box x j v h).0 q).1 in
      absurd (omega (arith, ints, low, high));
}

-- ---- the ends and the limits at a column, also past the end, where both are 0

pub lows-at : (box : Box) (j : ℕ) → int_at (map (λ (i : Interval). i.low) box) j ≡ (interval_at box j).low
lows-at [] j = refl
lows-at (i ∷ box) zero = refl
lows-at (i ∷ box) (suc j) = lows-at box j

pub highs-at : (box : Box) (j : ℕ) → int_at (map (λ (i : Interval). i.high) box) j ≡ (interval_at box j).high
highs-at [] j = refl
highs-at (i ∷ box) zero = refl
highs-at (i ∷ box) (suc j) = highs-at box j

pub BoundsWithin-at : (most : ℕ) (box : Box) (j : ℕ) → BoundsWithin most box → (unsigned_abs (interval_at box j).low ≤ most) × (unsigned_abs (interval_at box j).high ≤ most)
BoundsWithin-at most [] j b = (omega arith, omega arith)
BoundsWithin-at most (i ∷ box) zero b = (b.0, b.1)
BoundsWithin-at most (i ∷ box) (suc j) b = BoundsWithin-at most box j b.2

pub BoundsWithin-set : (most : ℕ) (box : Box) (j : ℕ) (i : Interval) → BoundsWithin most box → unsigned_abs i.low ≤ most → unsigned_abs i.high ≤ most → BoundsWithin most (slice_set box j i)
BoundsWithin-set most [] j i b low high = tt
BoundsWithin-set most (k ∷ box) zero i b low high = (low, high, b.2)
BoundsWithin-set most (k ∷ box) (suc j) i b low high = (b.0, b.1, BoundsWithin-set most box j i b.2 low high)
