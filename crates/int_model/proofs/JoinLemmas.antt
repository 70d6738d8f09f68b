-- Boxes that are joined with others by their lists of lows and highs.
use Rattle.std.specs.Prelude.{◌≡◌, ℕ, suc, ℤ, pos, List, [], ◌∷◌, length, slice_index_or, refl}
use Rattle.std.specs.Int.{int_max, int_min}
use Rattle.std.proofs.Common.{arith, ap, ◌∙◌}
use Rattle.std.proofs.lemmas.Int.{ints, clamps}
use Rattle.std.proofs.lemmas.List.{get_or_default}
use Rattle.int_model.specs.Limits.{IsBound}
use Rattle.int_model.specs.Boxes.{Interval, Box, box_of, hull, meet}
use Rattle.int_model.specs.Sides.{AreSides}

-- the box whose lows come from the two lows, and whose highs from the two highs
abbrev pub joined : (ℤ → ℤ → ℤ) → (ℤ → ℤ → ℤ) → Box → Box → Box
joined low high (i ∷ box) (k ∷ other) = record { low = low i.low k.low; high = high i.high k.high } ∷ joined low high box other
joined low high (i ∷ box) [] = []
joined low high [] other = []

hull-joined : (box other : Box) → joined int_min int_max box other ≡ hull box other
hull-joined [] other = refl
hull-joined (i ∷ box) [] = refl
hull-joined (i ∷ box) (k ∷ other) = ap (λ (rest : Box). record { low = int_min i.low k.low; high = int_max i.high k.high } ∷ rest) (hull-joined box other)

meet-joined : (box other : Box) → joined int_max int_min box other ≡ meet box other
meet-joined [] other = refl
meet-joined (i ∷ box) [] = refl
meet-joined (i ∷ box) (k ∷ other) = ap (λ (rest : Box). record { low = int_max i.low k.low; high = int_min i.high k.high } ∷ rest) (meet-joined box other)

-- the sides of the joined box, place by place
pub record AreJoined (low high : ℤ → ℤ → ℤ) (lows highs other_lows other_highs new_lows new_highs : List ℤ) : Type 0 where
  pub same_length : length lows ≡ length other_lows
  pub low_count : length new_lows ≡ length lows
  pub high_count : length new_highs ≡ length highs
  pub low_ends : (k : ℕ) → slice_index_or new_lows k (pos 0) ≡ low (slice_index_or lows k (pos 0)) (slice_index_or other_lows k (pos 0))
  pub high_ends : (k : ℕ) → slice_index_or new_highs k (pos 0) ≡ high (slice_index_or highs k (pos 0)) (slice_index_or other_highs k (pos 0))

interval_is : (l h a b : ℤ) → l ≡ a → h ≡ b → let i : Interval = record { low = l; high = h } in let k : Interval = record { low = a; high = b } in i ≡ k
interval_is l h a b e f = rw (e, f) refl

places : (low high : ℤ → ℤ → ℤ) (lows highs other_lows other_highs new_lows new_highs : List ℤ) → length lows ≡ length highs → length other_lows ≡ length other_highs → AreJoined low high lows highs other_lows other_highs new_lows new_highs → box_of new_lows new_highs ≡ joined low high (box_of lows highs) (box_of other_lows other_highs)
places low high [] highs other_lows other_highs [] new_highs e f h = refl
places low high [] highs other_lows other_highs (l ∷ ls) new_highs e f h = absurd (omega (arith, h.low_count))
places low high (a ∷ lows) [] other_lows other_highs new_lows new_highs e f h = absurd (omega arith)
places low high (a ∷ lows) (b ∷ highs) [] other_highs new_lows new_highs e f h = absurd (omega (arith, h.same_length))
places low high (a ∷ lows) (b ∷ highs) (c ∷ other_lows) [] new_lows new_highs e f h = absurd (omega arith)
places low high (a ∷ lows) (b ∷ highs) (c ∷ other_lows) (d ∷ other_highs) [] new_highs e f h = absurd (omega (arith, h.low_count))
places low high (a ∷ lows) (b ∷ highs) (c ∷ other_lows) (d ∷ other_highs) (l ∷ ls) [] e f h = absurd (omega (arith, h.high_count))
places low high (a ∷ lows) (b ∷ highs) (c ∷ other_lows) (d ∷ other_highs) (l ∷ ls) (u ∷ us) e f h =
    let more : AreJoined low high lows highs other_lows other_highs ls us = record {
      same_length = omega (arith, h.same_length);
      low_count = omega (arith, h.low_count);
      high_count = omega (arith, h.high_count);
      low_ends = λ k. h.low_ends (suc k);
      high_ends = λ k. h.high_ends (suc k);
    } in
    ap (λ (i : Interval). i ∷ box_of ls us) (interval_is l u (low a c) (high b d) (h.low_ends 0) (h.high_ends 0)) ∙ ap (λ (box : Box). record { low = low a c; high = high b d } ∷ box) (places low high lows highs other_lows other_highs ls us (omega arith) (omega arith) more)

-- a way to take an end from two ends that keeps the limit
abbrev IsChoice : (ℤ → ℤ → ℤ) → Type 0
IsChoice f = (a b z : ℤ) → IsBound a → IsBound b → z ≡ f a b → IsBound z

least-is : IsChoice int_min
least-is a b z h k e = omega (arith, ints, clamps, h, k, e)

most-is : IsChoice int_max
most-is a b z h k e = omega (arith, ints, clamps, h, k, e)

joined-sides : (low high : ℤ → ℤ → ℤ) (lows highs other_lows other_highs new_lows new_highs : List ℤ) → IsChoice low → IsChoice high → AreSides lows highs → AreSides other_lows other_highs → AreJoined low high lows highs other_lows other_highs new_lows new_highs → AreSides new_lows new_highs
joined-sides low high lows highs other_lows other_highs new_lows new_highs f g s t h =
    record {
      same_length = omega (arith, h.low_count, h.high_count, s.same_length);
      small_lows = λ k d p. let e = get_or_default new_lows k d (pos 0) p in
          rw e (f (slice_index_or lows k (pos 0)) (slice_index_or other_lows k (pos 0)) _ (s.small_lows k (pos 0) (omega (arith, p, h.low_count))) (t.small_lows k (pos 0) (omega (arith, p, h.low_count, h.same_length))) (h.low_ends k));
      small_highs = λ k d p. let e = get_or_default new_highs k d (pos 0) p in
          rw e (g (slice_index_or highs k (pos 0)) (slice_index_or other_highs k (pos 0)) _ (s.small_highs k (pos 0) (omega (arith, p, h.high_count))) (t.small_highs k (pos 0) (omega (arith, p, h.high_count, h.same_length, s.same_length, t.same_length))) (h.high_ends k));
    }

-- the two lists are sides, and their box is this one
pub record AreSidesOf (box : Box) (lows highs : List ℤ) : Type 0 where
  pub sides : AreSides lows highs
  pub value : box_of lows highs ≡ box

pub hull-facts : (lows highs other_lows other_highs new_lows new_highs : List ℤ) (box other : Box) → AreSidesOf box lows highs → AreSidesOf other other_lows other_highs → AreJoined int_min int_max lows highs other_lows other_highs new_lows new_highs → AreSidesOf (hull box other) new_lows new_highs
hull-facts lows highs other_lows other_highs new_lows new_highs box other s t h = record {
  sides = joined-sides int_min int_max lows highs other_lows other_highs new_lows new_highs least-is most-is s.sides t.sides h;
  value = places int_min int_max lows highs other_lows other_highs new_lows new_highs s.sides.same_length t.sides.same_length h ∙ hull-joined (box_of lows highs) (box_of other_lows other_highs) ∙ ap (λ (i : Box). hull i (box_of other_lows other_highs)) s.value ∙ ap (hull box) t.value;
}

pub meet-facts : (lows highs other_lows other_highs new_lows new_highs : List ℤ) (box other : Box) → AreSidesOf box lows highs → AreSidesOf other other_lows other_highs → AreJoined int_max int_min lows highs other_lows other_highs new_lows new_highs → AreSidesOf (meet box other) new_lows new_highs
meet-facts lows highs other_lows other_highs new_lows new_highs box other s t h = record {
  sides = joined-sides int_max int_min lows highs other_lows other_highs new_lows new_highs most-is least-is s.sides t.sides h;
  value = places int_max int_min lows highs other_lows other_highs new_lows new_highs s.sides.same_length t.sides.same_length h ∙ meet-joined (box_of lows highs) (box_of other_lows other_highs) ∙ ap (λ (i : Box). meet i (box_of other_lows other_highs)) s.value ∙ ap (meet box) t.value;
}
