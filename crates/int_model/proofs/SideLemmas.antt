-- Boxes by their lists of lows and highs.
use Rattle.std.specs.Prelude.{◌≡◌, ℕ, zero, suc, ◌+◌, ◌^◌, ◌<◌, ◌≤◌, ℤ, pos, ◌+ℤ◌, ◌≤ℤ◌, ◌<ℤ◌, unsigned_abs, false, List, [], ◌∷◌, length, map, slice_index_or, slice_set, drop, refl}
use Rattle.std.specs.List.{All}
use Rattle.std.specs.Int.{int_max, int_min}
use Rattle.std.proofs.Common.{arith, ap, sym, ◌∙◌, subst}
use Rattle.std.proofs.lemmas.Int.{ints, clamps}
use Rattle.std.proofs.lemmas.List.Elements.{All-head, All-rest, All-set}
use Rattle.std.proofs.lemmas.List.{length-set}
use Rattle.int_model.specs.Limits.{IsBound}
use Rattle.int_model.specs.Boxes.{Interval, Box, box_of, BoundsWithin, is_empty, interval_at, below_cut, above_cut, volume}
use Rattle.int_model.specs.Sides.{AreSides}
use Rattle.int_model.specs.Laws.{CanCut, Shrinks}
use Rattle.int_model.proofs.BoxLaws.{length-box_of}
use Rattle.int_model.proofs.VolumeLaws.{shrinks}

-- the interval at a column by the sides
pub interval-at : (lows highs : List ℤ) (j : ℕ) → length lows ≡ length highs → interval_at (box_of lows highs) j ≡ record { low = slice_index_or lows j (pos 0); high = slice_index_or highs j (pos 0) }
interval-at [] [] j e = refl
interval-at [] (h ∷ highs) j e = absurd (omega arith)
interval-at (l ∷ lows) [] j e = absurd (omega arith)
interval-at (l ∷ lows) (h ∷ highs) zero e = refl
interval-at (l ∷ lows) (h ∷ highs) (suc j) e = interval-at lows highs j (omega arith)

-- the columns from j on, of which the first is j
pub drop-box : (lows highs : List ℤ) (j : ℕ) → j < length lows → length lows ≡ length highs → box_of (drop j lows) (drop j highs) ≡ record { low = slice_index_or lows j (pos 0); high = slice_index_or highs j (pos 0) } ∷ box_of (drop (j + 1) lows) (drop (j + 1) highs)
drop-box [] highs j h e = absurd (omega arith)
drop-box (l ∷ lows) [] j h e = absurd (omega arith)
drop-box (l ∷ lows) (u ∷ highs) zero h e = refl
drop-box (l ∷ lows) (u ∷ highs) (suc j) h e =
    let next : suc j + 1 ≡ suc (j + 1) = omega arith in rw next (drop-box lows highs j (omega arith) (omega arith))

pub map-highs : (lows highs : List ℤ) → length lows ≡ length highs → map (λ (i : Interval). i.high) (box_of lows highs) ≡ highs
map-highs [] [] e = refl
map-highs [] (h ∷ highs) e = absurd (omega arith)
map-highs (l ∷ lows) [] e = absurd (omega arith)
map-highs (l ∷ lows) (h ∷ highs) e = ap (λ (xs : List ℤ). h ∷ xs) (map-highs lows highs (omega arith))

within-from : (lows highs : List ℤ) → All IsBound lows → All IsBound highs → BoundsWithin (10 ^ 6) (box_of lows highs)
within-from [] highs a b = tt
within-from (l ∷ lows) [] a b = tt
within-from (l ∷ lows) (h ∷ highs) a b =
    (All-head IsBound l lows a, All-head IsBound h highs b, within-from lows highs (All-rest IsBound l lows (l ∷ lows) refl a) (All-rest IsBound h highs (h ∷ highs) refl b))

pub sides-within : (lows highs : List ℤ) → AreSides lows highs → BoundsWithin (10 ^ 6) (box_of lows highs)
sides-within lows highs s = within-from lows highs s.small_lows s.small_highs

pub length-sides : (lows highs : List ℤ) (box : Box) → AreSides lows highs → box_of lows highs ≡ box → length box ≡ length lows
length-sides lows highs box s e = ap length (sym e) ∙ length-box_of lows highs s.same_length

-- ---- cuts

-- the other side stays
below-sides : (lows highs : List ℤ) (j : ℕ) (v : ℤ) → length lows ≡ length highs → v ≤ℤ slice_index_or highs j (pos 0) → box_of lows (slice_set highs j v) ≡ below_cut (box_of lows highs) j v
below-sides [] [] j v e h = refl
below-sides [] (u ∷ highs) j v e h = absurd (omega arith)
below-sides (l ∷ lows) [] j v e h = absurd (omega arith)
below-sides (l ∷ lows) (u ∷ highs) zero v e h =
    let same : v ≡ int_min u v = omega (arith, ints, clamps, h) in
    ap (λ (z : ℤ). record { low = l; high = z } ∷ box_of lows highs) same
below-sides (l ∷ lows) (u ∷ highs) (suc j) v e h =
    ap (λ (box : Box). record { low = l; high = u } ∷ box) (below-sides lows highs j v (omega arith) h)

above-sides : (lows highs : List ℤ) (j : ℕ) (v : ℤ) → length lows ≡ length highs → slice_index_or lows j (pos 0) ≤ℤ v → box_of (slice_set lows j (v +ℤ pos 1)) highs ≡ above_cut (box_of lows highs) j v
above-sides [] [] j v e h = refl
above-sides [] (u ∷ highs) j v e h = absurd (omega arith)
above-sides (l ∷ lows) [] j v e h = absurd (omega arith)
above-sides (l ∷ lows) (u ∷ highs) zero v e h =
    let same : v +ℤ pos 1 ≡ int_max l (v +ℤ pos 1) = omega (arith, ints, clamps, h) in
    ap (λ (z : ℤ). record { low = z; high = u } ∷ box_of lows highs) same
above-sides (l ∷ lows) (u ∷ highs) (suc j) v e h =
    ap (λ (box : Box). record { low = l; high = u } ∷ box) (above-sides lows highs j v (omega arith) h)

-- what is known of a cut by the sides
pub record CutFacts (lows highs : List ℤ) (j : ℕ) (v : ℤ) (box : Box) : Type 0 where
  pub low_column : j < length lows
  pub high_column : j < length highs
  pub next_small : unsigned_abs (v +ℤ pos 1) ≤ 10 ^ 6
  pub below_sides : AreSides lows (slice_set highs j v)
  pub above_sides : AreSides (slice_set lows j (v +ℤ pos 1)) highs
  pub below : box_of lows (slice_set highs j v) ≡ below_cut box j v
  pub above : box_of (slice_set lows j (v +ℤ pos 1)) highs ≡ above_cut box j v
  pub shrinks : Shrinks box j v

cut-sides : (lows highs : List ℤ) (j : ℕ) (v : ℤ) → AreSides lows highs → CanCut (box_of lows highs) j v → CutFacts lows highs j v (box_of lows highs)
cut-sides lows highs j v s c =
    let low_column : j < length lows = rw (← length-box_of lows highs s.same_length) c.column in
    let high_column : j < length highs = omega (arith, low_column, s.same_length) in
    let at : interval_at (box_of lows highs) j ≡ record { low = slice_index_or lows j (pos 0); high = slice_index_or highs j (pos 0) } = interval-at lows highs j s.same_length in
    let low : slice_index_or lows j (pos 0) ≤ℤ v = subst (λ (i : Interval). i.low ≤ℤ v) at c.low in
    let high : v <ℤ slice_index_or highs j (pos 0) = subst (λ (i : Interval). v <ℤ i.high) at c.high in
    let low_small : unsigned_abs (slice_index_or lows j (pos 0)) ≤ 10 ^ 6 = s.small_lows j (pos 0) low_column in
    let high_small : unsigned_abs (slice_index_or highs j (pos 0)) ≤ 10 ^ 6 = s.small_highs j (pos 0) high_column in
    let small : IsBound v = omega (arith, ints, low, high, low_small, high_small) in
    let next_small : IsBound (v +ℤ pos 1) = omega (arith, ints, low, high, low_small, high_small) in
    record {
      low_column = low_column;
      high_column = high_column;
      next_small = next_small;
      below_sides = record {
        same_length = s.same_length ∙ sym (length-set highs j v);
        small_lows = s.small_lows;
        small_highs = All-set IsBound highs j v small s.small_highs;
      };
      above_sides = record {
        same_length = length-set lows j (v +ℤ pos 1) ∙ s.same_length;
        small_lows = All-set IsBound lows j (v +ℤ pos 1) next_small s.small_lows;
        small_highs = s.small_highs;
      };
      below = below-sides lows highs j v s.same_length (omega (arith, ints, high));
      above = above-sides lows highs j v s.same_length low;
      shrinks = shrinks (box_of lows highs) j v c;
    }

pub cut-facts : (lows highs : List ℤ) (j : ℕ) (v : ℤ) (box : Box) → AreSides lows highs → box_of lows highs ≡ box → j < length box → is_empty box ≡ false → (interval_at box j).low ≤ℤ v → v <ℤ (interval_at box j).high → CutFacts lows highs j v box
cut-facts lows highs j v box s e column occupied low high =
    subst (λ (b : Box). CanCut b j v → CutFacts lows highs j v b) e (cut-sides lows highs j v s) (record { column = column; occupied = occupied; low = low; high = high })

-- what is known of the two boxes that were made
pub record PartFacts (pl ph ql qh : List ℤ) (j : ℕ) (v : ℤ) (box : Box) : Type 0 where
  pub below_sides : AreSides pl ph
  pub above_sides : AreSides ql qh
  pub below : box_of pl ph ≡ below_cut box j v
  pub above : box_of ql qh ≡ above_cut box j v
  pub volumes : volume (box_of pl ph) + volume (box_of ql qh) ≡ volume box
  pub below_occupied : is_empty (box_of pl ph) ≡ false
  pub above_occupied : is_empty (box_of ql qh) ≡ false

pub part-facts : (lows highs pl ph ql qh : List ℤ) (j : ℕ) (v : ℤ) (box : Box) → CutFacts lows highs j v box → pl ≡ lows → ph ≡ slice_set highs j v → ql ≡ slice_set lows j (v +ℤ pos 1) → qh ≡ highs → PartFacts pl ph ql qh j v box
part-facts lows highs pl ph ql qh j v box f a b c d =
    rw (a, b, c, d) (record {
      below_sides = f.below_sides;
      above_sides = f.above_sides;
      below = f.below;
      above = f.above;
      volumes = ap (λ (i : Box). volume i + volume (box_of (slice_set lows j (v +ℤ pos 1)) highs)) f.below ∙ ap (λ (i : Box). volume (below_cut box j v) + volume i) f.above ∙ f.shrinks.volumes;
      below_occupied = ap is_empty f.below ∙ f.shrinks.below_occupied;
      above_occupied = ap is_empty f.above ∙ f.shrinks.above_occupied;
    })
