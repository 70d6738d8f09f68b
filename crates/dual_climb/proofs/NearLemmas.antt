-- Near points of a box, number by number.
use Rattle.std.proofs.Common.{◌≡◌, ℕ, suc, ◌<◌, ◌≤ℤ◌, ℤ, pos, false, List, [], ◌∷◌, length, map, get_or, refl, ap, subst, arith}
use Rattle.int_model.specs.Boxes.{Interval, Box, InBox, box_of, is_empty}
use Rattle.int_model.proofs.BoxLaws.{tells-points, places-InBox, map-box_of}
use Rattle.dual_climb.specs.Climbs.{IsNear, IsFixedWithin}

sides-back : (b : Box) → box_of (map (λ (i : Interval). i.low) b) (map (λ (i : Interval). i.high) b) ≡ b
sides-back [] = refl
sides-back (i ∷ b) = ap (λ (c : Box). i ∷ c) (sides-back b)

pub sides-same : (b : Box) (lows highs : List ℤ) → lows ≡ map (λ (i : Interval). i.low) b → highs ≡ map (λ (i : Interval). i.high) b → box_of lows highs ≡ b
sides-same b lows highs e f = rw (e, f) (sides-back b)

-- in a box that isn't empty no low side is above its high side
pub ordered-at : (lows highs : List ℤ) (k : ℕ) → length lows ≡ length highs → is_empty (box_of lows highs) ≡ false → k < length lows → get_or lows k (pos 0) ≤ℤ get_or highs k (pos 0)
ordered-at lows highs k same e h =
    let p : InBox (box_of lows highs) (map (λ (i : Interval). i.low) (box_of lows highs)) = (tells-points (box_of lows highs)).some e in
    let q : InBox (box_of lows highs) lows = subst (λ (x : List ℤ). InBox (box_of lows highs) x) (map-box_of lows highs same) p in
    (places-InBox lows highs lows q k h).1

-- a near point of the box with these sides, number by number
pub near-places : (lows highs xs : List ℤ) → length lows ≡ length highs → length lows ≡ length xs → ((k : ℕ) → k < length xs → IsFixedWithin (get_or lows k (pos 0)) (get_or highs k (pos 0)) (get_or xs k (pos 0))) → IsNear (box_of lows highs) xs
near-places [] highs [] e g h = tt
near-places [] highs (v ∷ xs) e g h = absurd (omega arith)
near-places (l ∷ lows) [] xs e g h = absurd (omega arith)
near-places (l ∷ lows) (u ∷ highs) [] e g h = absurd (omega arith)
near-places (l ∷ lows) (u ∷ highs) (v ∷ xs) e g h =
    let first = h 0 (omega arith) in
    (first.low, first.high, near-places lows highs xs (omega arith) (omega arith) (λ k i. h (suc k) (omega arith)))
