-- Whether a row is missed, by its sums at the sides of the box.
use Rattle.std.specs.Prelude.{◌≡◌, ℤ, Bool, true, false, ◌||◌, int_lt, Some, None, List, [], ◌∷◌, map, refl}
use Rattle.std.proofs.Common.{ap, sym, ◌∙◌}
use Rattle.std.proofs.Math.Bool.{or-false}
use Rattle.int_model.specs.Boxes.{Interval, Box, box_of}
use Rattle.int_model.specs.Programs.{Terms}
use Rattle.int_model.specs.RowSums.{least_sum, greatest_sum, is_above, is_below, misses_ends}
use Rattle.int_model.specs.declared.model.Ends.{Ends}

sides_back : (b : Box) → box_of (map (λ (i : Interval). i.low) b) (map (λ (i : Interval). i.high) b) ≡ b
sides_back [] = refl
sides_back (i ∷ b) = ap (λ (c : Box). i ∷ c) (sides_back b)

sides_same : (b : Box) (lows highs : List ℤ) → lows ≡ map (λ (i : Interval). i.low) b → highs ≡ map (λ (i : Interval). i.high) b → box_of lows highs ≡ b
sides_same b lows highs e f = rw (e, f) (sides_back b)

-- whether the sum of a row misses its ends, by the sums at the sides of the box
misses_by_sides : (terms : Terms) (e : Ends) (b : Box) (lows highs : List ℤ) (least most : ℤ) → lows ≡ map (λ (i : Interval). i.low) b → highs ≡ map (λ (i : Interval). i.high) b → least ≡ least_sum terms (box_of lows highs) → most ≡ greatest_sum terms (box_of lows highs) → (is_above e.upper least || is_below e.lower most) ≡ misses_ends terms e b
misses_by_sides terms e b lows highs least most el eh f g =
    let same : box_of lows highs ≡ b = sides_same b lows highs el eh in
    let low : least ≡ least_sum terms b = f ∙ ap (least_sum terms) same in
    let high : most ≡ greatest_sum terms b = g ∙ ap (greatest_sum terms) same in
    rw (low, high) refl

-- where the row has an upper end alone
pub misses-upper : (terms : Terms) (e : Ends) (b : Box) (lows highs : List ℤ) (upper least : ℤ) → lows ≡ map (λ (i : Interval). i.low) b → highs ≡ map (λ (i : Interval). i.high) b → e.lower ≡ None → e.upper ≡ Some upper → least ≡ least_sum terms (box_of lows highs) → int_lt upper least ≡ misses_ends terms e b
misses-upper terms e b lows highs upper least el eh none some f =
    sym (rw (some, none) (or-false (int_lt upper least))) ∙ misses_by_sides terms e b lows highs least (greatest_sum terms (box_of lows highs)) el eh f refl

-- where it has a lower end alone
pub misses-lower : (terms : Terms) (e : Ends) (b : Box) (lows highs : List ℤ) (lower most : ℤ) → lows ≡ map (λ (i : Interval). i.low) b → highs ≡ map (λ (i : Interval). i.high) b → e.lower ≡ Some lower → e.upper ≡ None → most ≡ greatest_sum terms (box_of lows highs) → int_lt most lower ≡ misses_ends terms e b
misses-lower terms e b lows highs lower most el eh some none f =
    sym (rw (some, none) refl) ∙ misses_by_sides terms e b lows highs (least_sum terms (box_of lows highs)) most el eh refl f

above-first : (a b x : Bool) → (a || b) ≡ x → a ≡ true → a ≡ x
above-first true b x h k = h
above-first false b x h k = absurd (cc)

below-second : (a b x : Bool) → (a || b) ≡ x → a ≡ false → b ≡ x
below-second true b x h k = absurd (cc)
below-second false b x h k = h

-- where it has both
misses-both : (terms : Terms) (e : Ends) (b : Box) (lows highs : List ℤ) (lower upper least most : ℤ) → lows ≡ map (λ (i : Interval). i.low) b → highs ≡ map (λ (i : Interval). i.high) b → e.lower ≡ Some lower → e.upper ≡ Some upper → least ≡ least_sum terms (box_of lows highs) → most ≡ greatest_sum terms (box_of lows highs) → (int_lt upper least || int_lt most lower) ≡ misses_ends terms e b
misses-both terms e b lows highs lower upper least most el eh low up f g =
    sym (rw (low, up) refl) ∙ misses_by_sides terms e b lows highs least most el eh f g

pub misses-above : (terms : Terms) (e : Ends) (b : Box) (lows highs : List ℤ) (lower upper least most : ℤ) → lows ≡ map (λ (i : Interval). i.low) b → highs ≡ map (λ (i : Interval). i.high) b → e.lower ≡ Some lower → e.upper ≡ Some upper → least ≡ least_sum terms (box_of lows highs) → most ≡ greatest_sum terms (box_of lows highs) → int_lt upper least ≡ true → int_lt upper least ≡ misses_ends terms e b
misses-above terms e b lows highs lower upper least most el eh low up f g is =
    above-first (int_lt upper least) (int_lt most lower) _ (misses-both terms e b lows highs lower upper least most el eh low up f g) is

pub misses-below : (terms : Terms) (e : Ends) (b : Box) (lows highs : List ℤ) (lower upper least most : ℤ) → lows ≡ map (λ (i : Interval). i.low) b → highs ≡ map (λ (i : Interval). i.high) b → e.lower ≡ Some lower → e.upper ≡ Some upper → least ≡ least_sum terms (box_of lows highs) → most ≡ greatest_sum terms (box_of lows highs) → int_lt upper least ≡ false → int_lt most lower ≡ misses_ends terms e b
misses-below terms e b lows highs lower upper least most el eh low up f g is =
    below-second (int_lt upper least) (int_lt most lower) _ (misses-both terms e b lows highs lower upper least most el eh low up f g) is
