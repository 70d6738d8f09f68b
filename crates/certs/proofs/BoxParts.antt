-- Replays and hulls of parts of a box are parts of the box.
use Rattle.std.specs.Prelude.{◌≡◌, ℕ, zero, suc, ◌≤◌, ℤ, pos, negsuc, ◌+ℤ◌, ◌-ℤ◌, neg_ℤ, ◌≤ℤ◌, List, [], ◌∷◌, length, slice_set, Bool, true, false, cond, int_lt, Option, Some, None, refl}
use Rattle.std.proofs.Common.{arith, subst}
use Rattle.std.proofs.lemmas.Nat.{mul-le}
use Rattle.certs.proofs.TreeLaws.{option_and_then_is}
use Rattle.std.proofs.lemmas.Int.{ints, clamps}
use Rattle.int_model.specs.Boxes.{Interval, Box, width, volume, natural, interval_at, meet, hull, hull_of, is_empty}
use Rattle.int_model.specs.Programs.{Program, Terms}
use Rattle.int_model.specs.RowSums.{coefficient, least_sum, greatest_sum, without, row_at, ends_at}
use Rattle.int_model.proofs.VolumeLaws.{HasPoints, HasPoints-set, not_empty-points}
use Rattle.tighten.specs.Replay.{narrowed, by_upper, by_lower, left_by, tightened, tightened_by, replay}
use Rattle.int_model.specs.declared.model.Ends.{Ends}
use Rattle.tighten.specs.declared.step.Step.{Step}
use Rattle.tighten.specs.declared.step.RowEnd.{RowEnd}
use Rattle.tighten.specs.declared.step.RowEnd.TheVariants.{Lower, Upper}

-- an interval within another, and a box within another, column by column
pub record Narrower (i k : Interval) : Type 0 where
  pub low : k.low ≤ℤ i.low
  pub high : i.high ≤ℤ k.high

abbrev pub Inside : Box → Box → Type 0
Inside [] [] = Unit {0}
Inside [] (k ∷ other) = ⊥
Inside (i ∷ box) [] = ⊥
Inside (i ∷ box) (k ∷ other) = Narrower i k × Inside box other

pub Narrower-refl : (i : Interval) → Narrower i i
Narrower-refl i = record { low = omega (arith, ints); high = omega (arith, ints) }

pub Narrower-trans : (i k l : Interval) → Narrower i k → Narrower k l → Narrower i l
Narrower-trans i k l h g = record { low = omega (arith, ints, h.low, g.low); high = omega (arith, ints, h.high, g.high) }

pub Inside-refl : (box : Box) → Inside box box
Inside-refl [] = tt
Inside-refl (i ∷ box) = (Narrower-refl i, Inside-refl box)

pub Inside-trans : (a b c : Box) → Inside a b → Inside b c → Inside a c
Inside-trans [] [] [] h g = tt
Inside-trans [] [] (k ∷ c) h g = absurd g
Inside-trans [] (i ∷ b) c h g = absurd h
Inside-trans (i ∷ a) [] c h g = absurd h
Inside-trans (i ∷ a) (k ∷ b) [] h g = absurd g
Inside-trans (i ∷ a) (k ∷ b) (l ∷ c) h g = (Narrower-trans i k l h.0 g.0, Inside-trans a b c h.1 g.1)

natural-le : (a b : ℤ) → a ≤ℤ b → natural a ≤ natural b
natural-le (pos m) (pos n) h = omega (arith, ints, h)
natural-le (pos m) (negsuc n) h = absurd (omega (arith, ints, h))
natural-le (negsuc m) b h = omega arith

width-le : (i k : Interval) → Narrower i k → width i ≤ width k
width-le i k h = natural-le (i.high +ℤ pos 1 -ℤ i.low) (k.high +ℤ pos 1 -ℤ k.low) (omega (arith, ints, h.low, h.high))

pub volume-le : (box other : Box) → Inside box other → volume box ≤ volume other
volume-le [] [] h = omega arith
volume-le [] (k ∷ other) h = absurd h
volume-le (i ∷ box) [] h = absurd h
volume-le (i ∷ box) (k ∷ other) h = mul-le (width i) (volume box) (width k) (volume other) (width-le i k h.0) (volume-le box other h.1)

-- ---- replays

Inside-meet : (n : ℕ) (box other : Box) → length box ≡ n → length other ≡ n → Inside (meet box other) box
Inside-meet n [] other e f = tt
Inside-meet n (i ∷ box) [] e f = absurd (omega arith)
Inside-meet zero (i ∷ box) (k ∷ other) e f = absurd (omega arith)
Inside-meet (suc n) (i ∷ box) (k ∷ other) e f = (record { low = omega (arith, ints, clamps); high = omega (arith, ints, clamps) }, Inside-meet n box other (omega arith) (omega arith))

Inside-set : (box : Box) (j : ℕ) (i : Interval) → Narrower i (interval_at box j) → Inside (slice_set box j i) box
Inside-set [] j i h = tt
Inside-set (k ∷ box) zero i h = (h, Inside-refl box)
Inside-set (k ∷ box) (suc j) i h = (Narrower-refl k, Inside-set box j i h)

Narrower-narrowed : (a c : ℤ) (i : Interval) → Narrower (narrowed a c i) i
Narrower-narrowed (pos zero) c i = Narrower-refl i
Narrower-narrowed (pos (suc n)) c i = record { low = omega (arith, ints); high = omega (arith, ints, clamps) }
Narrower-narrowed (negsuc n) c i = record { low = omega (arith, ints, clamps); high = omega (arith, ints) }

Narrower-upper : (terms : Terms) (e : Option ℤ) (j : ℕ) (box : Box) → Narrower (by_upper terms e j box) (interval_at box j)
Narrower-upper terms None j box = Narrower-refl (interval_at box j)
Narrower-upper terms (Some u) j box = Narrower-narrowed (coefficient j terms) (u -ℤ least_sum (without j terms) box) (interval_at box j)

Narrower-lower : (terms : Terms) (e : Option ℤ) (j : ℕ) (box : Box) → Narrower (by_lower terms e j box) (interval_at box j)
Narrower-lower terms None j box = Narrower-refl (interval_at box j)
Narrower-lower terms (Some w) j box = Narrower-narrowed (neg_ℤ (coefficient j terms)) (greatest_sum (without j terms) box -ℤ w) (interval_at box j)

pub Narrower-left : (terms : Terms) (e : Ends) (side : RowEnd) (j : ℕ) (box : Box) → Narrower (left_by terms e side j box) (interval_at box j)
Narrower-left terms e Lower j box = Narrower-lower terms e.lower j box
Narrower-left terms e Upper j box = Narrower-upper terms e.upper j box

-- what a step or a replay gives lies in the box and has points
pub record PartOf (part box : Box) : Type 0 where
  pub inside : Inside part box
  pub points : HasPoints part

tightened-part : (s : Program) (step : Step) (box t : Box) → HasPoints box → tightened s.rows s.ends step box ≡ Some t → PartOf t box
tightened-part s step box t h e = by_test (left_by (row_at s step.row) (ends_at s step.row) step.side step.column box) (Narrower-left (row_at s step.row) (ends_at s step.row) step.side step.column box) _ refl e
  where
    by_test : (i : Interval) → Narrower i (interval_at box step.column) → (b : Bool) → int_lt i.high i.low ≡ b → cond b None (Some (slice_set box step.column i)) ≡ Some t → PartOf t box
    by_test i g true q r = absurd (cc)
    by_test i g false q r =
        let u : slice_set box step.column i ≡ t = cc in
        subst (λ (z : Box). PartOf z box) u (record { inside = Inside-set box step.column i g; points = HasPoints-set box step.column i h (omega (arith, ints, q)) })

tightened_by-part : (s : Program) (steps : List Step) (box t : Box) → HasPoints box → tightened_by s.rows s.ends steps box ≡ Some t → PartOf t box
tightened_by-part s [] box t h e = let u : box ≡ t = cc in subst (λ (z : Box). PartOf z box) u (record { inside = Inside-refl box; points = h })
tightened_by-part s (step ∷ steps) box t h e =
    let m = option_and_then_is (tightened_by s.rows s.ends steps) (tightened s.rows s.ends step box) t e in
    let a : PartOf m.0 box = tightened-part s step box m.0 h m.1 in
    let b : PartOf t m.0 = tightened_by-part s steps m.0 t a.points m.2 in
    record { inside = Inside-trans t m.0 box b.inside a.inside; points = b.points }

pub replay-part : (n : ℕ) (s : Program) (steps : List Step) (box t : Box) → length box ≡ n → length s.bounds ≡ n → replay s steps box ≡ Some t → PartOf t box
replay-part n s steps box t e f g = by_test (is_empty (meet box s.bounds)) refl g
  where
    by_test : (b : Bool) → is_empty (meet box s.bounds) ≡ b → cond b None (tightened_by s.rows s.ends steps (meet box s.bounds)) ≡ Some t → PartOf t box
    by_test true q r = absurd (cc)
    by_test false q r =
        let a : PartOf t (meet box s.bounds) = tightened_by-part s steps (meet box s.bounds) t (not_empty-points (meet box s.bounds) q) r in
        record { inside = Inside-trans t (meet box s.bounds) box a.inside (Inside-meet n box s.bounds e f); points = a.points }

-- ---- hulls

Inside-hull : (a b c : Box) → Inside a c → Inside b c → Inside (hull a b) c
Inside-hull [] b [] h g = tt
Inside-hull [] b (k ∷ c) h g = absurd h
Inside-hull (i ∷ a) b [] h g = absurd h
Inside-hull (i ∷ a) [] (k ∷ c) h g = absurd g
Inside-hull (i ∷ a) (l ∷ b) (k ∷ c) h g = (record { low = omega (arith, ints, clamps, h.0.low, g.0.low); high = omega (arith, ints, clamps, h.0.high, g.0.high) }, Inside-hull a b c h.1 g.1)

points-hull : (a b c : Box) → HasPoints a → Inside a c → Inside b c → HasPoints (hull a b)
points-hull [] b c h g k = tt
points-hull (i ∷ a) [] [] h g k = absurd g
points-hull (i ∷ a) [] (m ∷ c) h g k = absurd k
points-hull (i ∷ a) (l ∷ b) [] h g k = absurd g
points-hull (i ∷ a) (l ∷ b) (m ∷ c) h g k = (omega (arith, ints, clamps, h.0), points-hull a b c h.1 g.1 k.1)

abbrev pub AllParts : List Box → Box → Type 0
AllParts [] c = Unit {0}
AllParts (b ∷ bs) c = PartOf b c × AllParts bs c

pub hull_of-part : (b : Box) (bs : List Box) (c : Box) → AllParts (b ∷ bs) c → PartOf (hull_of b bs) c
hull_of-part b [] c h = h.0
hull_of-part b (d ∷ ds) c h =
    let r : PartOf (hull_of d ds) c = hull_of-part d ds c h.1 in
    record { inside = Inside-hull b (hull_of d ds) c h.0.inside r.inside; points = points-hull b (hull_of d ds) c h.0.points h.0.inside r.inside }
