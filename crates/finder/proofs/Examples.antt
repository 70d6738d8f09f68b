-- Worked examples: which point stands behind an own least offer.
use Rattle.std.specs.Prelude.{◌≡◌, ℕ, ℤ, pos, negsuc, List, [], ◌∷◌, true, Some, None, refl}
use Rattle.std.proofs.Common.{arith, ap}
use Rattle.std.proofs.lemmas.Int.{ints}
use Rattle.int_model.specs.Boxes.{box_of}
use Rattle.int_model.specs.Programs.{Program, Feasible}
use Rattle.incumbent_words.specs.Codes.{no_value, code}
use Rattle.incumbent_words.specs.Rule.{code_at}
use Rattle.incumbent_words.specs.declared.view.View.{View}
use Rattle.finder.specs.Kept.{empty_place, no_points, place_at}
use Rattle.finder.specs.Found.{IsOwn, IsOffered}

-- min -3x - 2y for x and y in 0..3 with 2x + y at most 4
abbrev pub program : Program
program = record {
  costs = negsuc 2 ∷ negsuc 1 ∷ [];
  constant = pos 0;
  bounds = box_of (pos 0 ∷ pos 0 ∷ []) (pos 3 ∷ pos 3 ∷ []);
  rows = ((0, pos 2) ∷ (1, pos 1) ∷ []) ∷ [];
  ends = record { lower = None; upper = Some (pos 4) } ∷ [];
}

abbrev pub best : List ℤ
best = pos 1 ∷ pos 2 ∷ []

-- ---- the kept point and its offer

best-own : IsOwn program (code (negsuc 6)) (Some best)
best-own = (record { within = (omega (arith, ints), omega (arith, ints), (omega (arith, ints), omega (arith, ints), tt)); rows = ((tt, omega (arith, ints)), tt) }, refl)

-- a code that isn't the value's, none beside a point, and an offer without one
other-value : IsOwn program (code (negsuc 5)) (Some best) → ⊥
other-value h = omega (arith, h.1)

none-with-point : IsOwn program no_value (Some best) → ⊥
none-with-point h = omega (arith, h.1)

offer-without-point : IsOwn program (code (negsuc 6)) None → ⊥
offer-without-point h = omega (arith, h)

-- a point that breaks the row has no offer, though its code is right
row-is-broken : IsOwn program (code (negsuc 12)) (Some (pos 3 ∷ pos 2 ∷ [])) → ⊥
row-is-broken h = omega (arith, ints, h.0.rows.0.1)

-- ---- places

empty-places : no_points 2 3 ≡ empty_place 3 ∷ empty_place 3 ∷ []
empty-places = refl

past-the-end : place_at (no_points 2 3) 2 ≡ empty_place 0
past-the-end = refl

-- ---- offers

abbrev pub view_of : List ℕ → List ℕ → View
view_of caps offers = record { caps = caps; offers = offers; numbers = 0 ∷ []; leads = true; count = 1 }

-- an offer of 9 after one of 5 leaves the own least offer at 5
keeps-least : IsOffered (view_of (code (pos 5) ∷ []) (code (pos 5) ∷ [])) (view_of (code (pos 5) ∷ []) (code (pos 5) ∷ [])) 0 (code (pos 9))
keeps-least = record { word = code (pos 5); view = refl; cap = omega arith; own = omega arith }

stores-value : IsOffered (view_of (code (pos 5) ∷ []) (code (pos 5) ∷ [])) (view_of (code (pos 5) ∷ []) (code (pos 9) ∷ [])) 0 (code (pos 9)) → ⊥
stores-value h = let e : code (pos 9) ≡ code (pos 5) = ap (λ (v : View). code_at v.offers 0) h.view in omega (arith, e)
