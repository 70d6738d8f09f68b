-- Worked examples: two products under one capacity, of which 2x + y is at most 4, with x and y in 0..3.
use Rattle.std.proofs.Common.{◌≡◌, ◌≢◌, ℤ, pos, negsuc, List, [], ◌∷◌, Some, None, refl, arith, true, false}
use Rattle.std.proofs.lemmas.Int.{ints}
use Rattle.int_model.specs.Boxes.{Box, box_of, is_empty, InBox}
use Rattle.int_model.specs.Programs.{Program, Feasible}
use Rattle.int_model.specs.RowSums.{row_misses}
use Rattle.dive.specs.Dives.{IsPart, IsMissing, LiesIn, IsDive, IsStuck, FindsPoint, DecidesSingle}
use Rattle.dive.specs.declared.outcome.Dive.TheVariants.{Point, Stuck}
use Rattle.dive.proofs.PartLemmas.{part-in}

abbrev pub box : ℤ → ℤ → ℤ → ℤ → Box
box a b c d = box_of (a ∷ b ∷ []) (c ∷ d ∷ [])

abbrev pub square : Box
square = box (pos 0) (pos 0) (pos 3) (pos 3)

abbrev pub products : Program
products = record {
  costs = negsuc 2 ∷ negsuc 1 ∷ [];
  constant = pos 0;
  bounds = square;
  rows = ((0, pos 2) ∷ (1, pos 1) ∷ []) ∷ [];
  ends = record { lower = None; upper = Some (pos 4) } ∷ [];
}

-- ---- parts

-- a part may have the ends of the box, but none beyond them
corner-is-part : IsPart (box (pos 3) (pos 0) (pos 3) (pos 3)) square
corner-is-part = (omega (arith, ints), omega (arith, ints), (omega (arith, ints), omega (arith, ints), tt))

beyond-is-none : IsPart (box (pos 3) (pos 0) (pos 4) (pos 3)) square → ⊥
beyond-is-none p = absurd (omega (arith, ints, p.1))

-- a box with fewer columns isn't one
shorter-is-none : IsPart (box_of (pos 1 ∷ []) (pos 2 ∷ [])) square → ⊥
shorter-is-none p = p.2

-- ---- missed rows

-- 2 * 3 + 3 is 9; also where y is 0 the row misses, and at x = 2 and y = 0 it doesn't
far-corner : row_misses products 0 (box (pos 3) (pos 3) (pos 3) (pos 3)) ≡ true
far-corner = refl

dear-side : row_misses products 0 (box (pos 3) (pos 0) (pos 3) (pos 3)) ≡ true
dear-side = refl

cheap-side : row_misses products 0 (box (pos 2) (pos 0) (pos 3) (pos 3)) ≡ false
cheap-side = refl

-- there is no row 1
no-row : IsMissing products square 1 → ⊥
no-row m = absurd (omega (arith, m.is_row))

-- ---- answers

-- (3, 3) is stuck with row 0, and so is the whole side with x = 3
side-stuck : IsDive products square (Stuck (box (pos 3) (pos 0) (pos 3) (pos 3)) 0)
side-stuck = record {
  columns = refl;
  occupied = refl;
  within = λ x h. part-in (box (pos 3) (pos 0) (pos 3) (pos 3)) square x corner-is-part h;
  row = record { is_row = omega arith; misses = refl };
}

-- the whole square isn't missed
square-not-stuck : IsStuck products square square 0 → ⊥
square-not-stuck s = absurd (false-is-true s.row.misses)
  where
    false-is-true : false ≡ true → ⊥
    false-is-true e = absurd (cc)

-- an answer without a point doesn't decide a single box whose point is feasible
single-decided : DecidesSingle products (box (pos 1) (pos 2) (pos 1) (pos 2)) (Stuck square 0) → Feasible products (pos 1 ∷ pos 2 ∷ []) → ⊥
single-decided d f = (d refl).1 f
