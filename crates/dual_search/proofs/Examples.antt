-- Worked examples, by computing.
use Rattle.std.specs.Prelude.{◌≡◌, ℕ, zero, suc, pos, negsuc, ◌-ℤ◌, unsigned_abs, [], ◌∷◌, Some, None, refl}
use Rattle.std.proofs.Common.{arith, sym}
use Rattle.std.proofs.lemmas.Int.{ints}
use Rattle.int_model.specs.Boxes.{Box, box_of}
use Rattle.scenario_changes.specs.Problems.{Problem}
use Rattle.dual_bounds.proofs.Examples.{cap, m1, square, with_entry, no_entries}
use Rattle.dual_search.specs.Totals.{IsNeighbour, multiplier, total}
use Rattle.dual_search.specs.Gains.{entries_of, gain}
use Rattle.dual_search.proofs.TermLemmas.{coefficient-other}

-- 2x + y at most 4, and at least 1 in the second scenario, with costs of -3 and -2
abbrev two : Problem
two = record { columns = 2; rows = 1; scenarios = m1 ∷ cap (pos 0) (Some (pos 1)) None ∷ [] }

abbrev corner : Box
corner = box_of (pos 0 ∷ pos 0 ∷ []) (pos 1 ∷ pos 1 ∷ [])

-- ---- totals, at the scale 1 and with the multiplier -1: -10 and -6 in the first scenario on the two
-- boxes, and -15 and -5 in the second one, where the multiplier doesn't count

-- each scenario has its own box
total-both : total two (0 ∷ 1 ∷ []) (square ∷ corner ∷ []) (with_entry 1 (negsuc 0)) ≡ negsuc 14
total-both = refl

total-exchanged : total two (0 ∷ 1 ∷ []) (corner ∷ square ∷ []) (with_entry 1 (negsuc 0)) ≡ negsuc 20
total-exchanged = refl

-- a scenario that isn't live counts for nothing
total-second : total two (1 ∷ []) (corner ∷ []) (with_entry 1 (negsuc 0)) ≡ negsuc 4
total-second = refl

total-none : total two [] [] (with_entry 1 (negsuc 0)) ≡ pos 0
total-none = refl

-- ---- neighbours

-- a row without an entry has the multiplier 0
neighbour-of-none : IsNeighbour 1 (no_entries 1) (with_entry 1 (negsuc 0))
neighbour-of-none = record {
  limits = record { scale = omega arith; few = omega arith; entries = (omega arith, omega arith, (λ e. absurd (cc)), tt) };
  scale = refl;
  rows_below = (omega arith, tt);
  row = 0;
  by_one = refl;
  elsewhere = λ i other. coefficient-other i (0, negsuc 0) [] (λ e. other (sym e));
}

-- two multipliers that differ by two are of no neighbours
two-apart : IsNeighbour 1 (no_entries 1) (with_entry 1 (negsuc 1)) → ⊥
two-apart n = by_row n.row n.by_one
  where
    by_row : (row : ℕ) → unsigned_abs (multiplier (with_entry 1 (negsuc 1)) row -ℤ multiplier (no_entries 1) row) ≡ 1 → ⊥
    by_row zero e = absurd (omega (arith, e))
    by_row (suc row) e =
        let none : multiplier (with_entry 1 (negsuc 1)) (suc row) ≡ pos 0 = coefficient-other (suc row) (0, negsuc 1) [] (omega arith) in
        absurd (omega (arith, ints, e, none))

-- a vector is no neighbour of itself
itself : IsNeighbour 1 (no_entries 1) (no_entries 1) → ⊥
itself n = absurd (omega (arith, n.by_one))

-- ---- entries of all rows

entries-kept : entries_of 0 (pos 0 ∷ negsuc 1 ∷ pos 0 ∷ pos 5 ∷ []) ≡ (1, negsuc 1) ∷ (3, pos 5) ∷ []
entries-kept = refl

-- ---- gains: -1 times 4, then 3 times 2 and 3 times 1 less are lost at the columns

gain-one : gain ((0, pos 2) ∷ (1, pos 1) ∷ []) (m1.ends) (negsuc 2 ∷ negsuc 1 ∷ []) square 0 (pos 0) (negsuc 0) ≡ pos 5
gain-one = refl

-- the row hasn't got the end
gain-none : gain ((0, pos 2) ∷ (1, pos 1) ∷ []) (m1.ends) (negsuc 2 ∷ negsuc 1 ∷ []) square 0 (pos 0) (pos 1) ≡ pos 0
gain-none = refl
