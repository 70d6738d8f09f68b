-- Totals over the scenarios, one after another.
use Rattle.std.specs.Prelude.{◌≡◌, ℕ, zero, suc, ◌<◌, ◌≤◌, ℤ, pos, ◌+ℤ◌, List, [], ◌∷◌, length, map, slice_index_or, slice_get, drop, Some}
use Rattle.std.proofs.Common.{arith, ap, sym, ◌∙◌, drop_of_length-le}
use Rattle.std.proofs.lemmas.List.{get_or-map, length-map}
use Rattle.std.proofs.lemmas.Int.{ints}
use Rattle.std.proofs.Math.Seq.{drop-cons}
use Rattle.int_model.specs.Boxes.{Box}
use Rattle.int_model.specs.Programs.{Program, Terms}
use Rattle.int_model.specs.RowSums.{row_at}
use Rattle.int_model.specs.declared.model.Row.{Row}
use Rattle.scenario_changes.specs.Changes.{no_change}
use Rattle.scenario_changes.specs.Problems.{Problem, Scenarios, IsWithin, AreWithin, problem, program_at, scenario_of, solved}
use Rattle.dual_bounds.specs.Vectors.{Multipliers, program_sum}
use Rattle.dual_search.specs.Totals.{total}

total-more : (p : Problem) (live : List ℕ) (boxes : List Box) (v : Multipliers) (k s : ℕ) (box : Box) → k < length live → k < length boxes → slice_index_or live k 0 ≡ s → box ≡ slice_index_or boxes k box → total p (drop k live) (drop k boxes) v ≡ program_sum (program_at p s) v box +ℤ total p (drop (suc k) live) (drop (suc k) boxes) v
total-more p live boxes v k s box h g is own =
    ap (λ (l : List ℕ). total p l (drop k boxes) v) (drop-cons live k 0 h)
    ∙ ap (λ (b : List Box). total p (slice_index_or live k 0 ∷ drop (suc k) live) b v) (drop-cons boxes k box g)
    ∙ ap (λ (t : ℕ). program_sum (program_at p t) v (slice_index_or boxes k box) +ℤ total p (drop (suc k) live) (drop (suc k) boxes) v) is
    ∙ ap (λ (b : Box). program_sum (program_at p s) v b +ℤ total p (drop (suc k) live) (drop (suc k) boxes) v) (sym own)

-- the total so far, and what is left of the totals of two vectors
pub record AreApart (p : Problem) (live : List ℕ) (boxes : List Box) (v w : Multipliers) (k : ℕ) (gain : ℤ) : Type 0 where
  pub so_far : total p live boxes w +ℤ total p (drop k live) (drop k boxes) v ≡ (total p live boxes v +ℤ gain) +ℤ total p (drop k live) (drop k boxes) w

pub apart-none : (p : Problem) (live : List ℕ) (boxes : List Box) (v w : Multipliers) → AreApart p live boxes v w 0 (pos 0)
apart-none p live boxes v w = record { so_far = omega (arith, ints) }

pub apart-more : (p : Problem) (live : List ℕ) (boxes : List Box) (v w : Multipliers) (k s : ℕ) (box : Box) (gain more sum : ℤ) → k < length live → k < length boxes → slice_index_or live k 0 ≡ s → box ≡ slice_index_or boxes k box → AreApart p live boxes v w k gain → program_sum (program_at p s) w box ≡ program_sum (program_at p s) v box +ℤ more → sum ≡ gain +ℤ more → AreApart p live boxes v w (suc k) sum
apart-more p live boxes v w k s box gain more sum h g is own before grows adds =
    let of_v : total p (drop k live) (drop k boxes) v ≡ program_sum (program_at p s) v box +ℤ total p (drop (suc k) live) (drop (suc k) boxes) v = total-more p live boxes v k s box h g is own in
    let of_w : total p (drop k live) (drop k boxes) w ≡ program_sum (program_at p s) w box +ℤ total p (drop (suc k) live) (drop (suc k) boxes) w = total-more p live boxes w k s box h g is own in
    record { so_far = omega (arith, ints, before.so_far, of_v, of_w, grows, adds) }

pub apart-all : (p : Problem) (live : List ℕ) (boxes : List Box) (v w : Multipliers) (k : ℕ) (gain : ℤ) → length live ≤ k → AreApart p live boxes v w k gain → total p live boxes w ≡ total p live boxes v +ℤ gain
apart-all p live boxes v w k gain h a =
    let none : drop k live ≡ [] = drop_of_length-le live h in
    let of_v : total p (drop k live) (drop k boxes) v ≡ pos 0 = ap (λ (l : List ℕ). total p l (drop k boxes) v) none in
    let of_w : total p (drop k live) (drop k boxes) w ≡ pos 0 = ap (λ (l : List ℕ). total p l (drop k boxes) w) none in
    omega (arith, ints, a.so_far, of_v, of_w)

-- ---- the programs of a problem

pub program-within : (p : Scenarios) (s : ℕ) → AreWithin (problem p) → s < length (problem p).scenarios → IsWithin (length p.model.columns) (length p.model.rows) (program_at (problem p) s)
program-within p s within h = within.programs s (record { costs = []; constant = pos 0; bounds = []; rows = []; ends = [] }) h

scenario-rows : (p : Scenarios) (s : ℕ) → s < length (problem p).scenarios → (program_at (problem p) s).rows ≡ map (λ (i : Row). i.terms) p.model.rows
scenario-rows p s h =
    let changes = solved p.model p.changes in
    ap (λ (q : Program). q.rows) (get_or-map (scenario_of p.model) changes s (no_change 0 0) (record { costs = []; constant = pos 0; bounds = []; rows = []; ends = [] }) (omega (arith, h, length-map changes (scenario_of p.model))))

terms-at : (rows : List Row) (i : ℕ) (row : Row) → slice_get rows i ≡ Some row → slice_index_or (map (λ (r : Row). r.terms) rows) i [] ≡ row.terms
terms-at [] i row e = absurd (cc)
terms-at (r ∷ rows) zero row e = ap (λ (s : Row). s.terms) (same e)
  where
    same : {r row : Row} → Some r ≡ Some row → r ≡ row
    same e = cc
terms-at (r ∷ rows) (suc i) row e = terms-at rows i row e

pub row-is : (p : Scenarios) (s i : ℕ) (rows : List Row) (row : Row) (terms : Terms) → s < length (problem p).scenarios → rows ≡ p.model.rows → slice_get rows i ≡ Some row → terms ≡ row.terms → row_at (program_at (problem p) s) i ≡ terms
row-is p s i rows row terms h same e own =
    ap (λ (l : List Terms). slice_index_or l i []) (scenario-rows p s h ∙ ap (λ (l : List Row). map (λ (r : Row). r.terms) l) (sym same))
    ∙ terms-at rows i row e ∙ sym own
