-- What a pass over the rows has done so far.
use Rattle.std.specs.Prelude.{◌≡◌, ℕ, ◌+◌, ◌<◌, ◌≤◌, ℤ, ◌+ℤ◌, ◌≤ℤ◌, ◌<ℤ◌, Bool, true, false, ◌||◌, List, length, slice_set, Ok, refl}
use Rattle.std.proofs.Common.{arith, ap, sym, subst, ◌∙◌, below_more}
use Rattle.std.proofs.lemmas.Int.{ints}
use Rattle.int_model.specs.Integers.{int_at}
use Rattle.int_model.specs.Boxes.{Box}
use Rattle.scenario_changes.specs.Problems.{Scenarios, problem}
use Rattle.dual_bounds.specs.Vectors.{Multipliers, KeepsLimits}
use Rattle.dual_search.specs.Totals.{total}
use Rattle.dual_search.specs.Gains.{vector_of}
use Rattle.dual_search.specs.Ascents.{AreBoxes, IsSameSearch, IsTop, IsTopAt, IsTopOfRow, Ascends, total_of, unit, vector_at}
use Rattle.dual_search.specs.declared.ascent.Ascent.{Ascent}

pub same-search : (a b c : Ascent) → IsSameSearch a b → IsSameSearch b c → IsSameSearch a c
same-search a b c f g = record { scale = g.scale ∙ f.scale; scenarios = g.scenarios ∙ f.scenarios }

pub same-boxes : (p : Scenarios) (a b : Ascent) (boxes : List Box) → IsSameSearch a b → AreBoxes p a boxes → AreBoxes p b boxes
same-boxes p a b boxes f all = record {
  count = all.count ∙ sym (ap (λ (l : List ℕ). length l) f.scenarios);
  columns = all.columns;
}

same_vector : (a b : Ascent) → IsSameSearch a b → b.multipliers.items ≡ a.multipliers.items → vector_at b ≡ vector_at a
same_vector a b f e = ap (λ (n : ℕ). vector_of n b.multipliers.items) f.scale ∙ ap (λ (l : List ℤ). vector_of a.scale l) e

same_total : (p : Scenarios) (a b : Ascent) (boxes : List Box) (v : Multipliers) → IsSameSearch a b → total_of p b boxes v ≡ total_of p a boxes v
same_total p a b boxes v f = ap (λ (l : List ℕ). total (problem p) l boxes v) f.scenarios

top_same : (p : Scenarios) (a b : Ascent) (boxes : List Box) (row : ℕ) (y : ℤ) → IsSameSearch a b → b.multipliers.items ≡ a.multipliers.items → IsTopAt p b boxes row y → IsTopAt p a boxes row y
top_same p a b boxes row y f e h =
    subst (Q a.scale a.multipliers.items) f.scenarios
    (subst (λ (l : List ℤ). Q a.scale l b.scenarios.items) e
    (subst (λ (n : ℕ). Q n b.multipliers.items b.scenarios.items) f.scale h))
  where
    Q : ℕ → List ℤ → List ℕ → Type 0
    Q n ys live = KeepsLimits (vector_of n (slice_set ys row (int_at ys row +ℤ y))) → total (problem p) live boxes (vector_of n (slice_set ys row (int_at ys row +ℤ y))) ≤ℤ total (problem p) live boxes (vector_of n ys)

-- after so many rows: some multiplier has moved, or none and the rows are tops
abbrev pub Passed : Scenarios → List Box → Ascent → Ascent → ℕ → Bool → Type 0
Passed p boxes before after n true = total_of p before boxes (vector_at before) <ℤ total_of p before boxes (vector_at after)
Passed p boxes before after n false = (after.multipliers.items ≡ before.multipliers.items) × ((row : ℕ) → row < n → IsTopOfRow p before boxes row)

pub passed-none : (p : Scenarios) (boxes : List Box) (a : Ascent) → Passed p boxes a a 0 false
passed-none p boxes a = (refl, λ row h. absurd (omega (arith, h)))

-- one row more
pub passed-more : (p : Scenarios) (boxes : List Box) (before now after : Ascent) (n : ℕ) (moved ascended : Bool) → IsSameSearch before now → IsSameSearch now after → Passed p boxes before now n moved → Ascends (IsTopOfRow p now boxes n) p boxes now (Ok ascended) after → Passed p boxes before after (n + 1) (moved || ascended)
passed-more p boxes before now after n true true f g m h =
    let grown : total_of p before boxes (vector_at now) <ℤ total_of p before boxes (vector_at after) =
    subst (λ (l : List ℕ). total (problem p) l boxes (vector_at now) <ℤ total (problem p) l boxes (vector_at after)) f.scenarios h in
    omega (arith, ints, m, grown)
passed-more p boxes before now after n true false f g m h =
    subst (λ (v : Multipliers). total_of p before boxes (vector_at before) <ℤ total_of p before boxes v) (sym (same_vector now after g h.0)) m
passed-more p boxes before now after n false true f g m h =
    let grown : total_of p before boxes (vector_at now) <ℤ total_of p before boxes (vector_at after) =
    subst (λ (l : List ℕ). total (problem p) l boxes (vector_at now) <ℤ total (problem p) l boxes (vector_at after)) f.scenarios h in
    subst (λ (v : Multipliers). total_of p before boxes v <ℤ total_of p before boxes (vector_at after)) (same_vector before now f m.0) grown
passed-more p boxes before now after n false false f g m h = (
  h.0 ∙ m.0,
  below_more (λ row. IsTopOfRow p before boxes row) n m.1 (record {
    above = top_same p before now boxes n (unit true) f m.0 h.1.above;
    below = top_same p before now boxes n (unit false) f m.0 h.1.below;
  }),
)

-- all rows
pub passed-all : (p : Scenarios) (boxes : List Box) (before after : Ascent) (n : ℕ) (moved : Bool) → length p.model.rows ≤ n → Passed p boxes before after n moved → Ascends (IsTop p before boxes) p boxes before (Ok moved) after
passed-all p boxes before after n true h m = m
passed-all p boxes before after n false h m = (m.0, λ row g. m.1 row (omega (arith, g, h)))
