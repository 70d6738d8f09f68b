-- What an ascent keeps, read at one scenario.
use Rattle.std.specs.Prelude.{◌≡◌, ◌≢◌, ℕ, ◌+◌, ◌^◌, ◌<◌, ◌≤◌, ℤ, pos, ◌+ℤ◌, ◌-ℤ◌, ◌*ℤ◌, unsigned_abs, List, [], ◌∷◌, length, slice_index_or, slice_get, slice_set, All, Some}
use Rattle.std.proofs.Common.{arith, ap, sym, subst, ◌∙◌, below_more, FitsSigned, w64, of_z, to_z}
use Rattle.std.proofs.lemmas.Int.{ints, to_z-of_z}
use Rattle.std.proofs.lemmas.List.{get_or_read, get_or-set_same, get_or-set_other, length-set as length-set-list}
use Rattle.int_model.specs.Integers.{int_at}
use Rattle.int_model.specs.Boxes.{Box}
use Rattle.int_model.specs.Programs.{Program, Terms, AreTerms}
use Rattle.int_model.specs.RowSums.{coefficient, row_at}
use Rattle.int_model.specs.Models.{IntegerModel, IsRow}
use Rattle.int_model.specs.declared.model.Ends.{Ends}
use Rattle.int_model.specs.declared.model.Row.{Row}
use Rattle.scenario_changes.specs.Problems.{Scenarios, IsWithin, AreWithin, problem, program_at}
use Rattle.dual_bounds.specs.Vectors.{KeepsLimits, program_sum}
use Rattle.dual_bounds.specs.Counting.{counting}
use Rattle.dual_search.specs.Gains.{AreReduced, AreSmall, entries_of, entry_count, gain, vector_of}
use Rattle.dual_search.specs.Ascents.{AreAllReduced, AreBoxes, HasVector, IsCarried, vector_at, with_multiplier}
use Rattle.dual_search.specs.declared.ascent.Ascent.{Ascent}
use Rattle.dual_search.specs.declared.reduced_costs.ReducedCosts.{ReducedCosts}
use Rattle.dual_search.proofs.GainLemmas.{reduced-set, sum-moved}
use Rattle.dual_search.proofs.TermLemmas.{limit-set}
use Rattle.dual_search.proofs.EntryLemmas.{are-entries, length-set, multipliers-within}
use Rattle.dual_search.proofs.LimitLemmas.{reduced-small}
use Rattle.dual_search.proofs.TotalLemmas.{program-within, row-is}

pub few-terms : (least n : ℕ) (ts : Terms) → AreTerms least n ts → least ≤ n → length ts + least ≤ n
few-terms least n [] all le = omega arith
few-terms least n (t ∷ ts) all le = omega (arith, few-terms (t.0 + 1) n ts all.4 (omega (arith, all.1)), all.0)

-- the k-th scenario of an ascent, and its reduced costs
pub record IsScenarioAt (p : Scenarios) (a : Ascent) (k s : ℕ) (r : ReducedCosts) : Type 0 where
  pub inside : k < length a.scenarios.items
  pub number : slice_index_or a.scenarios.items k 0 ≡ s
  pub below : s < length (problem p).scenarios
  pub within : IsWithin (length p.model.columns) (length p.model.rows) (program_at (problem p) s)
  pub reduced : AreReduced (program_at (problem p) s) a.scale a.multipliers.items r.costs.items
  pub small : AreSmall r.costs.items
  pub count : length r.costs.items ≡ length p.model.columns

pub scenario-at : (p : Scenarios) (a : Ascent) (k s : ℕ) (r : ReducedCosts) → AreWithin (problem p) → IsCarried p a → k < length a.scenarios.items → s ≡ slice_index_or a.scenarios.items k s → r ≡ slice_index_or a.reduced.items k r → IsScenarioAt p a k s r
scenario-at p a k s r within carried h number own =
    let is : slice_index_or a.scenarios.items k 0 ≡ s = sym (get_or_read a.scenarios.items k s h number 0) in
    let below : s < length (problem p).scenarios = subst (λ (n : ℕ). n < length (problem p).scenarios) is (carried.scenarios k 0 h) in
    let q : Program = program_at (problem p) s in
    let fits : IsWithin (length p.model.columns) (length p.model.rows) (program_at (problem p) s) = program-within p s within below in
    let reduced : AreReduced (program_at (problem p) s) a.scale a.multipliers.items r.costs.items =
    subst (λ (n : ℕ). AreReduced (program_at (problem p) n) a.scale a.multipliers.items r.costs.items) is
    (subst (λ (x : ReducedCosts). AreReduced (program_at (problem p) (slice_index_or a.scenarios.items k 0)) a.scale a.multipliers.items x.costs.items) (sym own) (carried.reduced.values k r h)) in
    record {
      inside = h;
      number = is;
      below = below;
      within = fits;
      reduced = reduced;
      small = reduced-small (program_at (problem p) s) a.scale a.multipliers.items r.costs.items fits.limits carried.vector.scale carried.vector.limits (omega (arith, carried.vector.entries, carried.vector.few)) reduced;
      count = reduced.count ∙ fits.shape.costs;
    }

-- a row of the model, as the calls tell it
pub record IsRowAt (p : Scenarios) (row : ℕ) (terms : Terms) : Type 0 where
  pub terms_are : (s : ℕ) → s < length (problem p).scenarios → row_at (program_at (problem p) s) row ≡ terms
  pub rising : AreTerms 0 (length p.model.columns) terms

pub row-of : (p : Scenarios) (m : IntegerModel) (row : ℕ) (r : Row) (terms : Terms) → m ≡ p.model → slice_get m.rows row ≡ Some r → IsRow (length m.columns) r → terms ≡ r.terms → IsRowAt p row terms
row-of p m row r terms same e is own = record {
  terms_are = λ s h. row-is p s row m.rows r terms h (ap (λ (n : IntegerModel). n.rows) same) e own;
  rising = subst (λ (ts : Terms). AreTerms 0 (length p.model.columns) ts) (sym own) (subst (λ (n : IntegerModel). AreTerms 0 (length n.columns) r.terms) same is.terms);
}

pub terms-reduced : (p : Scenarios) (a : Ascent) (k s row : ℕ) (r : ReducedCosts) (terms : Terms) → IsScenarioAt p a k s r → IsRowAt p row terms → AreTerms 0 (length r.costs.items) terms
terms-reduced p a k s row r terms at line = subst (λ (n : ℕ). AreTerms 0 n terms) (sym at.count) line.rising

-- a box among boxes
pub box-columns : (p : Scenarios) (a : Ascent) (boxes : List Box) (k s : ℕ) (r : ReducedCosts) (box : Box) → IsScenarioAt p a k s r → AreBoxes p a boxes → box ≡ slice_index_or boxes k box → length box ≡ length p.model.columns
box-columns p a boxes k s r box at all own =
    ap (λ (b : Box). length b) own ∙ all.columns k box (omega (arith, at.inside, all.count))

-- the gain of one scenario
pub scenario-gain : (p : Scenarios) (a : Ascent) (boxes : List Box) (row k s : ℕ) (r : ReducedCosts) (box : Box) (terms : Terms) (ends : List Ends) (from to g : ℤ) → IsCarried p a → row < length p.model.rows → IsScenarioAt p a k s r → IsRowAt p row terms → length box ≡ length p.model.columns → ends ≡ (program_at (problem p) s).ends → from ≡ int_at a.multipliers.items row → g ≡ gain terms ends r.costs.items box row from to → program_sum (program_at (problem p) s) (with_multiplier a row to) box ≡ program_sum (program_at (problem p) s) (vector_at a) box +ℤ g
scenario-gain p a boxes row k s r box terms ends from to g carried h at line columns of_ends of_from is =
    let q : Program = program_at (problem p) s in
    let inside : row < length a.multipliers.items = omega (arith, carried.rows, h) in
    let own : AreTerms 0 (length (program_at (problem p) s).costs) (row_at (program_at (problem p) s) row) =
    subst (λ (n : ℕ). AreTerms 0 n (row_at (program_at (problem p) s) row)) (sym at.within.shape.costs)
    (subst (λ (ts : Terms). AreTerms 0 (length p.model.columns) ts) (sym (line.terms_are s at.below)) line.rising) in
    sum-moved (program_at (problem p) s) a.scale a.multipliers.items row to r.costs.items box inside at.reduced own (columns ∙ sym at.within.shape.costs)
    ∙ ap (λ (z : ℤ). program_sum (program_at (problem p) s) (vector_at a) box +ℤ z)
    (ap (λ (ts : Terms). gain ts (program_at (problem p) s).ends r.costs.items box row (int_at a.multipliers.items row) to) (line.terms_are s at.below)
    ∙ ap (λ (es : List Ends). gain terms es r.costs.items box row (int_at a.multipliers.items row) to) (sym of_ends)
    ∙ ap (λ (z : ℤ). gain terms ends r.costs.items box row z to) (sym of_from)
    ∙ sym is)

-- the reduced costs of one scenario after a shift
pub shifted-reduced : (p : Scenarios) (a : Ascent) (row k s : ℕ) (r : ReducedCosts) (after : List ℤ) (terms : Terms) (ends : List Ends) (from to : ℤ) → IsCarried p a → row < length p.model.rows → IsScenarioAt p a k s r → IsRowAt p row terms → ends ≡ (program_at (problem p) s).ends → from ≡ int_at a.multipliers.items row → length after ≡ length r.costs.items → ((j : ℕ) → int_at after j ≡ int_at r.costs.items j -ℤ (counting ends (row, to) -ℤ counting ends (row, from)) *ℤ coefficient j terms) → AreReduced (program_at (problem p) (slice_index_or a.scenarios.items k 0)) a.scale (slice_set a.multipliers.items row to) after
shifted-reduced p a row k s r after terms ends from to carried h at line of_ends of_from count values =
    let inside : row < length a.multipliers.items = omega (arith, carried.rows, h) in
    subst (λ (n : ℕ). AreReduced (program_at (problem p) n) a.scale (slice_set a.multipliers.items row to) after) (sym at.number)
    (reduced-set (program_at (problem p) s) a.scale a.multipliers.items row to r.costs.items after inside at.reduced count
    (λ j. values j
    ∙ ap (λ (es : List Ends). int_at r.costs.items j -ℤ (counting es (row, to) -ℤ counting es (row, from)) *ℤ coefficient j terms) of_ends
    ∙ ap (λ (z : ℤ). int_at r.costs.items j -ℤ (counting (program_at (problem p) s).ends (row, to) -ℤ counting (program_at (problem p) s).ends (row, z)) *ℤ coefficient j terms) of_from
    ∙ ap (λ (ts : Terms). int_at r.costs.items j -ℤ (counting (program_at (problem p) s).ends (row, to) -ℤ counting (program_at (problem p) s).ends (row, int_at a.multipliers.items row)) *ℤ coefficient j ts) (sym (line.terms_are s at.below))))

-- one more of the reduced costs is done
pub done-more : (P : ℕ → ReducedCosts → Type 0) (rs : List ReducedCosts) (k : ℕ) (r : ReducedCosts) → k < length rs → ((i : ℕ) (d : ReducedCosts) → i < k → P i (slice_index_or rs i d)) → P k r → (i : ℕ) (d : ReducedCosts) → i < k + 1 → P i (slice_index_or (slice_set rs k r) i d)
done-more P rs k r inside before here i d h =
    below_more (λ j. P j (slice_index_or (slice_set rs k r) j d)) k
    (λ j g. let other : j ≢ k = omega arith in subst (P j) (sym (get_or-set_other rs k j r d other)) (before j d g))
    (subst (P k) (sym (get_or-set_same rs k r d inside)) here) i h

pub left-more : (rs first : List ReducedCosts) (k : ℕ) (r : ReducedCosts) → ((i : ℕ) (d : ReducedCosts) → k ≤ i → slice_index_or rs i d ≡ slice_index_or first i d) → (i : ℕ) (d : ReducedCosts) → k + 1 ≤ i → slice_index_or (slice_set rs k r) i d ≡ slice_index_or first i d
left-more rs first k r before i d h =
    let other : i ≢ k = omega (arith, h) in
    get_or-set_other rs k i r d other ∙ before i d (omega (arith, h))

-- ---- the vector with another multiplier

pub limits-told : (a : Ascent) (row : ℕ) (to : ℤ) → row < length a.multipliers.items → KeepsLimits (with_multiplier a row to) → unsigned_abs to ≤ 2 ^ 40
limits-told a row to h limits =
    subst (λ (z : ℤ). unsigned_abs z ≤ 2 ^ 40) (get_or-set_same a.multipliers.items row to (pos 0) h)
    (multipliers-within 0 0 (slice_set a.multipliers.items row to) row limits.entries)

-- how many entries there are then
pub entries-after : (a : Ascent) (row : ℕ) (from to : ℤ) (m n : ℕ) → HasVector a → row < length a.multipliers.items → from ≡ int_at a.multipliers.items row → m ≡ entry_count to → n ≡ entry_count from → length (entries_of 0 (slice_set a.multipliers.items row to)) + n ≡ a.entries + m
entries-after a row from to m n v h is of_to of_from =
    let count : n ≡ entry_count (int_at a.multipliers.items row) = of_from ∙ ap entry_count is in
    omega (arith, v.entries, of_to, count, length-set 0 a.multipliers.items row to h)

multiplier-set : (ys : List ℤ) (row : ℕ) (to : ℤ) → row < length ys → unsigned_abs to ≤ 2 ^ 40 → ((i : ℕ) → unsigned_abs (int_at ys i) ≤ 2 ^ 40) → (i : ℕ) → unsigned_abs (int_at (slice_set ys row to) i) ≤ 2 ^ 40
multiplier-set ys row to h small within = limit-set ys row to (2 ^ 40) (2 ^ 40) h (omega arith) within small

pub limits-kept : (a : Ascent) (row : ℕ) (to : ℤ) → HasVector a → row < length a.multipliers.items → unsigned_abs to ≤ 2 ^ 40 → length (entries_of 0 (slice_set a.multipliers.items row to)) ≤ 128 → KeepsLimits (with_multiplier a row to)
limits-kept a row to v h small few = record {
  scale = v.scale;
  few = few;
  entries = are-entries 0 0 (slice_set a.multipliers.items row to) (omega arith) (multiplier-set a.multipliers.items row to h small v.limits);
}

-- an ascent whose multiplier of a row has become another
pub record IsMoved (p : Scenarios) (a b : Ascent) (row : ℕ) (to : ℤ) : Type 0 where
  pub scale : b.scale ≡ a.scale
  pub scenarios : b.scenarios.items ≡ a.scenarios.items
  pub multipliers : b.multipliers.items ≡ slice_set a.multipliers.items row to
  pub entries : b.entries ≡ length (entries_of 0 (slice_set a.multipliers.items row to))
  pub reduced : AreAllReduced p a.scale (slice_set a.multipliers.items row to) a.scenarios.items b.reduced.items

pub carried-moved : (p : Scenarios) (a b : Ascent) (row : ℕ) (to : ℤ) → IsCarried p a → row < length p.model.rows → KeepsLimits (with_multiplier a row to) → IsMoved p a b row to → IsCarried p b
carried-moved p a b row to carried h limits moved =
    let inside : row < length a.multipliers.items = omega (arith, carried.rows, h) in
    let ys : List ℤ = slice_set a.multipliers.items row to in
    let count : length b.multipliers.items ≡ length a.multipliers.items = ap (λ (l : List ℤ). length l) moved.multipliers ∙ length-set-list a.multipliers.items row to in
    record {
      vector = record {
        scale = rw moved.scale carried.vector.scale;
        few_rows = rw count carried.vector.few_rows;
        limits = λ i. rw moved.multipliers (multiplier-set a.multipliers.items row to inside (limits-told a row to inside limits) carried.vector.limits i);
        entries = moved.entries ∙ ap (λ (l : List ℤ). length (entries_of 0 l)) (sym moved.multipliers);
        few = rw moved.entries limits.few;
      };
      scenarios = subst (λ (l : List ℕ). All (λ s. s < length (problem p).scenarios) l) (sym moved.scenarios) carried.scenarios;
      few_scenarios = rw moved.scenarios carried.few_scenarios;
      rows = count ∙ carried.rows;
      reduced =
          subst (λ (n : ℕ). AreAllReduced p n b.multipliers.items b.scenarios.items b.reduced.items) (sym moved.scale)
          (subst (λ (l : List ℤ). AreAllReduced p a.scale l b.scenarios.items b.reduced.items) (sym moved.multipliers)
          (subst (λ (l : List ℕ). AreAllReduced p a.scale (slice_set a.multipliers.items row to) l b.reduced.items) (sym moved.scenarios) moved.reduced));
    }

pub vector-moved : (a b : Ascent) (row : ℕ) (to : ℤ) → b.scale ≡ a.scale → b.multipliers.items ≡ slice_set a.multipliers.items row to → vector_at b ≡ with_multiplier a row to
vector-moved a b row to s e =
    ap (λ (n : ℕ). vector_of n b.multipliers.items) s ∙ ap (λ (l : List ℤ). vector_of a.scale l) e

-- the neighbouring multiplier, as the code has it
pub near-is : (from x u v : ℤ) → x ≡ from → u ≡ v → unsigned_abs from ≤ 2 ^ 40 → unsigned_abs v ≤ 1 → to_z w64 (of_z w64 (to_z w64 (of_z w64 x) +ℤ to_z w64 (of_z w64 u))) ≡ from +ℤ v
near-is from x u v e f small few =
    let from_fits : FitsSigned w64 from = omega (arith, ints, small) in
    let unit_fits : FitsSigned w64 v = omega (arith, ints, few) in
    let sum_fits : FitsSigned w64 (from +ℤ v) = omega (arith, ints, small, few) in
    rw (e, f, to_z-of_z w64 from from_fits, to_z-of_z w64 v unit_fits) (to_z-of_z w64 (from +ℤ v) sum_fits)
