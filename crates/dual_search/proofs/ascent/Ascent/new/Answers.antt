use Rattle.std.proofs.Common.{rules, arith, ◌≡◌, ◌∙◌, ap, sym, subst, ℕ, suc, ℤ, pos, ◌≤◌, List, length, slice_index_or, slice_set, add-one, FitsSigned, w64}
use Rattle.std.proofs.lemmas.List.{length-set}
use Rattle.std.proofs.lemmas.Int.{to_z-of_z}
use Rattle.dual_bounds.specs.Vectors.{Entry, AreEntries, RowsBelow}
use Rattle.dual_bounds.proofs.EntryLemmas.{row-at}
use Rattle.dual_search.proofs.StartLemmas.{AreTold, told-none, told-more, told-limits, told-start}
use Rattle.dual_search.proofs.ascent.Ascent.new.Goals as goal

-- what the loop reads of the start
record IsStart (es : List Entry) (n : ℕ) : Type 0 where
  entries : AreEntries 0 es
  few : length es ≤ 128
  rows : RowsBelow n es

start_read : (es fs : List Entry) (n m : ℕ) → es ≡ fs → m ≡ n → AreEntries 0 fs → length fs ≤ 128 → RowsBelow n fs → IsStart es m
start_read es fs n m e f all few below = record {
  entries = subst (λ (l : List Entry). AreEntries 0 l) (sym e) all;
  few = rw e few;
  rows = subst (λ (l : List Entry). RowsBelow m l) (sym e) (subst (λ (k : ℕ). RowsBelow k fs) (sym f) below);
}

pub loop-row-init : goal.loop-row-init
loop-row-init c = record {
  carried = c.in_ok-ascent.ensures.carried;
  scale = c.in_ok-ascent.ensures.scale ∙ c.scale.ensures.value;
  scenarios = c.in_ok-ascent.ensures.scenarios;
  told = told-none c.entries-row-items.result.now c.in_ok-ascent.ascent.multipliers.items c.in_ok-ascent.ensures.multipliers;
}

pub set-requires-clause-row : goal.set-requires-clause-row
set-requires-clause-row c =
    let es = c.entries-row-items.result.now in
    let start = start_read c.entries-row-items.result.now c.args.start.now.entries (length c.args.problem.now.model.rows) (length c.loop-row.ascent.multipliers.items) c.entries-row-items.ensures.value c.loop-row.invariant.carried.rows c.entries-row-items.ensures.limits.entries c.entries-row-items.ensures.limits.few c.requires.rows in
    omega (arith, row-at (length c.loop-row.ascent.multipliers.items) c.entries-row-items.result.now c.loop-row.row-index (0, pos 0) start.rows c.loop-row-test.true, c.loop-row.invariant.carried.rows)

pub set-requires-clause-limits : goal.set-requires-clause-limits
set-requires-clause-limits c =
    let es = c.entries-row-items.result.now in
    let k : ℕ = c.loop-row.row-index in
    let ys : List ℤ = c.loop-row.ascent.multipliers.items in
    let e : Entry = slice_index_or c.entries-row-items.result.now k (0, pos 0) in
    let fits : FitsSigned w64 (slice_index_or c.entries-row-items.result.now k (0, pos 0)).1 = search rules in
    let start = start_read c.entries-row-items.result.now c.args.start.now.entries (length c.args.problem.now.model.rows) (length c.loop-row.ascent.multipliers.items) c.entries-row-items.ensures.value c.loop-row.invariant.carried.rows c.entries-row-items.ensures.limits.entries c.entries-row-items.ensures.limits.few c.requires.rows in
    let next = told-more c.entries-row-items.result.now k (0, pos 0) c.loop-row.ascent.multipliers.items start.entries start.rows c.loop-row-test.true c.loop-row.invariant.told in
    let count : length (slice_set ys e.0 e.1) ≡ length ys = length-set ys e.0 e.1 in
    let below : RowsBelow (length (slice_set ys e.0 e.1)) c.entries-row-items.result.now = subst (λ (n : ℕ). RowsBelow n c.entries-row-items.result.now) (sym count) start.rows in
    rw (to_z-of_z w64 (slice_index_or c.entries-row-items.result.now k (0, pos 0)).1 fits)
    (told-limits c.loop-row.ascent.scale c.entries-row-items.result.now (suc k) (slice_set ys e.0 e.1) c.loop-row.invariant.carried.vector.scale start.few start.entries below next)

pub loop-row-preserved : goal.loop-row-preserved
loop-row-preserved c =
    let k : ℕ = c.loop-row.row-index in
    let ys : List ℤ = c.loop-row.ascent.multipliers.items in
    let e : Entry = slice_index_or c.entries-row-items.result.now k (0, pos 0) in
    let fits : FitsSigned w64 (slice_index_or c.entries-row-items.result.now k (0, pos 0)).1 = search rules in
    let start = start_read c.entries-row-items.result.now c.args.start.now.entries (length c.args.problem.now.model.rows) (length c.loop-row.ascent.multipliers.items) c.entries-row-items.ensures.value c.loop-row.invariant.carried.rows c.entries-row-items.ensures.limits.entries c.entries-row-items.ensures.limits.few c.requires.rows in
    let next = told-more c.entries-row-items.result.now k (0, pos 0) c.loop-row.ascent.multipliers.items start.entries start.rows c.loop-row-test.true c.loop-row.invariant.told in
    let set : c.set.new.self.multipliers.items ≡ slice_set ys e.0 e.1 = c.set.ensures.multipliers ∙ ap (λ (z : ℤ). slice_set ys e.0 z) (to_z-of_z w64 (slice_index_or c.entries-row-items.result.now k (0, pos 0)).1 fits) in
    record {
      carried = c.set.ensures.carried;
      scale = c.set.ensures.same.scale ∙ c.loop-row.invariant.scale;
      scenarios = c.set.ensures.same.scenarios ∙ c.loop-row.invariant.scenarios;
      told = rw add-one (subst (λ (l : List ℤ). AreTold c.entries-row-items.result.now (suc k) l) (sym set) next);
    }

pub returns-clause-start : goal.returns-clause-start
returns-clause-start c =
    let start = start_read c.entries-row-items.result.now c.args.start.now.entries (length c.args.problem.now.model.rows) (length c.loop-row.ascent.multipliers.items) c.entries-row-items.ensures.value c.loop-row.invariant.carried.rows c.entries-row-items.ensures.limits.entries c.entries-row-items.ensures.limits.few c.requires.rows in
    told-start c.loop-row.ascent.scale c.args.start.now c.entries-row-items.result.now c.loop-row.row-index c.loop-row.ascent.multipliers.items c.loop-row.invariant.scale c.entries-row-items.ensures.value start.entries start.rows c.loop-row-test.false c.loop-row.invariant.told
