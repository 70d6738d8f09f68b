use Rattle.std.proofs.Common.{rules, arith, ◌≡◌, ◌∙◌, ap, sym, ℕ, ℤ, pos, ◌-ℤ◌, ◌*ℤ◌, slice_index_or, FitsSigned, w64, w32, add-one, of_z, to_z}
use Rattle.std.proofs.lemmas.Int.{ints, to_z-of_z}
use mir.Syntax.{w128}
use Rattle.int_model.specs.Integers.{int_sum_by}
use Rattle.int_model.specs.Boxes.{Interval, interval_at}
use Rattle.int_model.specs.RowSums.{least_product}
use Rattle.dual_bounds.proofs.SumLemmas.{ends-of}
use Rattle.dual_bounds.proofs.ProductLemmas.{wide-fits}
use Rattle.dual_search.specs.Gains.{column_gain}
use Rattle.dual_search.proofs.TermLemmas.{term-at, sum-more, no-step}
use Rattle.dual_search.proofs.reduced_costs.columns_gain.Goals as goal

pub bounds-costs-place : goal.bounds-costs-place
bounds-costs-place c =
    let t = term-at 0 _ c.args.terms.now c.loop-column.column-index (0, pos 0) c.requires.terms c.loop-column-test.true in
    omega (arith, t.column)

pub bounds-lows-place : goal.bounds-lows-place
bounds-lows-place c =
    let t = term-at 0 _ c.args.terms.now c.loop-column.column-index (0, pos 0) c.requires.terms c.loop-column-test.true in
    omega (arith, t.column, c.lows-lows.ensures.count, c.requires.columns)

pub bounds-highs-place : goal.bounds-highs-place
bounds-highs-place c =
    let t = term-at 0 _ c.args.terms.now c.loop-column.column-index (0, pos 0) c.requires.terms c.loop-column-test.true in
    omega (arith, t.column, c.highs-highs.ensures.count, c.requires.columns)

pub column_gain-gain-requires-clause-cost : goal.column_gain-gain-requires-clause-cost
column_gain-gain-requires-clause-cost c =
    let small = c.requires.small (slice_index_or c.args.terms.now c.loop-column.column-index (0, pos 0)).0 in
    rw (to_z-of_z w128 _ (wide-fits _ _ small (omega arith))) small

pub column_gain-gain-requires-clause-coefficient : goal.column_gain-gain-requires-clause-coefficient
column_gain-gain-requires-clause-coefficient c =
    let t = term-at 0 _ c.args.terms.now c.loop-column.column-index (0, pos 0) c.requires.terms c.loop-column-test.true in
    let fits : FitsSigned w64 (slice_index_or c.args.terms.now c.loop-column.column-index (0, pos 0)).1 = omega (arith, ints, t.entry) in
    rw (to_z-of_z w64 _ fits) t.entry

-- the gain of a column, as the code has it
gain_of : (q a l h s r : ℤ) (i : Interval) → FitsSigned w128 q → FitsSigned w64 a → FitsSigned w32 l → FitsSigned w32 h → record { low = l; high = h } ≡ i → r ≡ least_product (to_z w128 (of_z w128 q) -ℤ s *ℤ to_z w64 (of_z w64 a)) (record { low = to_z w32 (of_z w32 l); high = to_z w32 (of_z w32 h) }) -ℤ least_product (to_z w128 (of_z w128 q)) (record { low = to_z w32 (of_z w32 l); high = to_z w32 (of_z w32 h) }) → r ≡ least_product (q -ℤ s *ℤ a) i -ℤ least_product q i
gain_of q a l h s r i fq fa fl fh same e =
    let plain : r ≡ least_product (q -ℤ s *ℤ a) (record { low = l; high = h }) -ℤ least_product q (record { low = l; high = h }) = rw (to_z-of_z w128 q fq, to_z-of_z w64 a fa, to_z-of_z w32 l fl, to_z-of_z w32 h fh) at e in
    plain ∙ ap (λ (k : Interval). least_product (q -ℤ s *ℤ a) k -ℤ least_product q k) same

pub loop-column-preserved : goal.loop-column-preserved
loop-column-preserved c =
    let term : ℕ × ℤ = slice_index_or c.args.terms.now c.loop-column.column-index (0, pos 0) in
    let t = term-at 0 _ c.args.terms.now c.loop-column.column-index (0, pos 0) c.requires.terms c.loop-column-test.true in
    let small = c.requires.small term.0 in
    let cost_fits : FitsSigned w128 (slice_index_or c.args.costs.now term.0 (pos 0)) = wide-fits _ _ small (omega arith) in
    let coefficient_fits : FitsSigned w64 term.1 = omega (arith, ints, t.entry) in
    let low_fits : FitsSigned w32 (slice_index_or c.lows-lows.result.now term.0 (pos 0)) = search rules in
    let high_fits : FitsSigned w32 (slice_index_or c.highs-highs.result.now term.0 (pos 0)) = search rules in
    let own : record { low = slice_index_or c.lows-lows.result.now term.0 (pos 0); high = slice_index_or c.highs-highs.result.now term.0 (pos 0) } ≡ interval_at c.args.bounds.now term.0 = ends-of c.args.bounds.now c.lows-lows.result.now c.highs-highs.result.now term.0 c.lows-lows.ensures.value c.highs-highs.ensures.value in
    let gained : c.column_gain-gain.result ≡ column_gain (to_z w64 (of_z w64 c.args.step)) c.args.costs.now c.args.bounds.now term = gain_of _ _ _ _ _ _ _ cost_fits coefficient_fits low_fits high_fits own c.column_gain-gain.ensures.value in
    rw add-one (record {
      so_far = sum-more (column_gain (to_z w64 (of_z w64 c.args.step)) c.args.costs.now c.args.bounds.now) c.args.terms.now c.loop-column.column-index (0, pos 0) _ _ _ _ c.loop-column-test.true c.loop-column.invariant.so_far gained (omega (arith, ints, c.requires.few, c.loop-column-test.true));
      limit = omega (arith, ints, c.requires.few, c.loop-column-test.true);
    })

pub returns-then-step-eq0-clause-value : goal.returns-then-step-eq0-clause-value
returns-then-step-eq0-clause-value c =
    let fits : FitsSigned w64 c.args.step = c.ranges.step in
    let none : c.args.step ≡ pos 0 = sym (to_z-of_z w64 c.args.step fits) ∙ ap (λ (n : ℕ). to_z w64 n) c.if-step-eq0.true in
    sym (ap (λ (z : ℤ). int_sum_by (column_gain z c.args.costs.now c.args.bounds.now) c.args.terms.now) none ∙ no-step c.args.costs.now c.args.bounds.now c.args.terms.now)
