use Rattle.std.proofs.Common.{rules, arith, ◌≡◌, ◌∙◌, ap, sym, subst, true, false, ℕ, ℤ, pos, [], length, refl, below_more, ◌-ℤ◌, ◌≤ℤ◌, FitsSigned, w64}
use Rattle.std.specs.Prelude.{slice_index_or}
use Rattle.std.proofs.lemmas.Int.{ints, to_z-of_z}
use Rattle.std.proofs.lemmas.List.{get_or_default}
use Rattle.int_model.specs.Programs.{Terms, AreTerms}
use Rattle.int_model.specs.RowSums.{coefficient, least_sum, greatest_sum}
use Rattle.activity.proofs.SumLemmas.{term_at}
use Rattle.tighten.specs.Engines.{Tightens, ColumnStays, box_in}
use Rattle.tighten.specs.Steps.{rows_of}
use Rattle.tighten.proofs.EngineLemmas.{row-terms, tightened-at_err, tightens-as, tightens-same}
use Rattle.tighten.proofs.OtherTerms.{coefficient-at}
use Rattle.tighten.proofs.StepLemmas.{terms-at}
use Rattle.tighten.proofs.StepRuns.{tightens-trans}
use Rattle.tighten.proofs.StillLemmas.{grows, no-change, row-stays, term-stays, redundant-stays, calm-stays, still-as}
use Rattle.tighten.proofs.engine.Engine.narrow_by_row.Goals as goal

pub narrow_column-requires-clause-column : goal.narrow_column-requires-clause-column
narrow_column-requires-clause-column c =
    let all : AreTerms 0 (length c.args.model.now.columns) c.as_slice-terms.result.now = rw c.as_slice-terms.ensures c.row-line.ensures.limits.terms in
    (term_at 0 (length c.args.model.now.columns) c.as_slice-terms.result.now c.loop-column.column-index (0, pos 0) all c.loop-column-test.true).column

pub narrow_column-requires-clause-coefficient : goal.narrow_column-requires-clause-coefficient
narrow_column-requires-clause-coefficient c =
    let term : ℕ × ℤ = slice_index_or c.as_slice-terms.result.now c.loop-column.column-index (0, pos 0) in
    let all : AreTerms 0 (length c.args.model.now.columns) c.as_slice-terms.result.now = rw c.as_slice-terms.ensures c.row-line.ensures.limits.terms in
    let t = term_at 0 (length c.args.model.now.columns) c.as_slice-terms.result.now c.loop-column.column-index (0, pos 0) all c.loop-column-test.true in
    let fits : FitsSigned w64 term.1 = omega (arith, ints, t.entry) in
    let terms : slice_index_or (rows_of c.args.model.now) c.args.row [] ≡ c.as_slice-terms.result.now = terms-at c.args.model.now.rows c.args.row c.row-line.result.now c.row-line.ensures.value ∙ sym c.as_slice-terms.ensures in
    simp to_z-of_z (sym (coefficient-at 0 (length c.args.model.now.columns) c.as_slice-terms.result.now c.loop-column.column-index term.0 (0, pos 0) all c.loop-column-test.true refl) ∙ ap (coefficient term.0) (sym terms))

pub returns-in_err-narrow_column-clause-steps : goal.returns-in_err-narrow_column-clause-steps
returns-in_err-narrow_column-clause-steps c =
    tightened-at_err c.args.model.now c.args.ends.now c.args.self.now c.narrow_column.new.self c.from_residual.result c.from_residual.ensures.0
    (tightens-trans c.args.model.now c.args.ends.now c.args.self.now c.loop-column.self c.narrow_column.new.self true c.loop-column.invariant.steps c.in_err-narrow_column.ensures.steps)

pub returns-then-not-branch-clause-steps : goal.returns-then-not-branch-clause-steps
returns-then-not-branch-clause-steps c =
    tightens-trans c.args.model.now c.args.ends.now c.args.self.now c.loop-column.self c.narrow_column.new.self false c.loop-column.invariant.steps
    (tightens-as c.args.model.now c.args.ends.now c.loop-column.self c.narrow_column.new.self c.in_ok-narrow_column.field-0 false c.if-not-branch.true c.in_ok-narrow_column.ensures.steps)

pub returns-then-reach_of-slack-clause-steps : goal.returns-then-reach_of-slack-clause-steps
returns-then-reach_of-slack-clause-steps c = tightens-same c.args.model.now c.args.ends.now c.args.self.now c.requires.loaded

pub returns-then-reach_of-slack-clause-still : goal.returns-then-reach_of-slack-clause-still
returns-then-reach_of-slack-clause-still c few same =
    let slack_fits : FitsSigned w64 c.slack_of-slack.result = search rules in
    let reach_fits : FitsSigned w64 c.reach_of.result = search rules in
    let test = simp to_z-of_z at c.if-reach_of-slack.true in
    let ts : Terms = slice_index_or (rows_of c.args.model.now) c.args.row [] in
    let within : (greatest_sum (slice_index_or (rows_of c.args.model.now) c.args.row []) (box_in c.args.self.now) -ℤ least_sum (slice_index_or (rows_of c.args.model.now) c.args.row []) (box_in c.args.self.now)) ≤ℤ c.slack_of-slack.result = omega (arith, ints, test, c.reach_of.ensures) in
    (redundant-stays (length c.args.model.now.columns) (rows_of c.args.model.now) c.args.ends.now c.args.row (box_in c.args.self.now) c.slack_of-slack.result (row-terms c.args.model.now c.args.row c.columns-columns.ensures.limits) c.requires.loaded.occupied c.slack_of-slack.ensures within, refl)

pub returns-then-allows-clause-steps : goal.returns-then-allows-clause-steps
returns-then-allows-clause-steps c = tightens-same c.args.model.now c.args.ends.now c.args.self.now c.requires.loaded

pub returns-then-allows-clause-still : goal.returns-then-allows-clause-still
returns-then-allows-clause-still c few same =
    let slack_fits : FitsSigned w64 c.slack_of-slack.result = search rules in
    let within = simp to_z-of_z at (c.allows.ensures c.if-allows.true) in
    let at : c.index.result.now ≡ slice_index_or c.args.self.now.spread.items c.args.row 0 = c.index.ensures ∙ get_or_default c.args.self.now.spread.items c.args.row _ 0 (omega (arith, c.requires.row, c.requires.loaded.sized.spread)) in
    (calm-stays (length c.args.model.now.columns) (rows_of c.args.model.now) c.args.ends.now c.args.row (box_in c.args.self.now) (slice_index_or c.args.self.now.spread.items c.args.row 0) c.slack_of-slack.result (row-terms c.args.model.now c.args.row c.columns-columns.ensures.limits) c.requires.loaded.occupied c.slack_of-slack.ensures (c.requires.loaded.spread c.args.row) (omega (arith, ints, within, at)), refl)

pub loop-column-init : goal.loop-column-init
loop-column-init c =
    let slack_fits : FitsSigned w64 c.slack_of-slack.result = search rules in
    record {
      loaded = c.requires.loaded;
      steps = tightens-same c.args.model.now c.args.ends.now c.args.self.now c.requires.loaded;
      slack = simp to_z-of_z c.slack_of-slack.ensures;
      still = λ same. (λ k h. absurd (omega arith), refl);
    }

pub spread_of-requires-clause-column : goal.spread_of-requires-clause-column
spread_of-requires-clause-column c =
    let all : AreTerms 0 (length c.args.model.now.columns) c.as_slice-terms.result.now = rw c.as_slice-terms.ensures c.row-line.ensures.limits.terms in
    (term_at 0 (length c.args.model.now.columns) c.as_slice-terms.result.now c.loop-column.column-index (0, pos 0) all c.loop-column-test.true).column

pub spread_of-requires-clause-coefficient : goal.spread_of-requires-clause-coefficient
spread_of-requires-clause-coefficient c =
    let term : ℕ × ℤ = slice_index_or c.as_slice-terms.result.now c.loop-column.column-index (0, pos 0) in
    let all : AreTerms 0 (length c.args.model.now.columns) c.as_slice-terms.result.now = rw c.as_slice-terms.ensures c.row-line.ensures.limits.terms in
    let t = term_at 0 (length c.args.model.now.columns) c.as_slice-terms.result.now c.loop-column.column-index (0, pos 0) all c.loop-column-test.true in
    let fits : FitsSigned w64 term.1 = omega (arith, ints, t.entry) in
    simp to_z-of_z t.entry

pub loop-column-preserved-then-spread_of-slack : goal.loop-column-preserved-then-spread_of-slack
loop-column-preserved-then-spread_of-slack c =
    let term : ℕ × ℤ = slice_index_or c.as_slice-terms.result.now c.loop-column.column-index (0, pos 0) in
    let all : AreTerms 0 (length c.args.model.now.columns) c.as_slice-terms.result.now = rw c.as_slice-terms.ensures c.row-line.ensures.limits.terms in
    let t = term_at 0 (length c.args.model.now.columns) c.as_slice-terms.result.now c.loop-column.column-index (0, pos 0) all c.loop-column-test.true in
    let fits : FitsSigned w64 term.1 = omega (arith, ints, t.entry) in
    let spread_fits : FitsSigned w64 c.spread_of.result = search rules in
    let terms : slice_index_or (rows_of c.args.model.now) c.args.row [] ≡ c.as_slice-terms.result.now = terms-at c.args.model.now.rows c.args.row c.row-line.result.now c.row-line.ensures.value ∙ sym c.as_slice-terms.ensures in
    let spread = simp to_z-of_z at c.spread_of.ensures in
    let test = simp to_z-of_z at c.if-spread_of-slack.true in
    record {
      loaded = c.loop-column.invariant.loaded;
      steps = c.loop-column.invariant.steps;
      slack = c.loop-column.invariant.slack;
      still = λ same.
          let before = c.loop-column.invariant.still same in
          let here = term-stays (length c.args.model.now.columns) (rows_of c.args.model.now) c.args.ends.now c.args.row c.as_slice-terms.result.now c.loop-column.column-index (0, pos 0) (box_in c.loop-column.self) c.spread_of.result _ terms all c.loop-column-test.true c.loop-column.invariant.loaded.occupied c.loop-column.invariant.slack spread (omega (arith, ints, test)) in
          (below_more _ c.loop-column.column-index before.0 (subst (ColumnStays (rows_of c.args.model.now) c.args.ends.now c.args.row term.0) (no-change c.args.self.now c.loop-column.self c.loop-column.invariant.steps.follows same) here), before.1);
    }

pub loop-column-preserved : goal.loop-column-preserved
loop-column-preserved c =
    let term : ℕ × ℤ = slice_index_or c.as_slice-terms.result.now c.loop-column.column-index (0, pos 0) in
    let taken : Tightens c.args.model.now c.args.ends.now c.loop-column.self true c.narrow_column.new.self = tightens-as c.args.model.now c.args.ends.now c.loop-column.self c.narrow_column.new.self c.in_ok-narrow_column.field-0 true c.if-not-branch.false c.in_ok-narrow_column.ensures.steps in
    let slack_fits : FitsSigned w64 c.slack_of-slack-in-loop-column.result = search rules in
    record {
      loaded = c.in_ok-narrow_column.ensures.loaded;
      steps = tightens-trans c.args.model.now c.args.ends.now c.args.self.now c.loop-column.self c.narrow_column.new.self true c.loop-column.invariant.steps taken;
      slack = simp to_z-of_z c.slack_of-slack-in-loop-column.ensures;
      still = λ same.
          let early : length c.loop-column.self.trail.items ≡ length c.args.self.now.trail.items = omega (arith, grows c.args.self.now c.loop-column.self c.loop-column.invariant.steps.follows, grows c.loop-column.self c.narrow_column.new.self taken.follows, same) in
          let late : length c.narrow_column.new.self.trail.items ≡ length c.loop-column.self.trail.items = omega (arith, early, same) in
          let before = c.loop-column.invariant.still early in
          let here = (still-as _ c.loop-column.self c.narrow_column.new.self c.in_ok-narrow_column.field-0 c.if-not-branch.false c.in_ok-narrow_column.ensures.still) late in
          (below_more _ c.loop-column.column-index before.0 (subst (ColumnStays (rows_of c.args.model.now) c.args.ends.now c.args.row term.0) (no-change c.args.self.now c.loop-column.self c.loop-column.invariant.steps.follows early) here.0), here.1 ∙ before.1);
    }

pub returns-clause-still : goal.returns-clause-still
returns-clause-still c few same =
    let terms : slice_index_or (rows_of c.args.model.now) c.args.row [] ≡ c.as_slice-terms.result.now = terms-at c.args.model.now.rows c.args.row c.row-line.result.now c.row-line.ensures.value ∙ sym c.as_slice-terms.ensures in
    let before = c.loop-column.invariant.still same in
    (row-stays (rows_of c.args.model.now) c.args.ends.now c.args.row c.as_slice-terms.result.now (box_in c.args.self.now) (0, pos 0) terms (λ k h. before.0 k (omega arith)), before.1)
