use Rattle.std.proofs.Common.{arith, ◌≡◌, ◌∙◌, ap, sym, subst, true, false, ℕ, [], length, drop, refl, below_more}
use Rattle.std.proofs.lemmas.List.{length-drop}
use Rattle.tighten.specs.declared.row_queue.RowQueue.{RowQueue}
use Rattle.tighten.specs.Engines.{Tightens, RowStays, box_in}
use Rattle.tighten.specs.Steps.{rows_of}
use Rattle.tighten.proofs.EngineLemmas.{tightened-at_err, tightens-as, tightens-same, tightens-after}
use Rattle.tighten.proofs.StepRuns.{tightens-none, tightens-trans}
use Rattle.tighten.proofs.StillLemmas.{grows, no-change, next-row, settled-rows, still-as}
use Rattle.tighten.proofs.engine.Engine.propagate.Goals as goal

pub returns-in_err-narrow_by_row-clause-steps : goal.returns-in_err-narrow_by_row-clause-steps
returns-in_err-narrow_by_row-clause-steps c =
    tightened-at_err c.args.model.now c.args.ends.now c.args.self.now c.narrow_by_row.new.self c.from_residual.result c.from_residual.ensures.0
    (tightens-after c.args.model.now c.args.ends.now c.args.self.now c.rows.self _ c.narrow_by_row.new.self true c.rows.invariant.steps c.rows.invariant.loaded.sized.few (record { bounds = refl; trail = refl; steps = refl }) c.in_err-narrow_by_row.ensures.steps)

pub returns-then-not-branch-clause-steps : goal.returns-then-not-branch-clause-steps
returns-then-not-branch-clause-steps c =
    tightens-after c.args.model.now c.args.ends.now c.args.self.now c.rows.self _ c.narrow_by_row.new.self false c.rows.invariant.steps c.rows.invariant.loaded.sized.few (record { bounds = refl; trail = refl; steps = refl })
    (tightens-as c.args.model.now c.args.ends.now _ c.narrow_by_row.new.self c.in_ok-narrow_by_row.field-0 false c.if-not-branch.true c.in_ok-narrow_by_row.ensures.steps)

pub rows-init : goal.rows-init
rows-init c = record {
  loaded = c.requires.loaded;
  steps = tightens-same c.args.model.now c.args.ends.now c.args.self.now c.requires.loaded;
  still = λ fresh few same. (refl, λ i h. absurd (omega arith));
}

pub rows-preserved : goal.rows-preserved
rows-preserved c =
    let taken = tightens-as c.args.model.now c.args.ends.now _ c.narrow_by_row.new.self c.in_ok-narrow_by_row.field-0 true c.if-not-branch.false c.in_ok-narrow_by_row.ensures.steps in
    let all : Tightens c.args.model.now c.args.ends.now c.rows.self true c.narrow_by_row.new.self = tightens-trans c.args.model.now c.args.ends.now c.rows.self _ c.narrow_by_row.new.self true (tightens-none c.args.model.now c.args.ends.now c.rows.self _ c.rows.invariant.loaded.sized.few (record { bounds = refl; trail = refl; steps = refl })) taken in
    record {
      loaded = c.in_ok-narrow_by_row.ensures.loaded;
      steps = tightens-trans c.args.model.now c.args.ends.now c.args.self.now c.rows.self c.narrow_by_row.new.self true c.rows.invariant.steps all;
      still = λ fresh few same.
          let early : length c.rows.self.trail.items ≡ length c.args.self.now.trail.items = omega (arith, grows c.args.self.now c.rows.self c.rows.invariant.steps.follows, grows c.rows.self c.narrow_by_row.new.self all.follows, same) in
          let late : length c.narrow_by_row.new.self.trail.items ≡ length c.rows.self.trail.items = omega (arith, early, same) in
          let before = c.rows.invariant.still fresh few early in
          let here = (still-as _ (record c.rows.self { queue = c.take.new.self }) c.narrow_by_row.new.self c.in_ok-narrow_by_row.field-0 c.if-not-branch.false (c.in_ok-narrow_by_row.ensures.still (omega (arith, early, few)))) late in
          let next = next-row c.args.self.now.queue.rows.items c.take.new.self.rows.items c.rows.counter c.in-Some.row (length c.args.model.now.rows) (sym before.0 ∙ c.in-Some.ensures.first.0) fresh.count fresh.order in
          let row : RowStays (rows_of c.args.model.now) c.args.ends.now c.rows.counter (box_in c.args.self.now) = subst (λ (i : ℕ). RowStays (rows_of c.args.model.now) c.args.ends.now i (box_in c.args.self.now)) next.is_row (subst (RowStays (rows_of c.args.model.now) c.args.ends.now c.in-Some.row) (no-change c.args.self.now c.rows.self c.rows.invariant.steps.follows early) here.0) in
          (ap (λ (q : RowQueue). q.rows.items) here.1 ∙ next.later, below_more _ c.rows.counter before.1 row);
    }

pub returns-in_default-clause-steps : goal.returns-in_default-clause-steps
returns-in_default-clause-steps c =
    tightens-trans c.args.model.now c.args.ends.now c.args.self.now c.rows.self _ true c.rows.invariant.steps
    (tightens-none c.args.model.now c.args.ends.now c.rows.self _ c.rows.invariant.loaded.sized.few (record { bounds = refl; trail = refl; steps = refl }))

pub returns-in_default-clause-rest : goal.returns-in_default-clause-rest
returns-in_default-clause-rest c fresh enough few same =
    let before = c.rows.invariant.still fresh few same in
    let none : drop c.rows.counter c.args.self.now.queue.rows.items ≡ [] = sym before.0 ∙ c.in_default.ensures.first.0 in
    settled-rows c.args.model.now c.args.ends.now (box_in c.args.self.now) c.requires.loaded.occupied (λ i h. before.1 i (omega (arith, ap length none, length-drop c.rows.counter c.args.self.now.queue.rows.items, fresh.count, h)))

pub returns-clause-rest : goal.returns-clause-rest
returns-clause-rest c fresh enough few same =
    let before = c.rows.invariant.still fresh few same in
    settled-rows c.args.model.now c.args.ends.now (box_in c.args.self.now) c.requires.loaded.occupied (λ i h. before.1 i (omega arith))
