use Rattle.std.proofs.Common.{arith, ◌≡◌, ◌∙◌, ap, sym, ℤ, List, Vec, [], ◌∷◌, ◌++◌, refl, FitsSigned, w32}
use Rattle.std.specs.declared.alloc.Global.{Global}
use Rattle.std.proofs.lemmas.List.Elements.{All-push}
use Rattle.std.proofs.lemmas.Int.{ints, to_z-of_z}
use Rattle.int_model.specs.Boxes.{Interval, interval_at}
use Rattle.activity.proofs.SumLemmas.{term_at}
use Rattle.tighten.specs.declared.engine.Change.{Change}
use Rattle.tighten.specs.declared.step.Step.{Step}
use Rattle.tighten.specs.Engines.{box_in, IsChange}
use Rattle.tighten.proofs.EngineLemmas.{item-at, column-of, loaded-with}
use Rattle.tighten.proofs.engine.Engine.set.Goals as goal

pub add_rows-requires-clause-rows : goal.add_rows-requires-clause-rows
add_rows-requires-clause-rows c k d h = omega (arith, (term_at 0 _ c.column_terms.result.now k d c.column_terms.ensures.limits h).column, c.requires.loaded.sized.waits)

pub move_column-requires-clause-loaded : goal.move_column-requires-clause-loaded
move_column-requires-clause-loaded c =
    let facts = column-of c.args.model.now c.args.self.now c.args.column c.columns-columns.ensures.limits c.requires.loaded c.requires.column in
    let low_at = item-at c.args.self.now.low.items c.args.column c.index.result.now c.index.ensures (omega (arith, c.requires.column, c.requires.loaded.sized.lows)) in
    let high_at = item-at c.args.self.now.high.items c.args.column c.index-2.result.now c.index-2.ensures (omega (arith, c.requires.column, c.requires.loaded.sized.highs)) in
    let low_fits : FitsSigned w32 c.index.result.now = omega (arith, ints, facts.low_small, low_at) in
    let high_fits : FitsSigned w32 c.index-2.result.now = omega (arith, ints, facts.high_small, high_at) in
    let pushed = simp to_z-of_z at c.in_ok-push.ensures.items in
    let change : Change = record { column = c.args.column; low = c.index.result.now; high = c.index-2.result.now } in
    let is_change : IsChange c.args.model.now change = record {
      column = c.requires.column;
      low = rw low_at facts.low_small;
      high = rw high_at facts.high_small;
      occupied = rw (low_at, high_at) facts.ordered;
    } in
    loaded-with c.args.model.now c.args.self.now _ c.requires.loaded refl refl refl refl refl c.add_rows.ensures.queue c.add_rows.ensures.count
    (rw pushed (All-push (IsChange c.args.model.now) c.args.self.now.trail.items change c.requires.loaded.trail is_change))
    c.requires.loaded.sized.few c.requires.loaded.sized.room

pub returns-clause-set : goal.returns-clause-set
returns-clause-set c =
    let facts = column-of c.args.model.now c.args.self.now c.args.column c.columns-columns.ensures.limits c.requires.loaded c.requires.column in
    let low_at = item-at c.args.self.now.low.items c.args.column c.index.result.now c.index.ensures (omega (arith, c.requires.column, c.requires.loaded.sized.lows)) in
    let high_at = item-at c.args.self.now.high.items c.args.column c.index-2.result.now c.index-2.ensures (omega (arith, c.requires.column, c.requires.loaded.sized.highs)) in
    let low_fits : FitsSigned w32 c.index.result.now = omega (arith, ints, facts.low_small, low_at) in
    let high_fits : FitsSigned w32 c.index-2.result.now = omega (arith, ints, facts.high_small, high_at) in
    let new_low_fits : FitsSigned w32 c.args.low = c.ranges.low in
    let new_high_fits : FitsSigned w32 c.args.high = c.ranges.high in
    let pushed = simp to_z-of_z at c.in_ok-push.ensures.items in
    let low : c.index.result.now ≡ (interval_at (box_in c.args.self.now) c.args.column).low = low_at ∙ sym (ap (λ (i : Interval). i.low) facts.at) in
    let high : c.index-2.result.now ≡ (interval_at (box_in c.args.self.now) c.args.column).high = high_at ∙ sym (ap (λ (i : Interval). i.high) facts.at) in
    let old : List Change → ℤ → ℤ → List Change = λ (t : List Change) (l h : ℤ). t ++ record { column = c.args.column; low = l; high = h } ∷ [] in
    record {
      bounds = simp to_z-of_z at c.move_column.ensures.bounds;
      trail = ap (λ (t : Vec Change Global). t.items) c.move_column.ensures.trail ∙ pushed ∙ ap (λ (l : ℤ). old c.args.self.now.trail.items l c.index-2.result.now) low ∙ ap (old c.args.self.now.trail.items (interval_at (box_in c.args.self.now) c.args.column).low) high;
      steps = ap (λ (t : Vec Step Global). t.items) c.move_column.ensures.steps;
    }
