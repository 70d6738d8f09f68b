use Rattle.std.proofs.Common.{refl, ◌≡◌, ◌∙◌, ap, sym, length}
use Rattle.int_model.specs.Boxes.{InBox, box_of}
use Rattle.int_model.specs.Models.{IntegerModel}
use Rattle.int_model.proofs.BoxLaws.{length-InBox, length-box_of}
use Rattle.scenario_changes.proofs.ProblemLaws.{IsRead, point-small, feasible-within, feasible-rows, made-feasible}
use Rattle.scenario_changes.proofs.problem.Problem.meets.Goals as goal

pub returns-then-not-lies_within : goal.returns-then-not-lies_within
returns-then-not-lies_within c =
    (λ e. absurd (cc), λ f. c.if-not-lies_within.ensures.1 (feasible-within c.args.self.now c.args.s _ _ c.args.x.now c.lows.ensures.value c.highs.ensures.value f))

pub meets_rows-requires-clause-point : goal.meets_rows-requires-clause-point
meets_rows-requires-clause-point c = point-small c.lows.result.now c.highs.result.now c.args.x.now c.lows.ensures.limits c.highs.ensures.limits (c.if-not-lies_within.ensures.0 refl)

pub meets_rows-requires-clause-columns : goal.meets_rows-requires-clause-columns
meets_rows-requires-clause-columns c =
    let inside : InBox (box_of c.lows.result.now c.highs.result.now) c.args.x.now = c.if-not-lies_within.ensures.0 refl in
    let columns : c.model.result.now.columns ≡ c.args.self.now.model.columns = ap (λ (m : IntegerModel). m.columns) c.model.ensures in
    let same : length c.lows.result.now ≡ length c.highs.result.now = c.lows.ensures.count ∙ sym c.highs.ensures.count in
    sym (length-InBox (box_of c.lows.result.now c.highs.result.now) c.args.x.now inside) ∙ length-box_of c.lows.result.now c.highs.result.now same ∙ c.lows.ensures.count ∙ sym (ap length columns)

pub returns : goal.returns
returns c =
    let rows : c.model.result.now.rows ≡ c.args.self.now.model.rows = ap (λ (m : IntegerModel). m.rows) c.model.ensures in
    let inside : InBox (box_of c.lows.result.now c.highs.result.now) c.args.x.now = c.if-not-lies_within.ensures.0 refl in
    let read : IsRead c.args.self.now c.args.s c.lows.result.now c.highs.result.now c.ends.result.now = record { scenario = c.requires; lows_are = c.lows.ensures.value; highs_are = c.highs.ensures.value; ends_are = c.ends.ensures.value } in (
      λ e. made-feasible c.args.self.now c.args.s _ _ c.args.x.now _ c.model.result.now.rows rows read inside (c.meets_rows.ensures.0 e),
      λ f. c.meets_rows.ensures.1 (feasible-rows c.args.self.now c.args.s _ _ c.args.x.now _ c.model.result.now.rows rows read f),
    )
