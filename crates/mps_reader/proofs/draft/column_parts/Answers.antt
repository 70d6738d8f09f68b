use Rattle.std.proofs.Common.{sym, ◌∙◌, arith, ap, length, w64}
use Rattle.std.proofs.lemmas.List.Elements.{All-head, All-rest, All-same}
use Rattle.mps_reader.specs.EndedColumns.{IsColumnOf, costs_from}
use Rattle.mps_reader.proofs.EndLemmas.{good_column, part_pushed, names_of}
use Rattle.mps_reader.proofs.draft.column_parts.Goals as goal
use Rattle.std.proofs.lemmas.Int.{ints, to_z-of_z}

pub loop-draft-preserved : goal.loop-draft-preserved
loop-draft-preserved c =
    let steps = c.in-Some.ensures.steps.0 in
    record {
      room = omega (arith, c.loop-draft.invariant.room, ap length steps);
      rest = λ ls all. All-rest (IsColumnOf ls) _ _ _ steps (c.loop-draft.invariant.rest ls all);
      kind = λ ls all.
          let here = All-head (IsColumnOf ls) _ _ (All-same (IsColumnOf ls) _ _ (sym steps) (c.loop-draft.invariant.rest ls all)) in
          c.loop-draft.invariant.kind ls all ∙ good_column ls _ _ c.in-Some.draft steps (c.in_ok-column_part.ensures.ok ls here);
      left = λ ls first. (c.split_cost-cost.ensures ls c.in-Some.draft.name _ (c.loop-draft.invariant.left ls first ∙ ap (λ cs. costs_from c.loop-draft.number ls (names_of cs)) steps)).1;
      made = λ ls all first.
          let here = All-head (IsColumnOf ls) _ _ (All-same (IsColumnOf ls) _ _ (sym steps) (c.loop-draft.invariant.rest ls all)) in
          part_pushed ls _ c.in-Some.draft _ _ _ (c.loop-draft.invariant.made ls all first) (c.in_ok-column_part.ensures.part ls here (to_z-of_z w64 c.split_cost-cost.result.0 (omega (arith, ints)) ∙ (c.split_cost-cost.ensures ls c.in-Some.draft.name _ (c.loop-draft.invariant.left ls first ∙ ap (λ cs. costs_from c.loop-draft.number ls (names_of cs)) steps)).0)) c.in_ok-push.ensures.items;
    }
