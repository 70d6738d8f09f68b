use Rattle.std.proofs.Common.{◌∙◌, arith, sym, ap, pos, w64, subst, FitsSigned, neg_ℤ, []}
use Rattle.std.specs.Prelude.{unwrap_or}
use Rattle.std.proofs.lemmas.Int.{ints, to_z-of_z}
use Rattle.num_text.specs.Words.{last_of}
use Rattle.mps_reader.specs.MadeRows.{row_made, constant_made, costs_made, row_with, objective_with}
use Rattle.mps_reader.proofs.MadeLemmas.{none_made, last_made, row_pushed, kept_row, fits_negated}
use Rattle.mps_reader.proofs.rows.Rows.into_parts.Goals as goal

pub loop-draft-preserved-in-Objective-1 : goal.loop-draft-preserved-in-Objective-1
loop-draft-preserved-in-Objective-1 c =
    let x = c.in-Some.draft in let i = c.loop-draft.invariant in let e = c.in-Objective.is in
    let fits = subst (FitsSigned w64) (sym c.constant_of-constant.ensures) (fits_negated x.rhs x.rhs_limit) in record {
      rows = i.rows ∙ sym (none_made row_made c.loop-draft.yielded x (ap (λ r. row_with r x) e));
      constant = to_z-of_z w64 c.constant_of-constant.result fits ∙ c.constant_of-constant.ensures ∙ sym (ap (λ o. unwrap_or o (pos 0)) (last_made constant_made c.loop-draft.yielded x (neg_ℤ (unwrap_or x.rhs (pos 0))) (ap (λ r. objective_with r (neg_ℤ (unwrap_or x.rhs (pos 0)))) e)));
      costs = sym (ap (λ o. unwrap_or o []) (last_made costs_made c.loop-draft.yielded x x.terms.items (ap (λ r. objective_with r x.terms.items) e)));
    }

pub loop-draft-preserved-in-Dropped-1 : goal.loop-draft-preserved-in-Dropped-1
loop-draft-preserved-in-Dropped-1 c =
    let x = c.in-Some.draft in let i = c.loop-draft.invariant in let e = c.in-Dropped.is in record {
      rows = i.rows ∙ sym (none_made row_made c.loop-draft.yielded x (ap (λ r. row_with r x) e));
      constant = i.constant ∙ sym (ap (λ xs. unwrap_or (last_of xs) (pos 0)) (none_made constant_made c.loop-draft.yielded x (ap (λ r. objective_with r (neg_ℤ (unwrap_or x.rhs (pos 0)))) e)));
      costs = i.costs ∙ sym (ap (λ xs. unwrap_or (last_of xs) []) (none_made costs_made c.loop-draft.yielded x (ap (λ r. objective_with r x.terms.items) e)));
    }

pub loop-draft-preserved : goal.loop-draft-preserved
loop-draft-preserved c =
    let x = c.in-Some.draft in let i = c.loop-draft.invariant in let e = c.in-Kept.is in record {
      rows = row_pushed c.loop-draft.rows.items _ c.loop-draft.yielded x _ c.in_ok-push-in-Kept.ensures.items i.rows (kept_row x c.in-Kept.sense _ _ e (to_z-of_z w64 c.unwrap_or.result (omega (arith, ints)) ∙ c.unwrap_or.ensures) c.from_vec.ensures);
      constant = i.constant ∙ sym (ap (λ xs. unwrap_or (last_of xs) (pos 0)) (none_made constant_made c.loop-draft.yielded x (ap (λ r. objective_with r (neg_ℤ (unwrap_or x.rhs (pos 0)))) e)));
      costs = i.costs ∙ sym (ap (λ xs. unwrap_or (last_of xs) []) (none_made costs_made c.loop-draft.yielded x (ap (λ r. objective_with r x.terms.items) e)));
    }
