use Rattle.std.proofs.Common.{◌∙◌, sym, subst, List, ℕ, arith}
use Rattle.mps_reader.specs.Sets.{AgreesWith}
use Rattle.mps_reader.proofs.BoundLemmas.{bound_sets, bound_written}
use Rattle.mps_reader.proofs.bounds.take_bound.Goals as goal

pub returns-clause-sets : goal.returns-clause-sets
returns-clause-sets c = λ earlier l d r.
    let is = c.in_ok-line.ensures.ok l d.fields in
    subst (λ (sets : List (List ℕ)). AgreesWith c.place_of.new.set.first sets) (sym (bound_sets earlier l _ c.in_ok-line.line d is)) (c.in_ok-index.ensures.ok earlier l is r).2

pub returns-clause-bounds : goal.returns-clause-bounds
returns-clause-bounds c = λ earlier l k e d r at.
    let is = c.in_ok-line.ensures.ok l d.fields in
    bound_written c.args.columns.now.table.items.items c.in_ok-index.index k e c.index_mut.result.now l c.take.new.self (omega (arith, c.in_ok-index.ensures.within, c.args.columns.now.table.items.ok.0)) c.index_mut.ensures.value (sym (c.in_ok-index.ensures.ok earlier l is r).1 ∙ at) (c.in_ok-take.ensures.ok l is.setting).1
