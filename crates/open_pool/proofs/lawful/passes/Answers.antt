use Rattle.scenario_changes.specs.Problems as problems
use Rattle.std.proofs.Common.{[]}
use Rattle.bb_core.specs.Coverage.{ReachesCaps}
use Rattle.certs.specs.Trees.{dropped}
use Rattle.open_pool.proofs.LawfulLaws.{pass_close, not_closed_reached, close_ends_are}
use Rattle.open_pool.proofs.lawful.passes.Goals as goal

pub returns-then-is_valid-clause-yes : goal.returns-then-is_valid-clause-yes
returns-then-is_valid-clause-yes c = λ e.
    let reached : ReachesCaps c.args.caps.now (dropped [] 0 c.is_raised-is_valid.new.scratch.raised.items) = rw (c.as_slice.ensures.value, c.none.ensures) at (c.reach.ensures.yes e) in
    let more = pass_close (problems.problem c.args.problem.now) c.args.caps.now c.args.count _ _ _ _ (c.is_raised-is_valid.ensures.yes c.if-is_valid.true) reached in rw c.in-Close.is more

pub returns-then-is_valid-clause-no : goal.returns-then-is_valid-clause-no
returns-then-is_valid-clause-no c = λ e.
    let missed : ReachesCaps c.args.caps.now (dropped [] 0 c.is_raised-is_valid.new.scratch.raised.items) → ⊥ = rw (c.as_slice.ensures.value, c.none.ensures) at (c.reach.ensures.no e) in
    let more = not_closed_reached (problems.problem c.args.problem.now) c.args.caps.now c.args.count _ _ _ _ (c.is_raised-is_valid.ensures.yes c.if-is_valid.true) missed in rw c.in-Close.is more

pub returns-then-is_valid-clause-ends : goal.returns-then-is_valid-clause-ends
returns-then-is_valid-clause-ends c = λ e.
    let more = close_ends_are (problems.problem c.args.problem.now) c.args.count _ _ _ _ (c.is_raised-is_valid.ensures.yes c.if-is_valid.true) in rw c.in-Close.is more
