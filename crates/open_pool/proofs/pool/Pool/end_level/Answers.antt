use Rattle.scenario_changes.specs.Problems as problems
use Rattle.std.proofs.Common.{◌≡◌, ◌<◌, length, sym, ◌∙◌, ap, subst, List, ℕ}
use Rattle.certs.specs.Levels.{lesser_level, LevelFits}
use Rattle.certs.specs.Claims.{bound_of}
use Rattle.certs.specs.Trees.{Place, IsTree}
use Rattle.certs.specs.declared.tree.Node.{Node}
use Rattle.certs.proofs.ClaimLaws.{all_within}
use Rattle.certs.proofs.LimitLaws.{bound-fits}
use Rattle.certs.proofs.TreeLaws.{slice_get-some}
use Rattle.bb_core.specs.Coverage.{placed_of}
use Rattle.certs.specs.declared.level.Level.{Level}
use Rattle.open_pool.specs.Ends.{closed_bound, waiting_bound}
use Rattle.open_pool.proofs.EndLaws.{bound_parts}
use Rattle.open_pool.proofs.pool.Pool.end_level.Goals as goal

-- the least level over the ends of a scenario of a tree is within the limits
fits : (p : problems.Problem) → problems.AreWithin p → (placed : List (Node × Place)) → IsTree p placed → (s : ℕ) → s < length p.scenarios → LevelFits (bound_of p placed s)
fits p right placed tree s below =
    let here = slice_get-some p.scenarios s below in
    bound-fits p placed (all_within p right) tree s here.0 here.1

pub returns-clause-value : goal.returns-clause-value
returns-clause-value c =
    let below : c.args.s < length (problems.problem c.self.inside.problem.now).scenarios = rw (← c.self.view_is) at c.requires in
    let closed : c.level_at-closed.result ≡ closed_bound (problems.problem c.self.inside.problem.now) c.args.s c.self.inside.slots.items = rw c.as_slice.ensures.value at c.level_at-closed.ensures ∙ c.self.invariant.ends c.args.s below in
    let waiting : c.waiting_least-waiting.result ≡ waiting_bound c.args.s c.self.inside.slots.items = rw c.as_slice-2.ensures.value at c.waiting_least-waiting.ensures in
    let whole : c.lesser.result ≡ bound_of (problems.problem c.self.inside.problem.now) (placed_of c.self.inside.slots.items) c.args.s = c.lesser.ensures ∙ ap (λ (l : Level). lesser_level l c.waiting_least-waiting.result) closed ∙ ap (λ (l : Level). lesser_level (closed_bound (problems.problem c.self.inside.problem.now) c.args.s c.self.inside.slots.items) l) waiting ∙ sym (bound_parts (problems.problem c.self.inside.problem.now) c.args.s c.self.inside.slots.items c.self.invariant.covered.unsettled) in
    rw (← c.self.view_is) whole

pub returns-clause-limit : goal.returns-clause-limit
returns-clause-limit c =
    let below : c.args.s < length (problems.problem c.self.inside.problem.now).scenarios = rw (← c.self.view_is) at c.requires in
    let closed : c.level_at-closed.result ≡ closed_bound (problems.problem c.self.inside.problem.now) c.args.s c.self.inside.slots.items = rw c.as_slice.ensures.value at c.level_at-closed.ensures ∙ c.self.invariant.ends c.args.s below in
    let waiting : c.waiting_least-waiting.result ≡ waiting_bound c.args.s c.self.inside.slots.items = rw c.as_slice-2.ensures.value at c.waiting_least-waiting.ensures in
    let whole : c.lesser.result ≡ bound_of (problems.problem c.self.inside.problem.now) (placed_of c.self.inside.slots.items) c.args.s = c.lesser.ensures ∙ ap (λ (l : Level). lesser_level l c.waiting_least-waiting.result) closed ∙ ap (λ (l : Level). lesser_level (closed_bound (problems.problem c.self.inside.problem.now) c.args.s c.self.inside.slots.items) l) waiting ∙ sym (bound_parts (problems.problem c.self.inside.problem.now) c.args.s c.self.inside.slots.items c.self.invariant.covered.unsettled) in
    subst (λ (l : Level). LevelFits l) (sym whole) (fits (problems.problem c.self.inside.problem.now) c.self.invariant.right (placed_of c.self.inside.slots.items) c.self.invariant.covered.tree c.args.s below)
