use Rattle.std.proofs.Common.{◌≡◌, ◌∙◌, sym, subst, ap, arith, length, Ok}
use Rattle.scenario_changes.specs.Problems.{Problem, AreWithin, problem}
use Rattle.bb_core.specs.Coverage.{Covers}
use Rattle.open_pool.specs.Pooled.{Pooled}
use Rattle.finder.specs.Found.{Found}
use Rattle.alone_run.specs.Runs.{IsRun}
use Rattle.alone_run.specs.Steps.{IsOver}
use Rattle.alone_run.proofs.BestLaws.{worse_then}
use Rattle.alone_run.proofs.RunLaws.{IsEnd, over_from, is_run}
use Rattle.alone_run.proofs.run.run_alone.Goals as goal

pub returns : goal.returns
returns c =
    let p : Problem = problem c.args.problem.now in
    let q : Pooled = c.step.new.pool in
    let f : Found = c.step.new.finder in
    let i = c.running.invariant in
    let ready = c.in_ok-step.ensures.ready in
    let over : IsOver c.running.pool q = c.in_ok-step.ensures.over (ap (λ b. Ok b) c.if-not-branch.true) in
    let nodes : q.nodes ≡ c.args.pool.nodes = over.nodes ∙ i.nodes in
    let end : IsEnd p c.args.pool c.args.finder q f c.in_ok-answers.answers = record {
      limits = subst AreWithin ready.pool c.is_covered.ensures.limits;
      covered = subst (λ (r : Problem). Covers r q.slots q.caps) ready.pool c.is_covered.ensures.covered;
      many = c.is_covered.ensures.caps ∙ ap (λ (r : Problem). length r.scenarios) ready.pool;
      within = c.node_count-nodes.ensures.within;
      nodes = nodes;
      grown = omega (arith, i.grown, over.grown);
      problem = ap problem ready.finder;
      sound = c.knows-2.ensures;
      first_sound = c.knows.ensures;
      worse = worse_then c.args.finder c.running.finder f i.finder c.in_ok-step.ensures.finder;
      caps = ready.caps;
      over = over_from p c.args.pool c.running.pool q ready.pool i.stopped i.halted over;
      claims = c.in_ok-answers.ensures;
    } in
    subst (IsRun p c.args.pool c.args.finder c.in_ok-answers.answers) (sym c.into_tree.ensures) (is_run p c.args.pool c.args.finder q f c.in_ok-answers.answers end)
