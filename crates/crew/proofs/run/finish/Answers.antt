use Rattle.std.proofs.Common.{◌≡◌, ℕ, ◌<◌, ◌≤◌, List, length, sym, ap, ◌∙◌, subst, arith}
use Rattle.scenario_changes.specs.Problems.{Problem, problem}
use Rattle.certs.specs.declared.level.Level.{Level}
use Rattle.incumbent_words.specs.Rule.{code_at}
use Rattle.finder.specs.Found.{Found, IsSound, scenario_count}
use Rattle.open_pool.specs.Pooled.{Pooled, begun}
use Rattle.alone_run.specs.Runs.{IsRun}
use Rattle.crew.specs.Shares.{AreAtMost}
use Rattle.crew.specs.Crews.{IsAsGood}
use Rattle.crew.proofs.CrewLaws.{IsTail, above_codes, crew_run, if_ok}
use Rattle.crew.proofs.run.finish.Goals as goal

pub run_alone-requires-clause-caps : goal.run_alone-requires-clause-caps
run_alone-requires-clause-caps g c =
    let tied = c.into_parts-pool.ensures in
    let f : Found = c.absorb.new.self in
    let pool : Pooled = c.release_all.new.pool in
    let caps : pool.caps ≡ c.into_parts-pool.result.0.caps = ap (λ (q : Pooled). q.caps) c.release_all.ensures.same in
    let same : f.problem ≡ c.args.problem.now = c.absorb.ensures.same.problem ∙ c.requires.finder.1 in
    let count : scenario_count f.problem ≡ length g.B.Run.problem.scenarios = ap scenario_count same ∙ ap (λ (p : Problem). length p.scenarios) c.requires.problem in
    let first : scenario_count c.args.finder.problem ≡ scenario_count f.problem = ap scenario_count (sym c.absorb.ensures.same.problem) in
    let offers : f.seat.view.offers ≡ c.args.finder.seat.view.offers = c.absorb.ensures.view.offers in
    let codes : List ℕ = c.into_parts-pool.result.1.view.caps in
    let least : (k : ℕ) → k < scenario_count f.problem → code_at f.seat.view.offers k ≤ code_at codes k = λ k lt. (let l : k < scenario_count c.args.finder.problem = omega (arith, lt, first) in omega (arith, c.absorb.ensures.caps c.requires.all k l, ap (λ (xs : List ℕ). code_at xs k) offers)) in
    let many : length pool.caps ≡ scenario_count f.problem = ap (λ (ls : List Level). length ls) caps ∙ (tied.many ∙ sym count) in
    above_codes f codes pool.caps c.know.ensures many (subst (AreAtMost codes) (sym caps) tied.below) least

pub returns : goal.returns
returns g c =
    let tied = c.into_parts-pool.ensures in
    let p : Problem = g.B.Run.problem in
    let m : Found = c.absorb.new.self in
    let pool : Pooled = c.release_all.new.pool in
    let same : m.problem ≡ c.args.problem.now = c.absorb.ensures.same.problem ∙ c.requires.finder.1 in
    let tail : IsTail p g.B.Run.nodes pool m = record {
      limit = ap (λ (q : Pooled). q.nodes) c.release_all.ensures.same ∙ tied.limit;
      going = c.wants_memory.ensures.no c.if-wants_memory.false;
      problem = ap problem same ∙ c.requires.problem;
      sound = c.know.ensures;
    } in
    if_ok c.run_alone.result _ (λ e. (f : Found) → IsSound f → IsAsGood c.args.finder f → IsRun p (begun p g.B.Run.nodes) f e.answers e.tree)
    (λ e run f sound good.
    crew_run p g.B.Run.nodes pool m tail e.answers e.tree (subst (λ (r : Problem). IsRun r pool m e.answers e.tree) c.requires.problem run) f sound (record {
      problem = c.absorb.ensures.same.problem ∙ good.problem;
      best = λ k. omega (arith, good.best k, ap (λ (xs : List ℕ). code_at xs k) c.absorb.ensures.view.offers);
    }))
    c.run_alone.ensures
