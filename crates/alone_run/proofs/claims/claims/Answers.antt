use Rattle.std.proofs.Common.{◌≡◌, ◌+◌, ◌∙◌, ◌++◌, ◌∷◌, [], sym, subst, ap, length, length-append, List, ℕ, Some}
use Rattle.std.specs.Prelude.{slice_get}
use Rattle.scenario_changes.specs.Problems.{Problem, problem}
use Rattle.scenario_changes.specs.declared.answer.Answer.{Answer}
use Rattle.certs.specs.Claims.{bound_of, claim_of}
use Rattle.bb_core.specs.Coverage.{placed_of}
use Rattle.alone_run.specs.Runs.{best_of}
use Rattle.alone_run.proofs.RunLaws.{claims_more, each_more}
use Rattle.alone_run.proofs.claims.claims.Goals as goal

pub loop-s-preserved : goal.loop-s-preserved
loop-s-preserved c =
    let i = c.loop-s.invariant in
    let p : Problem = problem c.args.problem.now in
    let q = c.args.pool.now in
    let f = c.args.finder.now in
    let s : ℕ = c.loop-s.s in
    let a : Answer = c.in_ok-claim.field-0 in
    let bound : c.end_level-bound.result ≡ bound_of p (placed_of q.slots) s = c.end_level-bound.ensures.value ∙ ap (λ (r : Problem). bound_of r (placed_of q.slots) s) c.requires.pool in
    let is : a ≡ claim_of (best_of f s) (bound_of p (placed_of q.slots) s) = claims_more (λ r. r.0.now) (λ r. r.1) p q f s a c.end_level-bound.result c.best.result c.best.ensures.point c.best.ensures.value c.in_ok-claim.ensures bound in
    let pushed : c.push.new.self.items ≡ c.loop-s.answers.items ++ a ∷ [] = c.in_ok-push.ensures.items in
    record {
      count = ap (λ (list : List Answer). length list) pushed ∙ (length-append c.loop-s.answers.items (a ∷ []) ∙ ap (λ (n : ℕ). n + 1) i.count);
      each = subst (λ (list : List Answer). (k : ℕ) (b : Answer) → slice_get list k ≡ Some b → b ≡ claim_of (best_of f k) (bound_of p (placed_of q.slots) k)) (sym pushed) (each_more p q f c.loop-s.answers.items s a i.count i.each is);
    }
