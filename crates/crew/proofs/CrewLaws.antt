-- What the run of the last worker is for the whole crew.
use Rattle.std.specs.Prelude.{◌≡◌, ◌<◌, ◌≤◌, ℕ, List, Some, Result, Ok, Err, IfOk, length, slice_get, slice_index_or}
use Rattle.std.proofs.Common.{arith, ap, sym, ◌∙◌, subst, inl, inr}
use Rattle.std.proofs.lemmas.List.{length-map}
use Rattle.std.proofs.lemmas.Option.{slice_get_within}
use Rattle.scenario_changes.specs.Problems.{Problem, Scenarios}
use Rattle.scenario_changes.specs.Problems as problems
use Rattle.scenario_changes.specs.declared.answer.Answer.{Answer}
use Rattle.certs.specs.Trees.{Place}
use Rattle.certs.specs.declared.tree.Node.{Node}
use Rattle.certs.specs.declared.level.Level.{Level}
use Rattle.certs.specs.declared.level.Level.TheVariants.{Inf}
use Rattle.incumbent_words.specs.Rule.{code_at}
use Rattle.finder.specs.Found.{Found, IsSound, scenario_count}
use Rattle.open_pool.specs.Pooled.{Pooled, IsFull, IsStopped, begun}
use Rattle.alone_run.specs.Runs.{AreAbove, IsClaimed, IsRun, best_of, best_level, point_of}
use Rattle.alone_run.proofs.BestLaws.{best_within, best_least}
use Rattle.alone_run.proofs.CodeOrder.{le_trans}
use Rattle.crew.specs.Shares.{AreAtMost}
use Rattle.crew.specs.Crews.{IsAsGood}

-- caps of at least codes that are at least the best values
pub above_codes : (f : Found) (codes : List ℕ) (caps : List Level) → IsSound f → length caps ≡ scenario_count f.problem → AreAtMost codes caps → ((k : ℕ) → k < scenario_count f.problem → code_at f.seat.view.offers k ≤ code_at codes k) → AreAbove f caps
above_codes f codes caps sound many below least k lt =
    let in_count : k < scenario_count f.problem = omega (arith, many, lt) in
    best_within f sound k in_count (slice_index_or caps k Inf) (code_at codes k) (below k lt) (least k in_count)

-- q is the pool, and m the finder, that the last worker goes on with
pub record IsTail (p : Problem) (nodes : ℕ) (q : Pooled) (m : Found) : Type 0 where
  pub limit : q.nodes ≡ nodes
  pub going : IsStopped q → ⊥
  pub problem : problems.problem m.problem ≡ p
  pub sound : IsSound m

-- its run is one of the crew, from the root and with any finder that it is as good as
module _ (p : Problem) (count : ℕ) (q : Pooled) (m : Found) (tail : IsTail p count q m) (answers : List Answer) (nodes : List Node) (h : IsRun p q m answers nodes) (f : Found) (sound : IsSound f) (good : IsAsGood m f) where
  length_placed : length h.placed ≡ length nodes
  length_placed = sym (length-map h.placed (λ (e : Node × Place). e.0)) ∙ ap (λ (ns : List Node). length ns) h.nodes_are

  in_count : (k : ℕ) (a : Answer) → slice_get answers k ≡ Some a → k < scenario_count f.problem
  in_count k a e =
      let same : scenario_count f.problem ≡ length p.scenarios = ap scenario_count (sym good.problem) ∙ ap (λ (r : Problem). length r.scenarios) tail.problem in
      omega (arith, slice_get_within answers k a e, h.count, same)

  claimed : (k : ℕ) (a : Answer) → slice_get answers k ≡ Some a → IsClaimed p (begun p count) f h.placed k a
  claimed k a e =
      let c = h.claims k a e in
      record {
        claim = c.claim;
        right = c.right;
        better = le_trans (best_level (point_of a)) (best_level (best_of m k)) (best_level (best_of f k)) c.better (best_least f m sound tail.sound good.problem k (in_count k a e) (good.best k));
        reached = c.reached;
        limit = λ g. elim (c.limit g) [
          | inl s ↦ absurd (tail.going s)
          | inr full ↦ inr (subst (λ (n : ℕ). IsFull p n (length h.placed)) tail.limit full)
        ];
      }

  pub crew_run : IsRun p (begun p count) f answers nodes
  crew_run = record {
    placed = h.placed;
    nodes_are = h.nodes_are;
    tree = h.tree;
    within = omega (arith, h.within, tail.limit);
    grown = omega (arith, h.tree.some, length_placed);
    accepted = h.accepted;
    count = h.count;
    claims = claimed;
  }

pub if_ok : {T E : Type 0} (r : Result T E) (P Q : T → Type 0) → ((t : T) → P t → Q t) → IfOk r P → IfOk r Q
if_ok (Ok t) P Q f p = f t p
if_ok (Err e) P Q f p = tt
