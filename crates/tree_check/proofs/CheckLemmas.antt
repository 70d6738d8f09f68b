-- From a walk and the claims to what is answered.
use Rattle.std.specs.Prelude.{◌≡◌, ℕ, zero, suc, ◌<◌, List, [], ◌∷◌, length, slice_get, slice_index_or, Option, Some, None, refl}
use Rattle.std.proofs.Common.{arith, sym, ◌∙◌, subst}
use Rattle.int_model.specs.Programs.{Program}
use Rattle.scenario_changes.specs.Answers.{RightAnswer}
use Rattle.scenario_changes.specs.Problems.{Problem, AreWithin, program_at}
use Rattle.scenario_changes.specs.declared.answer.Answer.{Answer}
use Rattle.scenario_changes.specs.declared.answer.Answer.TheVariants.{Infeasible, Optimal, Limit}
use Rattle.certs.specs.Trees.{Place}
use Rattle.certs.specs.Claims.{Accepted, ClaimHolds}
use Rattle.certs.specs.declared.tree.Node.{Node}
use Rattle.certs.proofs.ClaimLaws.{all_within}
use Rattle.certs.proofs.TreeLaws.{Accepted-right}
use Rattle.tree_log.specs.declared.file.LogFile.{LogFile}
use Rattle.tree_check.specs.Checks.{AllHold, AllReach, BoundHolds, HasCounts, IsAccepted, IsFirstBelow, PointHolds, Stands}
use Rattle.tree_check.specs.Walks.{IsWalk, Remembers}
use Rattle.tree_check.proofs.WalkLemmas.{get_below, get_there}

-- the tree of a log, where all ends reach their claims
pub record IsStanding (p : Problem) (log : LogFile) : Type 0 where
  pub placed : List (Node × Place)
  pub stands : Stands p log placed
  pub reach : AllReach p log.answers placed

pub standing : (p : Problem) (log : LogFile) (answers : List Answer) (nodes : List Node) (first : Option (ℕ × ℕ)) → HasCounts p log → answers ≡ log.answers → nodes ≡ log.tree → IsWalk p answers nodes first → first ≡ None → IsStanding p log
standing p log answers nodes first counts e f w none = record {
  placed = w.placed;
  stands = record { counts = counts; nodes_are = w.nodes_are ∙ f; tree = w.tree };
  reach = subst (λ (xs : List Answer). AllReach p xs w.placed) e (subst (λ (o : Option (ℕ × ℕ)). Remembers p answers w.placed o) none w.below);
}

pub below_claim : (p : Problem) (log : LogFile) (answers : List Answer) (nodes : List Node) (first : Option (ℕ × ℕ)) (n k : ℕ) → HasCounts p log → answers ≡ log.answers → nodes ≡ log.tree → IsWalk p answers nodes first → first ≡ Some (n, k) → (placed : List (Node × Place)) × Stands p log placed × IsFirstBelow p log.answers placed n k
below_claim p log answers nodes first n k counts e f w some = (w.placed, record { counts = counts; nodes_are = w.nodes_are ∙ f; tree = w.tree }, subst (λ (xs : List Answer). IsFirstBelow p xs w.placed n k) e (subst (λ (o : Option (ℕ × ℕ)). Remembers p answers w.placed o) some w.below))

program_here : (ss : List Program) (k : ℕ) (d s : Program) → slice_get ss k ≡ Some s → slice_index_or ss k d ≡ s
program_here [] k d s e = absurd (cc)
program_here (t ∷ ss) zero d s e = cc
program_here (t ∷ ss) (suc k) d s e = program_here ss k d s e

claim_of_parts : (p : Problem) (k : ℕ) (a : Answer) → PointHolds p k a → BoundHolds a → ClaimHolds (program_at p k) a
claim_of_parts p k Infeasible h b = tt
claim_of_parts p k (Optimal x v) h b = h
claim_of_parts p k (Limit None bound) h b = tt
claim_of_parts p k (Limit (Some (x, v)) bound) h b = (h, b)

pub is_accepted : (p : Problem) (log : LogFile) → AreWithin p → IsStanding p log → AllHold log.answers (PointHolds p) → AllHold log.answers (λ j a. BoundHolds a) → IsAccepted p log log.answers
is_accepted p log within s points bounds = record {
  counts = s.stands.counts;
  same = refl;
  accepted = whole;
  right = λ k a e.
      let long : k < length p.scenarios = omega (arith, get_below log.answers k a e, s.stands.counts.scenarios) in
      let there = get_there p.scenarios k long in
      subst (λ (t : Program). RightAnswer t a) (sym (program_here p.scenarios k _ there.0 there.1)) (Accepted-right p log.answers log.tree (all_within p within) whole k there.0 a there.1 e);
}
  where
    whole : Accepted p log.answers log.tree
    whole = record {
      placed = s.placed;
      nodes_are = s.stands.nodes_are;
      tree = s.stands.tree;
      count = s.stands.counts.scenarios;
      levels = λ k a e n node place l f g. s.reach n k l (record { node = node; place = place; here = f; level = g }) a e;
      claims = λ k t a e f. subst (λ (u : Program). ClaimHolds u a) (program_here p.scenarios k _ t e) (claim_of_parts p k a (points k a f) (bounds k a f));
    }
