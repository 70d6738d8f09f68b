-- Claims on the scenarios: when a list of nodes shows them, and which of them a search may make.
use Rattle.std.specs.Prelude.{◌≡◌, ℕ, ℤ, ◌<ℤ◌, List, length, map, filter_map, slice_get, slice_index_or, if◌then◌else◌, Option, Some, None, IfSome, IsTrue}
use Rattle.int_model.specs.Programs.{Program}
use Rattle.scenario_changes.specs.Problems.{Problem}
use Rattle.scenario_changes.specs.Answers.{HasValue}
use Rattle.scenario_changes.specs.declared.answer.Answer.{Answer}
use Rattle.scenario_changes.specs.declared.answer.Answer.TheVariants.{Infeasible, Optimal, Limit}
use Rattle.certs.specs.Levels.{level_le, least_level}
use Rattle.certs.specs.Trees.{Place, IsTree, end_levels}
use Rattle.certs.specs.declared.tree.Node.{Node}
use Rattle.certs.specs.declared.level.Level.{Level}
use Rattle.certs.specs.declared.level.Level.TheVariants.{Value, Inf}

-- ---- accepted claims

-- the level that an answer claims
abbrev pub claimed_level : Answer → Level
claimed_level Infeasible = Inf
claimed_level (Optimal x v) = Value v
claimed_level (Limit best b) = Value b

-- the claimed point is feasible and has the claimed value, and a bound lies below it
abbrev pub ClaimHolds : Program → Answer → Type 0
ClaimHolds s Infeasible = Unit {0}
ClaimHolds s (Optimal x v) = HasValue s x v
ClaimHolds s (Limit best b) = IfSome best (λ (c : List ℤ × ℤ). HasValue s c.0 c.1 × (b <ℤ c.1))

-- every end of scenario k has at least this level
abbrev pub EndsFrom : Problem → List (Node × Place) → ℕ → Level → Type 0
EndsFrom p placed k least = (n : ℕ) (node : Node) (place : Place) (l : Level) → slice_get placed n ≡ Some (node, place) → slice_index_or (end_levels p place node) k None ≡ Some l → IsTrue (level_le least l)

-- the nodes are a tree that shows the claims, of which there is one for each scenario
pub record Accepted (p : Problem) (answers : List Answer) (nodes : List Node) : Type 0 where
  pub placed : List (Node × Place)
  pub nodes_are : map (λ (e : Node × Place). e.0) placed ≡ nodes
  pub tree : IsTree p placed
  pub count : length answers ≡ length p.scenarios
  pub levels : (k : ℕ) (a : Answer) → slice_get answers k ≡ Some a → EndsFrom p placed k (claimed_level a)
  pub claims : (k : ℕ) (s : Program) (a : Answer) → slice_get p.scenarios k ≡ Some s → slice_get answers k ≡ Some a → ClaimHolds s a

-- ---- the claims of a run

-- the least level over the ends of scenario k
abbrev pub bound_of : Problem → List (Node × Place) → ℕ → Level
bound_of p placed k = least_level (filter_map (λ (e : Node × Place). slice_index_or (end_levels p e.1 e.0) k None) placed)

-- the claim that the best point that was found and a bound allow
abbrev pub claim_of : Option (List ℤ × ℤ) → Level → Answer
claim_of None Inf = Infeasible
claim_of None (Value b) = Limit None b
claim_of (Some (x, v)) Inf = Optimal x v
claim_of (Some (x, v)) (Value b) = if level_le (Value v) (Value b) then Optimal x v else Limit (Some (x, v)) b
