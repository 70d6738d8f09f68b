-- What a run ends with: claims on the scenarios, and the tree that shows them.
use Rattle.std.specs.Prelude.{◌≡◌, ◌⊎◌, ◌<◌, ◌≤◌, ℕ, ℤ, List, Option, None, Some, IsTrue, length, map, slice_get, slice_index_or}
use Rattle.int_model.specs.Programs.{Program, value}
use Rattle.scenario_changes.specs.Problems.{Problem}
use Rattle.scenario_changes.specs.Answers.{RightAnswer}
use Rattle.scenario_changes.specs.declared.answer.Answer.{Answer}
use Rattle.scenario_changes.specs.declared.answer.Answer.TheVariants.{Infeasible, Optimal, Limit}
use Rattle.certs.specs.Levels.{level_le}
use Rattle.certs.specs.Trees.{Place, IsTree, end_levels}
use Rattle.certs.specs.Claims.{Accepted, bound_of, claim_of}
use Rattle.certs.specs.declared.tree.Node.{Node}
use Rattle.certs.specs.declared.tree.Node.TheVariants.{Rest}
use Rattle.certs.specs.declared.level.Level.{Level}
use Rattle.certs.specs.declared.level.Level.TheVariants.{Value, Inf}
use Rattle.finder.specs.Kept.{place_at}
use Rattle.finder.specs.Found.{Found, program_of}
use Rattle.open_pool.specs.Pooled.{Pooled, IsFull, IsStopped}

-- ---- best points

-- a point with its value
abbrev pub with_value : Program → Option (List ℤ) → Option (List ℤ × ℤ)
with_value s None = None
with_value s (Some x) = Some (x, value s x)

-- the point that a finder keeps for scenario k, with its value
abbrev pub best_of : Found → ℕ → Option (List ℤ × ℤ)
best_of f k = with_value (program_of f.problem k) (place_at f.points k).point

-- the level of a point's value, Inf where there is no point
abbrev pub best_level : Option (List ℤ × ℤ) → Level
best_level None = Inf
best_level (Some (x, v)) = Value v

-- each cap is at least the finder's best value
abbrev pub AreAbove : Found → List Level → Type 0
AreAbove f caps = (k : ℕ) → k < length caps → IsTrue (level_le (best_level (best_of f k)) (slice_index_or caps k Inf))

-- ---- claims

-- the point of a claim, with its value
abbrev pub point_of : Answer → Option (List ℤ × ℤ)
point_of Infeasible = None
point_of (Optimal x v) = Some (x, v)
point_of (Limit best b) = best

abbrev pub IsLimit : Answer → Type 0
IsLimit Infeasible = ⊥
IsLimit (Optimal x v) = ⊥
IsLimit (Limit best b) = Unit {0}

-- every end of scenario k that records something has at least this level
abbrev pub ReachedFrom : Problem → List (Node × Place) → ℕ → Level → Type 0
ReachedFrom p placed k least = (n : ℕ) (node : Node) (place : Place) (l : Level) → slice_get placed n ≡ Some (node, place) → (node ≡ Rest → ⊥) → slice_index_or (end_levels p place node) k None ≡ Some l → IsTrue (level_le least l)

-- the claim on scenario k, with a program s, of a run of the pool q and the finder f that ends with these nodes at their places:
-- what its point and the least level over the ends allow, and right. The point is no worse than the finder's best. A limit
-- is there only where the pool was stopped, or has no room for a tree that the points of the root box allow
pub record IsClaimed (p : Problem) (q : Pooled) (f : Found) (placed : List (Node × Place)) (k : ℕ) (a : Answer) : Type 0 where
  pub claim : a ≡ claim_of (point_of a) (bound_of p placed k)
  pub right : (s : Program) → slice_get p.scenarios k ≡ Some s → RightAnswer s a
  pub better : IsTrue (level_le (best_level (point_of a)) (best_level (best_of f k)))
  pub reached : ReachedFrom p placed k (best_level (point_of a))
  pub limit : IsLimit a → IsStopped q ⊎ IsFull p q.nodes (length placed)

-- the answers and the nodes that a run of the pool q and the finder f ends with. No node of the pool is lost
pub record IsRun (p : Problem) (q : Pooled) (f : Found) (answers : List Answer) (nodes : List Node) : Type 0 where
  pub placed : List (Node × Place)
  pub nodes_are : map (λ (e : Node × Place). e.0) placed ≡ nodes
  pub tree : IsTree p placed
  pub within : length nodes ≤ q.nodes
  pub grown : length q.slots ≤ length nodes
  pub accepted : Accepted p answers nodes
  pub count : length answers ≡ length p.scenarios
  pub claims : (k : ℕ) (a : Answer) → slice_get answers k ≡ Some a → IsClaimed p q f placed k a
