-- The first nodes of a list, where each of them is right.
use Rattle.std.specs.Prelude.{◌≡◌, ℕ, false, List, [], ◌∷◌, length, map, take, slice_get, Some, IsTrue}
use Rattle.scenario_changes.specs.Problems.{Problem}
use Rattle.certs.specs.Trees.{Place, arrivals, is_valid}
use Rattle.certs.specs.declared.tree.Node.{Node}

-- nodes with places, each right at its place in a tree of count nodes: no other place is handed to it, and what it records is
-- valid there
pub record IsFront (p : Problem) (count : ℕ) (placed : List (Node × Place)) : Type 0 where
  pub arrival : (n : ℕ) (node : Node) (place : Place) → slice_get placed n ≡ Some (node, place) → arrivals p placed n ≡ place ∷ []
  pub valid : (n : ℕ) (node : Node) (place : Place) → slice_get placed n ≡ Some (node, place) → IsTrue (is_valid p count n place node)

-- the nodes before node n are right, each at its place, and node n is right at none
pub record IsFirstWrong (p : Problem) (nodes : List Node) (n : ℕ) : Type 0 where
  pub placed : List (Node × Place)
  pub before : map (λ (e : Node × Place). e.0) placed ≡ take n nodes
  pub front : IsFront p (length nodes) placed
  pub node : Node
  pub here : slice_get nodes n ≡ Some node
  pub wrong : (place : Place) → arrivals p placed n ≡ place ∷ [] → is_valid p (length nodes) n place node ≡ false
