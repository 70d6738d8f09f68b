-- What is proved of levels, trees and claims.
use Rattle.std.specs.Prelude.{◌≡◌, ◌↔◌, ◌⊎◌, ◌≤◌, ◌*◌, ◌-◌, ℕ, List, ℤ, Option, Some, None, IsTrue, IfSome, length, slice_get, slice_index_or}
use Rattle.int_model.specs.Boxes.{Box, InBox, volume}
use Rattle.int_model.specs.Programs.{Program, Feasible, value}
use Rattle.scenario_changes.specs.Problems.{Problem, IsWithin, AreWithin, root_box}
use Rattle.scenario_changes.specs.Answers.{HasValue, RightAnswer}
use Rattle.scenario_changes.specs.declared.answer.Answer.{Answer}
use Rattle.certs.specs.Levels.{AtMost, LevelFits, level_le, greater_level, lesser_level}
use Rattle.certs.specs.Verdicts.{judged, start_level}
use Rattle.certs.specs.Trees.{Place, IsTree, end_levels}
use Rattle.certs.specs.Claims.{Accepted, bound_of, claim_of}
use Rattle.certs.specs.declared.level.Level.{Level}
use Rattle.certs.specs.declared.verdict.Verdict.{Verdict}
use Rattle.certs.specs.declared.cert.Cert.{Cert}
use Rattle.certs.specs.declared.tree.Node.{Node}

-- ---- levels

-- a feasible point of a program within the limits, in a box
pub record IsPointIn (columns rows : ℕ) (p : Program) (box : Box) (x : List ℤ) : Type 0 where
  pub within : IsWithin columns rows p
  pub feasible : Feasible p x
  pub inside : InBox box x

-- the level of a valid verdict is at most the value of each feasible point of the box
abbrev pub LevelIsSafe : Type 0
LevelIsSafe = (columns rows : ℕ) (p : Program) (box : Box) (cert : Cert) (verdict : Verdict) (l : Level) (x : List ℤ) → IsPointIn columns rows p box x → judged p box cert verdict ≡ Some l → AtMost l (value p x)

-- the level where a search begins is at most the value of each feasible point of the root box
abbrev pub StartIsSafe : Type 0
StartIsSafe = (columns rows : ℕ) (p : Program) (root : Box) (x : List ℤ) → IsPointIn columns rows p root x → AtMost (start_level root p) (value p x)

-- what the order of levels says of the values that they bound
pub record Orders (a b : Level) : Type 0 where
  pub at_most : IsTrue (level_le a b) ↔ ((v : ℤ) → AtMost b v → AtMost a v)
  pub greater : (v : ℤ) → AtMost (greater_level a b) v ↔ (AtMost a v × AtMost b v)
  pub lesser : (v : ℤ) → AtMost (lesser_level a b) v ↔ (AtMost a v ⊎ AtMost b v)

abbrev pub OrderTellsBounds : Type 0
OrderTellsBounds = (a b : Level) → Orders a b

-- ---- trees

-- a node with x in its box that is an end for scenario k, at a level of at most the value of x
pub record IsUnderEnd (p : Problem) (placed : List (Node × Place)) (k : ℕ) (s : Program) (x : List ℤ) : Type 0 where
  pub n : ℕ
  pub place : Place
  pub node : Node
  pub level : Level
  pub here_is : slice_get placed n ≡ Some (node, place)
  pub inside : InBox place.box x
  pub level_is : slice_index_or (end_levels p place node) k None ≡ Some level
  pub below : AtMost level (value s x)

-- each feasible point of a scenario lies in the box of an end of the scenario, whose level is at most its value
abbrev pub EndsCover : Type 0
EndsCover = (p : Problem) (placed : List (Node × Place)) → AreWithin p → IsTree p placed → (k : ℕ) (s : Program) → slice_get p.scenarios k ≡ Some s → (x : List ℤ) → Feasible s x → IsUnderEnd p placed k s x

-- the level of a scenario where it arrives is at most the value of each feasible point of the node's box
abbrev pub PlacesAreSafe : Type 0
PlacesAreSafe = (p : Problem) (placed : List (Node × Place)) → AreWithin p → IsTree p placed → (n : ℕ) (node : Node) (place : Place) → slice_get placed n ≡ Some (node, place) → (k : ℕ) (s : Program) (l : Level) → slice_get p.scenarios k ≡ Some s → slice_index_or place.levels k None ≡ Some l → (x : List ℤ) → Feasible s x → InBox place.box x → AtMost l (value s x)

-- a tree has at most 2V - 1 nodes, where its root box has V points
abbrev pub TreeIsSmall : Type 0
TreeIsSmall = (p : Problem) (placed : List (Node × Place)) → AreWithin p → IsTree p placed → 1 ≤ volume (root_box p.scenarios) → length placed ≤ 2 * volume (root_box p.scenarios) - 1

-- the root box of a tree of two or more nodes has a point
abbrev pub TreeHasPoints : Type 0
TreeHasPoints = (p : Problem) (placed : List (Node × Place)) → AreWithin p → IsTree p placed → 2 ≤ length placed → 1 ≤ volume (root_box p.scenarios)

-- the least level over the ends of a scenario is Inf or within ±2^60
abbrev pub BoundsFit : Type 0
BoundsFit = (p : Problem) (placed : List (Node × Place)) → AreWithin p → IsTree p placed → (k : ℕ) (s : Program) → slice_get p.scenarios k ≡ Some s → LevelFits (bound_of p placed k)

-- ---- claims

-- accepted claims are right answers
abbrev pub AcceptedIsRight : Type 0
AcceptedIsRight = (p : Problem) (answers : List Answer) (nodes : List Node) → AreWithin p → Accepted p answers nodes → (k : ℕ) (s : Program) (a : Answer) → slice_get p.scenarios k ≡ Some s → slice_get answers k ≡ Some a → RightAnswer s a

-- the claim that a tree and a point of a scenario allow is a right answer
abbrev pub RunIsRight : Type 0
RunIsRight = (p : Problem) (placed : List (Node × Place)) → AreWithin p → IsTree p placed → (k : ℕ) (s : Program) → slice_get p.scenarios k ≡ Some s → (best : Option (List ℤ × ℤ)) → IfSome best (λ (b : List ℤ × ℤ). HasValue s b.0 b.1) → RightAnswer s (claim_of best (bound_of p placed k))
