-- The walk of a check over the nodes.
use Rattle.std.specs.Prelude.{◌≡◌, ℕ, suc, ◌<◌, ◌≤◌, ℤ, List, [], ◌∷◌, ◌++◌, length, map, take, slice_get, slice_index_or, vec_capacity, Option, Some, None, true, false}
use Rattle.std.specs.List.{list_all}
use Rattle.int_model.specs.Boxes.{is_empty}
use Rattle.scenario_changes.specs.Problems.{Problem}
use Rattle.scenario_changes.specs.declared.answer.Answer.{Answer}
use Rattle.certs.specs.Trees.{Place, end_levels, of_live, is_live, arrivals, handed, raised, stayers_hull, splits_inside, IsTree}
use Rattle.certs.specs.Levels.{level_le}
use Rattle.certs.specs.Claims.{claimed_level}
use Rattle.certs.specs.declared.level.Level.{Level}
use Rattle.certs.specs.declared.cert.Cert.{Cert}
use Rattle.certs.specs.declared.verdict.Verdict.{Verdict}
use Rattle.certs.specs.declared.tree.Node.{Node}
use Rattle.certs.specs.declared.tree.Node.TheVariants.{Rest, Leaf, Split}
use Rattle.tree_check.specs.Fronts.{IsFront, IsFirstWrong}
use Rattle.tree_check.specs.Checks.{AllReach, IsFirstBelow, Reaches}
use Rattle.tree_check.specs.declared.checking.CheckError.{CheckError}
use Rattle.tree_check.specs.declared.checking.CheckError.TheVariants.{Shape, Level as Below, PointWrong, ClaimWrong, Memory}
use Rattle.tree_check.specs.declared.arrival.Arrival.{Arrival}
use Rattle.tree_check.specs.declared.arrival.Arrival.TheVariants.{Nothing, One, Many}
use Rattle.tree_check.specs.declared.arrival.Spot.{Spot}
use Rattle.tree_check.specs.declared.scratch.Scratch.{Scratch}

-- the place that the walk keeps
abbrev pub place_of : Spot → Place
place_of s = record { box = s.bounds; levels = of_live s.live 0 s.levels }

-- a number for each column, and a level for each scenario
pub record IsWide (p : Problem) (s : Spot) : Type 0 where
  pub columns : length s.bounds ≡ p.columns
  pub levels : length s.levels ≡ length p.scenarios

-- what is kept for a node stands for the places that were handed to it
abbrev pub StandsFor : Problem → Arrival → List Place → Type 0
StandsFor p Nothing places = places ≡ []
StandsFor p (One s) places = IsWide p s × (places ≡ place_of s ∷ [])
StandsFor p Many places = 2 ≤ length places

-- the nodes before n are right, and the table has what they hand to the others
pub record Walked (p : Problem) (nodes : List Node) (n : ℕ) (placed : List (Node × Place)) (table : List Arrival) : Type 0 where
  pub before : map (λ (e : Node × Place). e.0) placed ≡ take n nodes
  pub front : IsFront p (length nodes) placed
  pub many : length table ≡ length nodes
  pub waiting : (m : ℕ) (a : Arrival) → n ≤ m → slice_get table m ≡ Some a → StandsFor p a (arrivals p placed m)

-- the first end below its claim, None where all reach theirs
abbrev pub Remembers : Problem → List Answer → List (Node × Place) → Option (ℕ × ℕ) → Type 0
Remembers p answers placed None = AllReach p answers placed
Remembers p answers placed (Some (n, k)) = IsFirstBelow p answers placed n k

-- room for the levels of all scenarios, and boxes of the problem's columns
pub record HasRoom (p : Problem) (a : Scratch) : Type 0 where
  pub levels : length p.scenarios ≤ vec_capacity a.raised
  pub replay : length a.replay ≡ p.columns
  pub hull : length a.hull ≡ p.columns

-- what is known of a split that was judged: its raised levels, and the hull of its stayers, all of which are live
pub record IsJudgedSplit (p : Problem) (place : Place) (cert : Cert) (verdicts : List Verdict) (stay : List ℕ) (column : ℕ) (v : ℤ) (a : Scratch) : Type 0 where
  pub raised_to : raised place.box cert p.scenarios place.levels verdicts ≡ Some a.raised.items
  pub many : length a.raised.items ≡ length p.scenarios
  pub hull_is : stayers_hull p place.box cert stay ≡ Some a.hull
  pub occupied : is_empty a.hull ≡ false
  pub column_below : column < p.columns
  pub inside : splits_inside (Some a.hull) column v ≡ true
  pub live : list_all (is_live place.levels) stay ≡ true

-- what is known of a node that was judged
abbrev pub IsJudged : Problem → Place → Node → Scratch → Type 0
IsJudged p place Rest a = Unit {0}
IsJudged p place (Leaf cert verdicts) a = raised place.box cert p.scenarios place.levels verdicts ≡ Some a.raised.items
IsJudged p place (Split cert verdicts stay child column v) a = IsJudgedSplit p place cert verdicts stay column v a

-- the children of a split are nodes
abbrev pub HasChildren : Node → ℕ → Type 0
HasChildren Rest count = Unit {0}
HasChildren (Leaf cert verdicts) count = Unit {0}
HasChildren (Split cert verdicts stay child column v) count = suc child < count

-- the first of so many nodes has the root's place, and the others have none
pub record IsBegun (p : Problem) (count : ℕ) (table : List Arrival) : Type 0 where
  pub many : length table ≡ count
  pub waiting : (m : ℕ) (a : Arrival) → slice_get table m ≡ Some a → StandsFor p a (arrivals p [] m)

-- the level, where there is one, is below the one that is claimed
pub record IsShort (o : Option Level) (claim : Answer) : Type 0 where
  pub level : Level
  pub is : o ≡ Some level
  pub below : level_le (claimed_level claim) level ≡ false

-- at a node with this place the level of each scenario that ends there reaches its claim
abbrev pub AreReached : Problem → List Answer → Place → Node → Type 0
AreReached p answers place node = (k : ℕ) (l : Level) → slice_index_or (end_levels p place node) k None ≡ Some l → Reaches answers k l

-- scenario k is the first one whose level doesn't
pub record IsFirstShort (p : Problem) (answers : List Answer) (place : Place) (node : Node) (k : ℕ) : Type 0 where
  pub claim : Answer
  pub claimed : slice_get answers k ≡ Some claim
  pub short : IsShort (slice_index_or (end_levels p place node) k None) claim
  pub first : (j : ℕ) (l : Level) → j < k → slice_index_or (end_levels p place node) j None ≡ Some l → Reaches answers j l

-- each node of the table was handed what the node with this place hands to it
pub record HandsOn (p : Problem) (node : Node) (place : Place) (old new : List Arrival) : Type 0 where
  pub many : length new ≡ length old
  pub each : (m : ℕ) (a b : Arrival) (places : List Place) → slice_get old m ≡ Some a → slice_get new m ≡ Some b → StandsFor p a places → StandsFor p b (places ++ handed p m (node, place))

-- the first end below its claim, where s is the scenario of that at node n, if there is one
abbrev pub earlier : Option (ℕ × ℕ) → ℕ → Option ℕ → Option (ℕ × ℕ)
earlier (Some end) n s = Some end
earlier None n (Some s) = Some (n, s)
earlier None n None = None

-- what the walk keeps before node n
pub record WalkSoFar (p : Problem) (answers : List Answer) (nodes : List Node) (n : ℕ) (table : List Arrival) (first : Option (ℕ × ℕ)) : Type 0 where
  pub placed : List (Node × Place)
  pub walked : Walked p nodes n placed table
  pub below : Remembers p answers placed first

-- the walk of all nodes: a tree, and the first end below its claim
pub record IsWalk (p : Problem) (answers : List Answer) (nodes : List Node) (first : Option (ℕ × ℕ)) : Type 0 where
  pub placed : List (Node × Place)
  pub nodes_are : map (λ (e : Node × Place). e.0) placed ≡ nodes
  pub tree : IsTree p placed
  pub below : Remembers p answers placed first

-- why a walk ends before: a node that isn't right, or want of memory
abbrev pub IsStray : Problem → List Node → CheckError → Type 0
IsStray p nodes (Shape n) = IsFirstWrong p nodes n
IsStray p nodes (Below n k) = ⊥
IsStray p nodes (PointWrong k) = ⊥
IsStray p nodes (ClaimWrong k) = ⊥
IsStray p nodes Memory = Unit {0}
