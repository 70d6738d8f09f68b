-- What is worked on at a node, what is made of it, and when that may be recorded.
use Rattle.std.specs.Prelude.{◌≡◌, ℕ, ◌+◌, ℤ, List, Some, IsTrue}
use Rattle.int_model.specs.Boxes.{Box}
use Rattle.scenario_changes.specs.Problems.{Problem}
use Rattle.certs.specs.Trees.{Place, of_live, is_valid, children}
use Rattle.certs.specs.declared.cert.Cert.{Cert}
use Rattle.certs.specs.declared.tree.Node.{Node}
use Rattle.certs.specs.declared.tree.Node.TheVariants.{Leaf, Split}
use Rattle.certs.specs.declared.level.Level.{Level}
use Rattle.certs.specs.declared.verdict.Verdict.{Verdict}

-- a node, its box, the scenarios that are live there, and a level for each scenario
pub record Work : Type 0 where
  pub node : ℕ
  pub bounds : Box
  pub live : List ℕ
  pub levels : List Level

-- the node is closed, or branches: the stayers, the column and the value of the split, and the boxes and levels of its two children
pub data Outcome : Type 0 where
  Close : Outcome
  Branch : List ℕ → ℕ → ℤ → Box → Box → List Level → List Level → Outcome

pub record Settlement : Type 0 where
  pub work : Work
  pub cert : Cert
  pub verdicts : List Verdict
  pub outcome : Outcome

abbrev pub place_of : Work → Place
place_of w = record { box = w.bounds; levels = of_live w.live 0 w.levels }

-- what the tree records of the node; the first child has the number count
abbrev pub recorded : ℕ → Cert → List Verdict → Outcome → Node
recorded count cert verdicts Close = Leaf cert verdicts
recorded count cert verdicts (Branch stay column v left right left_levels right_levels) = Split cert verdicts stay count column v

-- the children's boxes and levels are those of the split
abbrev pub ChildrenAre : Problem → Place → Cert → List Verdict → Outcome → Type 0
ChildrenAre p place cert verdicts Close = Unit {0}
ChildrenAre p place cert verdicts (Branch stay column v left right left_levels right_levels) =
    children p place cert verdicts stay column v ≡ Some (record { box = left; levels = of_live stay 0 left_levels }, record { box = right; levels = of_live stay 0 right_levels })

-- lawful: what is recorded is valid at the work's place, and the children are those of the split. The tree has count nodes before
pub record IsLawful (p : Problem) (count : ℕ) (s : Settlement) : Type 0 where
  pub valid : IsTrue (is_valid p (count + 2) s.work.node (place_of s.work) (recorded count s.cert s.verdicts s.outcome))
  pub children_are : ChildrenAre p (place_of s.work) s.cert s.verdicts s.outcome
