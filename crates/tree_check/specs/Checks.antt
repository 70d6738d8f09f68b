-- What a check answers.
use Rattle.std.specs.Prelude.{◌≡◌, ◌⊎◌, ℕ, ◌<◌, ◌^◌, ◌<ℤ◌, false, List, length, map, slice_get, slice_index_or, Some, None, Ok, Err, Result, IsTrue}
use Rattle.scenario_changes.specs.Answers.{HasValue, RightAnswer}
use Rattle.scenario_changes.specs.Problems.{Problem, program_at}
use Rattle.scenario_changes.specs.declared.answer.Answer.{Answer}
use Rattle.scenario_changes.specs.declared.answer.Answer.TheVariants.{Infeasible, Optimal, Limit}
use Rattle.certs.specs.Levels.{level_le}
use Rattle.certs.specs.Trees.{Place, IsTree, end_levels}
use Rattle.certs.specs.Claims.{Accepted, claimed_level}
use Rattle.certs.specs.declared.level.Level.{Level}
use Rattle.certs.specs.declared.tree.Node.{Node}
use Rattle.tree_log.specs.declared.file.LogFile.{LogFile}
use Rattle.tree_check.specs.Fronts.{IsFirstWrong}
use Rattle.tree_check.specs.declared.checking.CheckError.{CheckError}
use Rattle.tree_check.specs.declared.checking.CheckError.TheVariants.{Shape, Level as Below, PointWrong, ClaimWrong, Memory}

-- the log's counts are the problem's, and its nodes are one or more, each with a number of 32 bits
pub record HasCounts (p : Problem) (log : LogFile) : Type 0 where
  pub columns : log.columns ≡ p.columns
  pub rows : log.rows ≡ p.rows
  pub scenarios : length log.answers ≡ length p.scenarios
  pub some : 0 < length log.tree
  pub few : length log.tree < 2 ^ 32

-- ---- ends

-- the level of scenario k where node n is an end for it
pub record IsEnd (p : Problem) (placed : List (Node × Place)) (n k : ℕ) (l : Level) : Type 0 where
  pub node : Node
  pub place : Place
  pub here : slice_get placed n ≡ Some (node, place)
  pub level : slice_index_or (end_levels p place node) k None ≡ Some l

-- the end's level is at least the level that is claimed of its scenario
abbrev pub Reaches : List Answer → ℕ → Level → Type 0
Reaches answers k l = (a : Answer) → slice_get answers k ≡ Some a → IsTrue (level_le (claimed_level a) l)

-- by node and then by scenario, (m, j) comes before (n, k)
abbrev pub ComesBefore : ℕ → ℕ → ℕ → ℕ → Type 0
ComesBefore m j n k = (m < n) ⊎ ((m ≡ n) × (j < k))

-- the first end, by node and then by scenario, whose level is below the level that is claimed
pub record IsFirstBelow (p : Problem) (answers : List Answer) (placed : List (Node × Place)) (n k : ℕ) : Type 0 where
  pub level : Level
  pub end : IsEnd p placed n k level
  pub claim : Answer
  pub claimed : slice_get answers k ≡ Some claim
  pub below : level_le (claimed_level claim) level ≡ false
  pub first : (m j : ℕ) (l : Level) → ComesBefore m j n k → IsEnd p placed m j l → Reaches answers j l

abbrev pub AllReach : Problem → List Answer → List (Node × Place) → Type 0
AllReach p answers placed = (m j : ℕ) (l : Level) → IsEnd p placed m j l → Reaches answers j l

-- the nodes of the log are a tree with these places
pub record Stands (p : Problem) (log : LogFile) (placed : List (Node × Place)) : Type 0 where
  pub counts : HasCounts p log
  pub nodes_are : map (λ (e : Node × Place). e.0) placed ≡ log.tree
  pub tree : IsTree p placed

-- ---- claims

-- the claimed point is feasible and has the claimed value
abbrev pub PointHolds : Problem → ℕ → Answer → Type 0
PointHolds p k Infeasible = Unit {0}
PointHolds p k (Optimal x v) = HasValue (program_at p k) x v
PointHolds p k (Limit None b) = Unit {0}
PointHolds p k (Limit (Some (x, v)) b) = HasValue (program_at p k) x v

-- the claimed bound lies below the claimed value
abbrev pub BoundHolds : Answer → Type 0
BoundHolds Infeasible = Unit {0}
BoundHolds (Optimal x v) = Unit {0}
BoundHolds (Limit None b) = Unit {0}
BoundHolds (Limit (Some (x, v)) b) = b <ℤ v

-- scenario k is the first whose claim P doesn't hold of
pub record IsFirstFault (answers : List Answer) (P : ℕ → Answer → Type 0) (k : ℕ) : Type 0 where
  pub claim : Answer
  pub here : slice_get answers k ≡ Some claim
  pub fails : P k claim → ⊥
  pub first : (j : ℕ) (a : Answer) → j < k → slice_get answers j ≡ Some a → P j a

abbrev pub AllHold : List Answer → (ℕ → Answer → Type 0) → Type 0
AllHold answers P = (j : ℕ) (a : Answer) → slice_get answers j ≡ Some a → P j a

-- ---- the answer

-- the log's claims, which its tree is accepted with, and which are right answers
pub record IsAccepted (p : Problem) (log : LogFile) (answers : List Answer) : Type 0 where
  pub counts : HasCounts p log
  pub same : answers ≡ log.answers
  pub accepted : Accepted p answers log.tree
  pub right : (k : ℕ) (a : Answer) → slice_get answers k ≡ Some a → RightAnswer (program_at p k) a

-- Why a log is refused. The first of these applies: a node that isn't right, where counts that differ are node 0; an end
-- below its claim; a claimed point that is none, or hasn't its value; a claimed bound that isn't below the value.
abbrev pub IsRefused : Problem → LogFile → CheckError → Type 0
IsRefused p log (Shape n) = ((n ≡ 0) × (HasCounts p log → ⊥)) ⊎ (HasCounts p log × IsFirstWrong p log.tree n)
IsRefused p log (Below n k) = (placed : List (Node × Place)) × Stands p log placed × IsFirstBelow p log.answers placed n k
IsRefused p log (PointWrong k) = (placed : List (Node × Place)) × Stands p log placed × AllReach p log.answers placed × IsFirstFault log.answers (PointHolds p) k
IsRefused p log (ClaimWrong k) = (placed : List (Node × Place)) × Stands p log placed × AllReach p log.answers placed × AllHold log.answers (PointHolds p) × IsFirstFault log.answers (λ j a. BoundHolds a) k
IsRefused p log Memory = Unit {0}

abbrev pub IsChecked : Problem → LogFile → Result (List Answer) CheckError → Type 0
IsChecked p log (Ok answers) = IsAccepted p log answers
IsChecked p log (Err e) = IsRefused p log e
