-- What is answered: the answers of a search, and the texts that tell them.
use Rattle.std.specs.Prelude.{◌≡◌, ℕ, Bool, true, false, if◌then◌else◌, List}
use Rattle.std.specs.List.{list_any}
use Rattle.scenario_changes.specs.Problems.{Scenarios, problem}
use Rattle.scenario_changes.specs.declared.answer.Answer.{Answer}
use Rattle.scenario_changes.specs.declared.answer.Answer.TheVariants.{Infeasible, Optimal, Limit}
use Rattle.certs.specs.declared.tree.Node.{Node}
use Rattle.open_pool.specs.Pooled.{begun}
use Rattle.finder.specs.Found.{Found}
use Rattle.alone_run.specs.Runs.{IsRun}
use Rattle.tree_log.specs.LogText.{log_text}
use Rattle.tree_log.specs.Logs.{file_of}
use Rattle.scenopt.specs.declared.status.Status.{Status}
use Rattle.scenopt.specs.declared.status.Status.TheVariants as status

-- the most nodes of a search tree
abbrev pub most_nodes : ℕ
most_nodes = 100001

-- What a run from the root ends with, in one search tree of at most so many nodes: right answers to all scenarios, each
-- with what the tree and the best point allow. A limit is among them only where there was no room for two nodes more,
-- though the points of the root box allow them.
pub record IsSolved (p : Scenarios) (nodes : ℕ) (answers : List Answer) (tree : List Node) : Type 0 where
  pub finder : Found
  pub run : IsRun (problem p) (begun (problem p) nodes) finder answers tree

abbrev pub log_of : Scenarios → List Answer → List Node → List ℕ
log_of p answers tree = log_text (file_of p answers tree)

-- whether an answer is a limit: the search ended before it knew more
abbrev pub is_limit : Answer → Bool
is_limit Infeasible = false
is_limit (Optimal x v) = false
is_limit (Limit best b) = true

-- the status after the answers were printed, where one of them is a limit or none is
abbrev pub status_of : List Answer → Status
status_of answers = if list_any is_limit answers then status.Limit else status.Done
