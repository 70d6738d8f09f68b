-- When an answer comes for sure, but for want of memory.
use Rattle.std.specs.Prelude.{◌≡◌, ◌⊎◌, ℕ, ◌+◌, ◌*◌, ◌<◌, List, Option, Some, None}
use Rattle.desk.specs.Causes.{Rose}
use Rattle.desk.specs.Desk.{View, Files}
use Rattle.int_model.specs.Boxes.{volume}
use Rattle.scenario_changes.specs.Problems.{Problem, Scenarios, problem, root_box}
use Rattle.made_problems.specs.Made.{IsMade}
use Rattle.command_line.specs.Words.{Inputs, Order, solve, check, generate, command_of}
use Rattle.scenopt.specs.Files.{HasProblem}
use Rattle.scenopt.specs.Answered.{most_nodes}
use Rattle.scenopt.specs.Runs.{IsProof}
use Rattle.scenopt.specs.declared.status.Status.{Status}
use Rattle.scenopt.specs.declared.status.Status.TheVariants as status

-- no count of faults rose
pub record HasNoFault (old new : View) : Type 0 where
  pub fetches : Rose old.fetch_faults new.fetch_faults → ⊥
  pub writes : Rose old.write_faults new.write_faults → ⊥

-- all was printed, or memory was wanting
abbrev pub Succeeds : Status → Type 0
Succeeds result = (result ≡ status.Done) ⊎ (result ≡ status.Memory)

-- All was printed, or memory was wanting. Some answer is a limit only where a tree over the points of the root box can
-- have more nodes.
abbrev pub Decides : Problem → ℕ → Status → Type 0
Decides p nodes result = Succeeds result ⊎ ((result ≡ status.Limit) × (nodes + 1 < 2 * volume (root_box p.scenarios)))

-- where the files are told, hold what the command needs, and no fault rises
abbrev pub IsComplete : Option Order → View → View → Status → Type 0
IsComplete None old new result = Unit {0}
IsComplete (Some (solve inputs options)) old new result = (m : Files) (p : Scenarios) → old.files ≡ Some m → HasProblem old.files inputs p → HasNoFault old new → Decides (problem p) options.nodes result
IsComplete (Some (check inputs log)) old new result = (m : Files) → old.files ≡ Some m → IsProof old.files inputs log → HasNoFault old new → Succeeds result
IsComplete (Some (generate seed columns rows scenarios)) old new result = HasNoFault old new → (p : Scenarios) × IsMade seed columns rows scenarios p × Decides (problem p) most_nodes result

-- the log has a file of its own
pub record IsApart (inputs : Inputs) (log : List ℕ) : Type 0 where
  pub model : inputs.model ≡ log → ⊥
  pub changes : inputs.changes ≡ Some log → ⊥

-- Where all was printed, the log's file shows right answers to the problem of the files.
abbrev pub LeavesProof : Option Order → View → View → Status → Type 0
LeavesProof None old new result = Unit {0}
LeavesProof (Some (solve inputs options)) old new result = (m : Files) (log : List ℕ) → old.files ≡ Some m → options.log ≡ Some log → IsApart inputs log → (result ≡ status.Done) ⊎ (result ≡ status.Limit) → IsProof new.files inputs log
LeavesProof (Some (check inputs log)) old new result = Unit {0}
LeavesProof (Some (generate seed columns rows scenarios)) old new result = Unit {0}

abbrev pub Proves : List (List ℕ) → View → View → Status → Type 0
Proves words old new result = LeavesProof (command_of words) old new result

abbrev pub Completes : List (List ℕ) → View → View → Status → Type 0
Completes words old new result = IsComplete (command_of words) old new result
