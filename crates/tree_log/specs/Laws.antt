-- What is proved of logs.
use Rattle.std.specs.Prelude.{◌≡◌, ◌≤◌, ◌^◌, ℕ, unsigned_abs, List, length, slice_get, Some, IsTrue}
use Rattle.dual_bounds.specs.Vectors.{Multipliers, KeepsLimits}
use Rattle.scenario_changes.specs.Problems.{Scenarios, problem}
use Rattle.scenario_changes.specs.declared.answer.Answer.{Answer}
use Rattle.scenario_changes.specs.declared.answer.Answer.TheVariants.{Infeasible, Optimal, Limit}
use Rattle.certs.specs.Claims.{Accepted}
use Rattle.certs.specs.declared.tree.Node.{Node}
use Rattle.certs.specs.declared.tree.Node.TheVariants.{Rest, Leaf, Split}
use Rattle.tree_log.specs.Logs.{file_of}
use Rattle.tree_log.specs.HasText.{has_text}
use Rattle.tree_log.specs.LogText.{log_text}
use Rattle.tree_log.specs.declared.file.LogFile.{LogFile}

-- two log files with one text are the same
abbrev pub TextTellsLog : Type 0
TextTellsLog = (f g : LogFile) → IsTrue (has_text f) → IsTrue (has_text g) → log_text f ≡ log_text g → f ≡ g

-- the text of a log has at most 2^30 bytes
abbrev pub LogsAreShort : Type 0
LogsAreShort = (f : LogFile) → IsTrue (has_text f) → length (log_text f) ≤ 1073741824

-- ---- what may be written

-- the bound of a limit lies within ±2^60
abbrev pub BoundFits : Answer → Type 0
BoundFits Infeasible = Unit {0}
BoundFits (Optimal x v) = Unit {0}
BoundFits (Limit best b) = unsigned_abs b ≤ 2 ^ 60

-- all vectors keep their limits, those of a list and those that nodes record
abbrev pub KeepsVectors : List Multipliers → Type 0
KeepsVectors vectors = (k : ℕ) (v : Multipliers) → slice_get vectors k ≡ Some v → KeepsLimits v

abbrev pub VectorsKeep : Node → Type 0
VectorsKeep Rest = Unit {0}
VectorsKeep (Leaf cert verdicts) = KeepsVectors cert.vectors
VectorsKeep (Split cert verdicts stay child column v) = KeepsVectors cert.vectors

abbrev pub KeepsAll : List Node → Type 0
KeepsAll nodes = (n : ℕ) (node : Node) → slice_get nodes n ≡ Some node → VectorsKeep node

-- the log of claims that a tree of at most 100,001 nodes shows can be read again, where no bound lies beyond ±2^60
abbrev pub IsReadable : Scenarios → List Answer → List Node → Type 0
IsReadable p answers nodes = Accepted (problem p) answers nodes → ((k : ℕ) (a : Answer) → slice_get answers k ≡ Some a → BoundFits a) → length nodes ≤ 100001 → IsTrue (has_text (file_of p answers nodes))
