-- What lies under the lock, what its type keeps, and what a worker does there.
use Rattle.std.specs.Prelude.{◌≡◌, ◌<◌, ◌≤◌, ℕ, ℤ, List, Option, IfSome, IsTrue, length, slice_index_or}
use Rattle.scenario_changes.specs.Problems.{Problem}
use Rattle.certs.specs.Levels.{level_le, cap_level}
use Rattle.certs.specs.declared.level.Level.{Level}
use Rattle.certs.specs.declared.level.Level.TheVariants.{Inf}
use Rattle.bb_core.specs.Coverage.{Covers}
use Rattle.bb_core.specs.Settlements.{Settlement}
use Rattle.bb_core.specs.declared.work.Work.{Work}
use Rattle.atomic_table.specs.Seated.{TableId}
use Rattle.incumbent_words.specs.Codes.{code_of, IsValue}
use Rattle.incumbent_words.specs.Rule.{code_at, IsNote}
use Rattle.incumbent_words.specs.Seats.{Held}
use Rattle.open_pool.specs.Pooled.{Pooled}
use Rattle.open_pool.specs.Claims.{FitsProblem, IsSettled}
use Rattle.open_pool.specs.declared.pool.Claim.TheVariants.{Node}
use Rattle.open_pool.specs.declared.pool.Settled.{Settled}
use Rattle.alone_run.specs.Steps.{AreLowered}

-- the pool, and a seat of the words
pub record Shared : Type 0 where
  pub pool : Pooled
  pub seat : Held

-- each value whose code is at most this one, or none, is a level of at most the cap
abbrev pub IsAtMost : ℕ → Level → Type 0
IsAtMost code cap = (v : Option ℤ) → IfSome v IsValue → code_of v ≤ code → IsTrue (level_le (cap_level v) cap)

-- each code of a scenario is at most its cap
abbrev pub AreAtMost : List ℕ → List Level → Type 0
AreAtMost codes caps = (k : ℕ) → k < length caps → IsAtMost (code_at codes k) (slice_index_or caps k Inf)

-- The pool is for the run's problem and may have the run's number of nodes. The seat is one of the run's words, without
-- number and offer. The closed nodes of the pool reach its caps, and the seat's caps are at most these.
pub record IsTied (table : TableId) (p : Problem) (nodes : ℕ) (pool : Pooled) (seat : Held) : Type 0 where
  pub problem : pool.problem ≡ p
  pub limit : pool.nodes ≡ nodes
  pub covered : Covers p pool.slots pool.caps
  pub many : length pool.caps ≡ length p.scenarios
  pub table_is : seat.table ≡ table
  pub words : table.words ≡ length p.scenarios
  pub note : IsNote seat.view
  pub below : AreAtMost seat.view.caps pool.caps

-- the work is one for the problem: its box, levels and live scenarios are of the problem's columns and scenarios
abbrev pub IsWorkFor : Problem → Work → Type 0
IsWorkFor p w = FitsProblem p (Node w)

-- the caps are lowered by these codes, and then the pool settles
pub record IsEntered (before : Pooled) (codes : List ℕ) (s : Settlement) (now : Pooled) (answer : Settled) : Type 0 where
  pub lowered : Pooled
  pub same : lowered ≡ record before { caps = lowered.caps }
  pub caps : AreLowered before.caps lowered.caps codes
  pub settled : IsSettled lowered s now answer
