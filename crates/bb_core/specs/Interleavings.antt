-- What is proved of branch and bound by many actors, whatever the order of their events.
use Rattle.std.specs.Prelude.{◌≡◌, ℕ, ℤ, List, length, slice_get, slice_index_or, Some, IsTrue, ◌⊎◌}
use Rattle.int_model.specs.Programs.{Program, Feasible}
use Rattle.scenario_changes.specs.Answers.{HasValue, IsBound}
use Rattle.scenario_changes.specs.Problems.{Problem, AreWithin}
use Rattle.certs.specs.Levels.{level_le}
use Rattle.certs.specs.declared.level.Level.{Level}
use Rattle.certs.specs.declared.level.Level.TheVariants.{Value, Inf}
use Rattle.bb_core.specs.Coverage.{Slot, Closed, Held, Covers, NothingIsLost, LevelsAreBounds}
use Rattle.bb_core.specs.Machine.{State, Event, begin, Leads, FeasibleFor, word_at, view_at, level_of}

-- the word is Inf, or the value of a point that was offered for the scenario
abbrev pub IsOffered : Problem → List (ℕ × List ℤ) → ℕ → Level → Type 0
IsOffered p offers k word = (word ≡ Inf) ⊎ ((i : ℕ) × (x : List ℤ) × (slice_get offers i ≡ Some (k, x)) × (word ≡ level_of p k x))

-- offers are feasible, a word is the least value offered, and no cap is below it
pub record WordsHold (p : Problem) (st : State) : Type 0 where
  pub many : length st.words ≡ length p.scenarios
  pub feasible : (i k : ℕ) (x : List ℤ) → slice_get st.offers i ≡ Some (k, x) → FeasibleFor p k x
  pub least : (i k : ℕ) (x : List ℤ) → slice_get st.offers i ≡ Some (k, x) → IsTrue (level_le (word_at st k) (level_of p k x))
  pub offered : (k : ℕ) → IsOffered p st.offers k (word_at st k)
  pub caps : (k : ℕ) → IsTrue (level_le (word_at st k) (slice_index_or st.caps k Inf))
  pub views : (a k : ℕ) → IsTrue (level_le (word_at st k) (slice_index_or (view_at st a) k Inf))

-- an actor holds at most one node
abbrev pub HoldsOneEach : List Slot → Type 0
HoldsOneEach slots = (a n m : ℕ) (t u : Slot) → slice_get slots n ≡ Some t → slice_get slots m ≡ Some u → t.mark ≡ Held a → u.mark ≡ Held a → n ≡ m

-- no node is open or held
abbrev pub IsFinished : List Slot → Type 0
IsFinished slots = (n : ℕ) (t : Slot) → slice_get slots n ≡ Some t → t.mark ≡ Closed

-- a value that a feasible point has and none is below, or Inf where no point is feasible
abbrev pub IsOptimum : Program → Level → Type 0
IsOptimum s (Value v) = ((x : List ℤ) × HasValue s x v) × IsBound s v
IsOptimum s Inf = (x : List ℤ) → Feasible s x → ⊥

-- what holds in every state that a list of allowed events leads to
pub record Holds (p : Problem) (st : State) : Type 0 where
  pub covered : Covers p st.slots st.caps
  pub words : WordsHold p st
  pub levels : LevelsAreBounds p st.slots
  pub kept : NothingIsLost p st.slots st.caps
  pub held : HoldsOneEach st.slots
  pub optima : IsFinished st.slots → (k : ℕ) (s : Program) → slice_get p.scenarios k ≡ Some s → IsOptimum s (word_at st k)

-- each state on the way is one to which a part of the events leads, so it holds after each event
abbrev pub EveryInterleaving : Type 0
EveryInterleaving = (p : Problem) → AreWithin p → (actors : ℕ) (events : List Event) (last : State) → Leads p (begin p actors) events last → Holds p last
