-- A finder as contracts see it: what it was made for, its seat, and the best points.
use Rattle.std.specs.Prelude.{◌≡◌, ◌≢◌, ◌<◌, ◌≤◌, ℕ, ℤ, List, [], length, Option, None, Some}
use Rattle.int_model.specs.Programs.{Program, Feasible, value}
use Rattle.scenario_changes.specs.Problems.{Scenarios, AreWithin, program_at}
use Rattle.scenario_changes.specs.Problems as problems
use Rattle.incumbent_words.specs.Codes.{no_value, code}
use Rattle.incumbent_words.specs.Rule.{code_at, offered}
use Rattle.incumbent_words.specs.Seats.{Held}
use Rattle.incumbent_words.specs.declared.view.View.{View}
use Rattle.finder.specs.Kept.{Kept, place_at}

pub record Found : Type 0 where
  pub problem : Scenarios
  pub seat : Held
  pub points : List Kept

abbrev pub scenario_count : Scenarios → ℕ
scenario_count p = length (problems.problem p).scenarios

abbrev pub program_of : Scenarios → ℕ → Program
program_of p s = program_at (problems.problem p) s

-- the code of the point's value in scenario s
abbrev pub value_code : Scenarios → ℕ → List ℤ → ℕ
value_code p s x = code (value (program_of p s) x)

-- the kept point is feasible and c is the code of its value; with no point c is the code of none
abbrev pub IsOwn : Program → ℕ → Option (List ℤ) → Type 0
IsOwn p c None = c ≡ no_value
IsOwn p c (Some x) = Feasible p x × (c ≡ code (value p x))

-- The words and the places are one for each scenario, and there is a number. Each own least offer is the
-- value of the kept point, which is feasible.
pub record IsSound (f : Found) : Type 0 where
  pub limits : AreWithin (problems.problem f.problem)
  pub words : f.seat.table.words ≡ scenario_count f.problem
  pub places : length f.points ≡ scenario_count f.problem
  pub columns : (s : ℕ) → s < scenario_count f.problem → (place_at f.points s).columns ≡ length f.problem.model.columns
  pub number : f.seat.view.numbers ≢ []
  pub own : (s : ℕ) → s < scenario_count f.problem → IsOwn (program_of f.problem s) (code_at f.seat.view.offers s) (place_at f.points s).point

-- the same problem, words, numbers and count
pub record IsSameHolder (f g : Found) : Type 0 where
  pub problem : g.problem ≡ f.problem
  pub table : g.seat.table ≡ f.seat.table
  pub numbers : g.seat.view.numbers ≡ f.seat.view.numbers
  pub leads : g.seat.view.leads ≡ f.seat.view.leads
  pub count : g.seat.view.count ≡ f.seat.view.count

-- the view after the code k was offered for s, where the word that it found was at most the cap and the own offer
pub record IsOffered (before now : View) (s k : ℕ) : Type 0 where
  pub word : ℕ
  pub view : now ≡ offered before s word k
  pub cap : word ≤ code_at before.caps s
  pub own : word ≤ code_at before.offers s
