-- The finders of a crew, and what its run ends with.
use Rattle.std.specs.Prelude.{◌≡◌, ◌<◌, ◌≤◌, ◌+◌, ℕ, List, [], ◌∷◌, All, length, true}
use Rattle.scenario_changes.specs.Problems.{Problem, Scenarios}
use Rattle.scenario_changes.specs.declared.answer.Answer.{Answer}
use Rattle.certs.specs.declared.tree.Node.{Node}
use Rattle.atomic_table.specs.Seated.{TableId}
use Rattle.incumbent_words.specs.Rule.{code_at, none_for, weight, count_in, numbered}
use Rattle.incumbent_words.specs.declared.view.View.{View}
use Rattle.finder.specs.Found.{Found}
use Rattle.open_pool.specs.Pooled.{Pooled}
use Rattle.alone_run.specs.Runs.{IsRun}

-- of these words, and made for this problem
abbrev pub IsOf : TableId → Scenarios → Found → Type 0
IsOf table p f = (f.seat.table ≡ table) × (f.problem ≡ p)

-- a number of each view, summed over the finders
abbrev pub total : (View → ℕ) → List Found → ℕ
total f [] = 0
total f (x ∷ xs) = f x.seat.view + total f xs

-- together they have the count and all numbers
pub record HaveAll (fs : List Found) : Type 0 where
  pub leads : 0 < total weight fs
  pub numbers : (x : ℕ) → x < total count_in fs → 0 < total (numbered x) fs

-- for the same problem, and no best value of f is greater than that of g
pub record IsAsGood (f g : Found) : Type 0 where
  pub problem : f.problem ≡ g.problem
  pub best : (k : ℕ) → code_at f.seat.view.offers k ≤ code_at g.seat.view.offers k

-- the answers and the nodes are what a run of one worker promises, whichever finder of the crew it had begun with
abbrev pub IsCrewRun : Problem → Pooled → List Found → List Answer → List Node → Type 0
IsCrewRun p q finders answers nodes = All (λ f. IsRun p q f answers nodes) finders

-- the master has given the numbers below k to these finders, but for 0, which it keeps
pub record HasGiven (n k : ℕ) (master : View) (fs : List Found) : Type 0 where
  pub caps : length master.caps ≡ n
  pub offers : master.offers ≡ none_for n
  pub numbers : master.numbers ≡ 0 ∷ []
  pub leads : master.leads ≡ true
  pub count : master.count ≡ k
  pub nobody : total count_in fs ≡ 0
  pub given : (x : ℕ) → 0 < x → x < k → 0 < total (numbered x) fs
