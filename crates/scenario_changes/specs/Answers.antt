-- The right answers to a scenario.
use Rattle.std.specs.Prelude.{◌≡◌, ℤ, ◌≤ℤ◌, ◌<ℤ◌, List, IfSome}
use Rattle.int_model.specs.Programs.{Program, Feasible, value}
use Rattle.scenario_changes.specs.declared.answer.Answer.{Answer}
use Rattle.scenario_changes.specs.declared.answer.Answer.TheVariants.{Infeasible, Optimal, Limit}

-- no feasible point has a smaller value
abbrev pub IsBound : Program → ℤ → Type 0
IsBound p b = (x : List ℤ) → Feasible p x → b ≤ℤ value p x

-- x is feasible and has the value v
abbrev pub HasValue : Program → List ℤ → ℤ → Type 0
HasValue p x v = Feasible p x × (value p x ≡ v)

abbrev pub RightAnswer : Program → Answer → Type 0
RightAnswer p Infeasible = (x : List ℤ) → Feasible p x → ⊥
RightAnswer p (Optimal x v) = HasValue p x v × IsBound p v
RightAnswer p (Limit best b) = IsBound p b × IfSome best (λ (c : List ℤ × ℤ). HasValue p c.0 c.1 × (b <ℤ c.1))
