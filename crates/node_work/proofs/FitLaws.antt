-- Certificates that fit.
use Rattle.std.specs.Prelude.{◌≡◌, ◌<◌, ◌≤◌, ◌&&◌, ℕ, suc, true, List, [], ◌∷◌, length, nat_lt, nat_le, All, refl}
use Rattle.std.specs.List.{list_all}
use Rattle.std.proofs.Common.{arith}
use Rattle.std.proofs.lemmas.Bool.{and_from}
use Rattle.std.proofs.lemmas.Bool.Decides.{nat_tests}
use Rattle.int_model.specs.Models.{IntegerModel}
use Rattle.tighten.specs.Steps.{IsStep}
use Rattle.tighten.specs.declared.step.Step.{Step}
use Rattle.dual_bounds.specs.Vectors.{Entry, Multipliers, RowsBelow}
use Rattle.scenario_changes.specs.Problems.{Scenarios, problem}
use Rattle.certs.specs.Trees.{cert_fits, step_within, vector_within}
use Rattle.certs.specs.Verdicts.{AllRowsBelow}
use Rattle.certs.specs.declared.cert.Cert.{Cert}
use Rattle.certs.proofs.FitLemmas.{vectors-within}

step-within : (m : IntegerModel) (step : Step) → IsStep m step → step_within (length m.rows) (length m.columns) step ≡ true
step-within m step h =
    let row : nat_lt step.row (length m.rows) ≡ true = (let l : step.row < length m.rows = h.row in grind (arith, nat_tests)) in
    let column : nat_lt step.column (length m.columns) ≡ true = (let l : step.column < length m.columns = h.column in grind (arith, nat_tests)) in
    and_from (nat_lt step.row (length m.rows)) (nat_lt step.column (length m.columns)) row column

steps-within : (m : IntegerModel) (steps : List Step) → All (IsStep m) steps → list_all (step_within (length m.rows) (length m.columns)) steps ≡ true
steps-within m [] h = refl
steps-within m (step ∷ steps) h =
    and_from (step_within (length m.rows) (length m.columns) step) (list_all (step_within (length m.rows) (length m.columns)) steps) (step-within m step (h 0 step (omega arith))) (steps-within m steps (λ k d l. h (suc k) d (omega arith)))

rows-within : (n : ℕ) (entries : List Entry) → RowsBelow n entries → list_all (λ (e : Entry). nat_lt e.0 n) entries ≡ true
rows-within n [] h = refl
rows-within n (e ∷ entries) h =
    let row : nat_lt e.0 n ≡ true = (let l : e.0 < n = h.0 in grind (arith, nat_tests)) in
    and_from (nat_lt e.0 n) (list_all (λ (z : Entry). nat_lt z.0 n) entries) row (rows-within n entries h.1)

vectors-are-within : (n : ℕ) (vectors : List Multipliers) → AllRowsBelow n vectors → list_all (vector_within n) vectors ≡ true
vectors-are-within n [] h = refl
vectors-are-within n (v ∷ vectors) h = and_from (vector_within n v) (list_all (vector_within n) vectors) (rows-within n v.entries h.0) (vectors-are-within n vectors h.1)

few-are : (a b : ℕ) → a ≤ b → nat_le a b ≡ true
few-are a b h = grind (arith, nat_tests)

pub fits-by : (p : Scenarios) (cert : Cert) → All (IsStep p.model) cert.steps → length cert.steps ≤ 128 → AllRowsBelow (length p.model.rows) cert.vectors → length cert.vectors ≤ 2 → cert_fits (problem p) cert ≡ true
fits-by p cert steps few vectors two =
    let rows : ℕ = length p.model.rows in
    let columns : ℕ = length p.model.columns in
    and_from (nat_le (length cert.steps) 128 && list_all (step_within (length p.model.rows) (length p.model.columns)) cert.steps && nat_le (length cert.vectors) 2) (list_all (vector_within (length p.model.rows)) cert.vectors)
    (and_from (nat_le (length cert.steps) 128 && list_all (step_within (length p.model.rows) (length p.model.columns)) cert.steps) (nat_le (length cert.vectors) 2)
    (and_from (nat_le (length cert.steps) 128) (list_all (step_within (length p.model.rows) (length p.model.columns)) cert.steps) (few-are (length cert.steps) 128 few) (steps-within p.model cert.steps steps))
    (few-are (length cert.vectors) 2 two))
    (vectors-are-within (length p.model.rows) cert.vectors vectors)

pub vector_rows : (n : ℕ) (v : Multipliers) → vector_within n v ≡ true → RowsBelow n v.entries
vector_rows n v h = (vectors-within n (v ∷ []) (and_from (vector_within n v) true h refl)).0
