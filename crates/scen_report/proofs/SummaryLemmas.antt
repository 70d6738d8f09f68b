-- Outcome after outcome.
use Rattle.std.proofs.Common.{◌≡◌, ◌∙◌, ap, sym, ℕ, suc, ◌+◌, ◌<◌, ◌≤◌, List, ◌++◌, [], length, get_or, drop, arith, drop-cons, append_assoc}
use Rattle.std.proofs.lemmas.List.{append-nil, drop_all}
use Rattle.int_model.specs.declared.model.Direction.{Direction}
use Rattle.scenario_changes.specs.declared.answer.Answer.{Answer}
use Rattle.scen_report.specs.Summaries.{outcome_line, outcomes_from}

pub outcomes_begun : (d : Direction) (answers : List Answer) (head out : List ℕ) → out ≡ [] ++ head → head ++ outcomes_from d 0 answers ≡ out ++ outcomes_from d 0 (drop 0 answers)
outcomes_begun d answers head out e = ap (λ h. h ++ outcomes_from d 0 answers) (sym e)

outcomes_from-drop : (d : Direction) (answers : List Answer) (s : ℕ) (a : Answer) → s < length answers → outcomes_from d s (drop s answers) ≡ outcome_line d s (get_or answers s a) ++ outcomes_from d (s + 1) (drop (s + 1) answers)
outcomes_from-drop d answers s a h =
    let next : suc s ≡ s + 1 = omega arith in
    rw (drop-cons answers s a) (ap (λ k. outcome_line d s (get_or answers s a) ++ outcomes_from d (s + 1) (drop k answers)) next)

pub outcomes_more : (d e : Direction) (answers : List Answer) (s : ℕ) (a : Answer) (summary out new : List ℕ) → s < length answers → a ≡ get_or answers s a → e ≡ d → summary ≡ out ++ outcomes_from d s (drop s answers) → new ≡ out ++ outcome_line e s a → summary ≡ new ++ outcomes_from d (s + 1) (drop (s + 1) answers)
outcomes_more d e answers s a summary out new h is same before after =
    let rest = outcomes_from d (s + 1) (drop (s + 1) answers) in
    before
    ∙ ap (λ l. out ++ l) (outcomes_from-drop d answers s a h)
    ∙ ap (λ b. out ++ (outcome_line d s b ++ rest)) (sym is)
    ∙ ap (λ c. out ++ (outcome_line c s a ++ rest)) (sym same)
    ∙ sym (append_assoc out (outcome_line e s a) rest)
    ∙ ap (λ l. l ++ rest) (sym after)

pub outcomes_ended : (d : Direction) (answers : List Answer) (s : ℕ) (summary out : List ℕ) → length answers ≤ s → summary ≡ out ++ outcomes_from d s (drop s answers) → out ≡ summary
outcomes_ended d answers s summary out h e = sym (e ∙ ap (λ l. out ++ outcomes_from d s l) (drop_all s answers h) ∙ append-nil out)
