-- What a replay on the part of a box says of the scenario's replay.
use Rattle.std.specs.Prelude.{◌≡◌, ℕ, ◌<◌, Bool, true, false, int_lt, cond, List, [], ◌∷◌, length, take, slice_set, Option, Some, None, IfSome, option_and_then, refl}
use Rattle.std.proofs.Common.{ap, sym, subst, ◌∙◌, inl, inr, ◌⊎◌}
use Rattle.std.proofs.lemmas.List.{length-set}
use Rattle.int_model.specs.Boxes.{Box, Interval, is_empty, meet}
use Rattle.int_model.specs.Programs.{Terms}
use Rattle.int_model.specs.Models.{IntegerModel}
use Rattle.int_model.specs.declared.model.Ends.{Ends}
use Rattle.tighten.specs.declared.step.Step.{Step}
use Rattle.tighten.specs.Replay.{left_of, tightened, tightened_by, replayed, replay}
use Rattle.tighten.specs.Steps.{rows_of, IsReplayed, Stops}
use Rattle.scenario_changes.specs.Problems.{Scenarios, problem, program_at}
use Rattle.dual_bounds.specs.Vectors.{Multipliers}
use Rattle.certs.specs.Verdicts.{level_on, level_over, empty_level}
use Rattle.certs.specs.declared.verdict.Verdict.{Verdict}
use Rattle.certs.proofs.ProblemLemmas.{scenario_rows}

-- ---- how many columns

length-with : (box t : Box) (j : ℕ) (i : Interval) (b : Bool) → cond b None (Some (slice_set box j i)) ≡ Some t → length t ≡ length box
length-with box t j i true e = absurd (cc)
length-with box t j i false e = sym (ap length (same e)) ∙ length-set box j i
  where
    same : {a b : Box} → Some a ≡ Some b → a ≡ b
    same e = cc

length-tightened : (rows : List Terms) (ends : List Ends) (step : Step) (box t : Box) → tightened rows ends step box ≡ Some t → length t ≡ length box
length-tightened rows ends step box t e =
    let i : Interval = left_of rows ends step box in length-with box t step.column i (int_lt i.high i.low) e

length-steps : (rows : List Terms) (ends : List Ends) (steps : List Step) (box t : Box) → tightened_by rows ends steps box ≡ Some t → length t ≡ length box
length-steps rows ends [] box t e = ap length (same e)
  where
    same : {a b : Box} → Some a ≡ Some b → b ≡ a
    same e = cc
length-steps rows ends (step ∷ steps) box t e = by (λ b g. length-steps rows ends steps b t g) (tightened rows ends step box) refl e
  where
    by : ((b : Box) → tightened_by rows ends steps b ≡ Some t → length t ≡ length b) → (o : Option Box) → tightened rows ends step box ≡ o → option_and_then (tightened_by rows ends steps) o ≡ Some t → length t ≡ length box
    by more None f g = absurd (cc)
    by more (Some b) f g = more b g ∙ length-tightened rows ends step box b f

length-replayed : (rows : List Terms) (ends : List Ends) (steps : List Step) (box t : Box) → replayed rows ends steps box ≡ Some t → length t ≡ length box
length-replayed rows ends steps box t e = by (is_empty box) e
  where
    by : (b : Bool) → cond b None (tightened_by rows ends steps box) ≡ Some t → length t ≡ length box
    by true f = absurd (cc)
    by false f = length-steps rows ends steps box t f

pub length-after : (rows : List Terms) (ends : List Ends) (steps : List Step) (box t : Box) (b : Bool) → IsReplayed rows ends steps box b t → length t ≡ length box
length-after rows ends steps box t true h = length-replayed rows ends steps box t h
length-after rows ends steps box t false h = by h.1
  where
    by : ((is_empty box ≡ true) × (t ≡ box)) ⊎ ((is_empty box ≡ false) × Stops rows ends steps box t) → length t ≡ length box
    by (inl p) = ap length p.1
    by (inr p) = length-steps rows ends (take p.1.0 steps) box t p.1.2.reached

-- ---- what a replay answers

pub replay-yes : (rows : List Terms) (ends : List Ends) (steps : List Step) (box t : Box) (b : Bool) → b ≡ true → IsReplayed rows ends steps box b t → replayed rows ends steps box ≡ Some t
replay-yes rows ends steps box t true e h = h
replay-yes rows ends steps box t false e h = absurd (cc)

pub replay-no : (rows : List Terms) (ends : List Ends) (steps : List Step) (box t : Box) (b : Bool) → b ≡ false → IsReplayed rows ends steps box b t → replayed rows ends steps box ≡ None
replay-no rows ends steps box t true e h = absurd (cc)
replay-no rows ends steps box t false e h = h.0

-- ---- the scenario's replay

-- what the replay reads of a scenario, and the part of the box
pub record IsPartOf (p : Scenarios) (s : ℕ) (m : IntegerModel) (ends : List Ends) (bounds part : Box) : Type 0 where
  pub scenario : s < length (problem p).scenarios
  pub model : m ≡ p.model
  pub ends_are : ends ≡ (program_at (problem p) s).ends
  pub part_is : part ≡ meet bounds (program_at (problem p) s).bounds

pub replay-read : (p : Scenarios) (s : ℕ) (m : IntegerModel) (ends : List Ends) (steps : List Step) (bounds part : Box) (o : Option Box) → IsPartOf p s m ends bounds part → replayed (rows_of m) ends steps part ≡ o → replay (program_at (problem p) s) steps bounds ≡ o
replay-read p s m ends steps bounds part o r e =
    let rows : rows_of m ≡ (program_at (problem p) s).rows = ap (λ (n : IntegerModel). rows_of n) r.model ∙ sym (scenario_rows p s r.scenario) in
    ap (λ (b : Box). replayed (program_at (problem p) s).rows (program_at (problem p) s).ends steps b) (sym r.part_is)
    ∙ ap (λ (es : List Ends). replayed (program_at (problem p) s).rows es steps part) (sym r.ends_are)
    ∙ ap (λ (t : List Terms). replayed t ends steps part) (sym rows) ∙ e

pub level-empty : (p : Scenarios) (s : ℕ) (vectors : List Multipliers) (verdict : Verdict) (o : Option Box) → o ≡ None → empty_level verdict ≡ level_on (program_at (problem p) s) vectors verdict o
level-empty p s vectors verdict o e = ap (level_on (program_at (problem p) s) vectors verdict) (sym e)

pub level-some : (p : Scenarios) (s : ℕ) (vectors : List Multipliers) (verdict : Verdict) (o : Option Box) (t : Box) → o ≡ Some t → level_over (program_at (problem p) s) vectors verdict t ≡ level_on (program_at (problem p) s) vectors verdict o
level-some p s vectors verdict o t e = ap (level_on (program_at (problem p) s) vectors verdict) (sym e)

pub holds-empty : (o : Option Box) (now : Box) → o ≡ None → IfSome o (λ t. now ≡ t)
holds-empty o now e = subst (λ (q : Option Box). IfSome q (λ t. now ≡ t)) (sym e) tt

pub holds-some : (o : Option Box) (now : Box) → o ≡ Some now → IfSome o (λ t. now ≡ t)
holds-some o now e = subst (λ (q : Option Box). IfSome q (λ t. now ≡ t)) (sym e) refl
