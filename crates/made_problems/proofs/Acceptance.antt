-- Both texts of a generated problem are accepted.
use Rattle.std.proofs.Common.{◌≡◌, ◌∙◌, ap, sym, refl, subst, ℕ, ◌≤◌, List, length, Result, Ok}
use Rattle.int_model.specs.Models.{IntegerModel}
use Rattle.mps_reader.specs.MpsModels.{model_of}
use Rattle.mps_reader.specs.declared.MpsKind.{MpsKind}
use Rattle.changes_reader.specs.ChangesText.{changes_of}
use Rattle.model_gen.specs.Texts.{words_used, generated_model, generated_changes}
use Rattle.scenario_changes.specs.Changes.{ChangeSet}
use Rattle.scenario_changes.specs.Problems.{Scenarios}
use Rattle.changes_reader.specs.declared.ChangesKind.{ChangesKind}
use Rattle.made_problems.specs.Laws.{HasNames, TextsAreAccepted}
use Rattle.made_problems.specs.Made.{HasModel, HasChanges, IsMade}
use Rattle.made_problems.proofs.ModelTexts.{model_accepted}
use Rattle.made_problems.proofs.ChangeTexts.{changes_accepted}

pub both_accepted : TextsAreAccepted
both_accepted seed columns rows scenarios some few_columns few_rows few_scenarios =
    let words : List ℕ = words_used seed columns rows scenarios in
    let read = model_accepted words columns rows few_columns few_rows in
    let changed = changes_accepted read.0 words columns rows scenarios some few_columns few_rows few_scenarios read.2 in
    record { model = read.0; has_model = read.1; named = read.2; changes = changed.0; has_changes = changed.1; counted = changed.2 }

pub model_made : (seed columns rows scenarios : ℕ) → 1 ≤ columns → columns ≤ 1000 → rows ≤ 1000 → scenarios ≤ 64 → (text : List ℕ) → text ≡ generated_model seed columns rows scenarios → HasModel text
model_made seed columns rows scenarios some few_columns few_rows few_scenarios text e =
    let both = both_accepted seed columns rows scenarios some few_columns few_rows few_scenarios in
    record { model = both.model; is = ap model_of e ∙ both.has_model }

same_model : (m n : IntegerModel) (r : Result IntegerModel (ℕ × MpsKind)) → r ≡ Ok m → r ≡ Ok n → n ≡ m
same_model m n r e f = cc

pub changes_made : (seed columns rows scenarios : ℕ) → 1 ≤ columns → columns ≤ 1000 → rows ≤ 1000 → scenarios ≤ 64 → (m : IntegerModel) (text changes : List ℕ) → text ≡ generated_model seed columns rows scenarios → changes ≡ generated_changes seed columns rows scenarios → model_of text ≡ Ok m → HasChanges m changes
changes_made seed columns rows scenarios some few_columns few_rows few_scenarios m text changes e f read =
    let both = both_accepted seed columns rows scenarios some few_columns few_rows few_scenarios in
    let same : both.model ≡ m = same_model m both.model (model_of text) read (ap model_of e ∙ both.has_model) in
    record { changes = both.changes; is = ap (changes_of m) f ∙ subst (λ (n : IntegerModel). changes_of n (generated_changes seed columns rows scenarios) ≡ Ok both.changes) same both.has_changes }

same_set : (c d : ChangeSet) (r : Result ChangeSet (ℕ × ChangesKind)) → r ≡ Ok c → r ≡ Ok d → c ≡ d
same_set c d r e f = cc

-- what the two readers answer for the two texts makes the problem
pub problem_made : (seed columns rows scenarios : ℕ) → 1 ≤ columns → columns ≤ 1000 → rows ≤ 1000 → scenarios ≤ 64 → (m : IntegerModel) (c : ChangeSet) (p : Scenarios) (text changes : List ℕ) → text ≡ generated_model seed columns rows scenarios → changes ≡ generated_changes seed columns rows scenarios → model_of text ≡ Ok m → changes_of m changes ≡ Ok c → p ≡ record { model = m; changes = c.scenarios } → IsMade seed columns rows scenarios p
problem_made seed columns rows scenarios some few_columns few_rows few_scenarios m c p text changes e f read changed is =
    let both = both_accepted seed columns rows scenarios some few_columns few_rows few_scenarios in
    let same : both.model ≡ m = same_model m both.model (model_of text) read (ap model_of e ∙ both.has_model) in
    let here : changes_of m (generated_changes seed columns rows scenarios) ≡ Ok both.changes = subst (λ (n : IntegerModel). changes_of n (generated_changes seed columns rows scenarios) ≡ Ok both.changes) same both.has_changes in
    let set : c ≡ both.changes = same_set c both.changes (changes_of m changes) changed (ap (changes_of m) f ∙ here) in
    subst (IsMade seed columns rows scenarios) (sym is) (record {
      set = c;
      has_model = ap model_of (sym e) ∙ read;
      has_changes = ap (changes_of m) (sym f) ∙ changed;
      changes = refl;
      named = subst (HasNames columns rows) same both.named;
      counted = ap (λ (d : ChangeSet). length d.scenarios) set ∙ both.counted;
    })
