use Rattle.std.proofs.Common.{◌≡◌, ℕ, ◌<◌, [], ◌∷◌, ◌++◌, min, List, length, refl, sym, ap, ◌∙◌, subst, arith}
use native.Mathlib.Decide.{dec_le}
use Rattle.scenario_changes.specs.Problems.{Scenarios}
use Rattle.incumbent_words.specs.Rule.{code_at}
use Rattle.incumbent_words.specs.declared.view.View.{View}
use Rattle.finder.specs.Kept.{Kept, place_at}
use Rattle.finder.specs.Found.{Found, scenario_count, program_of, IsOwn}
use Rattle.finder.proofs.finder.Finder.merge.Goals as goal

some_left : (xs ys : List ℕ) → (xs ≡ [] → ⊥) → xs ++ ys ≡ [] → ⊥
some_left [] ys h e = h refl
some_left (x ∷ xs) ys h e = absurd cc

pub invariant_of-self : goal.invariant_of-self
invariant_of-self c =
    let i = c.self.invariant in
    let j = c.other.invariant in
    let p : Scenarios = c.self.inside.problem.now in
    let q : Scenarios = c.other.inside.problem.now in
    let v = c.self.inside.seat.view in
    let w = c.other.inside.seat.view in
    let same : q ≡ p = ap (λ (f : Found). f.problem) c.other.view_is ∙ (c.requires.problem ∙ sym (ap (λ (f : Found). f.problem) c.self.view_is)) in
    let now = c.join.new.seat.view in
    let points : List Kept = c.take_better.new.self in
    let theirs_at : (s : ℕ) → s < scenario_count p → s < scenario_count q = λ s lt. subst (λ (r : Scenarios). s < scenario_count r) (sym same) lt in
    let in_words : (s : ℕ) → s < scenario_count p → s < c.self.inside.seat.table.words = λ s lt. omega (arith, lt, i.words) in
    record {
      limits = i.limits;
      words = ap (λ z. z.words) c.join.ensures.table ∙ i.words;
      places = c.take_better.ensures.len ∙ i.places;
      columns = λ s lt.
          elim (dec_le (code_at v.offers s) (code_at w.offers s)) [
            | yes le ↦ ap (λ (k : Kept). k.columns) (c.take_better.ensures.most s (in_words s lt) le) ∙ i.columns s lt
            | no gt ↦ ap (λ (k : Kept). k.columns) (c.take_better.ensures.less s (in_words s lt) (omega arith)) ∙ (j.columns s (theirs_at s lt) ∙ ap (λ (r : Scenarios). length r.model.columns) same)
          ];
      number = λ e. some_left v.numbers w.numbers i.number (sym (ap (λ (u : View). u.numbers) c.join.ensures.view) ∙ e);
      own = λ s lt.
          let offers : code_at now.offers s ≡ min (code_at v.offers s) (code_at w.offers s) = c.join.ensures.offers s in
          elim (dec_le (code_at v.offers s) (code_at w.offers s)) [
            | yes le ↦ (
                let e : place_at points s ≡ place_at c.self.inside.points s = c.take_better.ensures.most s (in_words s lt) le in
                let n : code_at now.offers s ≡ code_at v.offers s = omega arith in
                subst (λ (k : Kept). IsOwn (program_of p s) (code_at now.offers s) k.point) (sym e) (subst (λ (m : ℕ). IsOwn (program_of p s) m (place_at c.self.inside.points s).point) (sym n) (i.own s lt)))
            | no gt ↦ (
                let e : place_at points s ≡ place_at c.other.inside.points s = c.take_better.ensures.less s (in_words s lt) (omega arith) in
                let n : code_at now.offers s ≡ code_at w.offers s = omega arith in
                let theirs : IsOwn (program_of p s) (code_at w.offers s) (place_at c.other.inside.points s).point = subst (λ (r : Scenarios). IsOwn (program_of r s) (code_at w.offers s) (place_at c.other.inside.points s).point) same (j.own s (theirs_at s lt)) in
                subst (λ (k : Kept). IsOwn (program_of p s) (code_at now.offers s) k.point) (sym e) (subst (λ (m : ℕ). IsOwn (program_of p s) m (place_at c.other.inside.points s).point) (sym n) theirs))
          ];
    }
