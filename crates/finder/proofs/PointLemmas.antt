-- Each own least offer is the value of the kept point.
use Rattle.std.proofs.Common.{◌≡◌, ℕ, suc, ◌<◌, ◌≤◌, ◌^◌, min, ℤ, ◌≤ℤ◌, List, [], ◌∷◌, length, set, All, Some, None, refl, sym, ap, ◌∙◌, subst, arith}
use Rattle.std.proofs.lemmas.Int.{ints}
use Rattle.std.proofs.lemmas.List.{get_or-set_same, get_or-set_other}
use Rattle.std.proofs.lemmas.List.Elements.{All-nil, All-cons}
use native.Mathlib.Decide.{ℕ_discrete}
use Rattle.int_model.specs.Limits.{IsBound}
use Rattle.int_model.specs.Boxes.{Box, InBox, BoundsWithin}
use Rattle.int_model.specs.Programs.{Feasible}
use Rattle.scenario_changes.specs.Problems.{Scenarios, AreWithin}
use Rattle.scenario_changes.specs.Problems as problems
use Rattle.incumbent_words.specs.Codes.{no_value}
use Rattle.incumbent_words.specs.Rule.{code_at}
use Rattle.finder.specs.Kept.{Kept, place_at}
use Rattle.finder.specs.Found.{scenario_count, program_of, value_code, IsOwn}

-- a feasible point has a number for each column, and each is small

in_box-length : (box : Box) (x : List ℤ) → InBox box x → length x ≡ length box
in_box-length [] [] h = refl
in_box-length [] (v ∷ x) h = absurd h
in_box-length (i ∷ box) [] h = absurd h
in_box-length (i ∷ box) (v ∷ x) h = ap suc (in_box-length box x h.2)

between : (l h v : ℤ) → IsBound l → IsBound h → l ≤ℤ v → v ≤ℤ h → IsBound v
between l h v a b c d = omega (arith, ints, c, d)

in_box-small : (box : Box) (x : List ℤ) → BoundsWithin (10 ^ 6) box → InBox box x → All IsBound x
in_box-small [] [] w h = All-nil IsBound
in_box-small [] (v ∷ x) w h = absurd h
in_box-small (i ∷ box) [] w h = absurd h
in_box-small (i ∷ box) (v ∷ x) w h = All-cons IsBound v x (between i.low i.high v w.0 w.1 h.0 h.1) (in_box-small box x w.2 h.2)

module _ (p : Scenarios) (s : ℕ) (x : List ℤ) (within : AreWithin (problems.problem p)) (in_range : s < scenario_count p) (feasible : Feasible (program_of p s) x) where
  pub feasible-columns : length x ≡ length p.model.columns
  feasible-columns = in_box-length (program_of p s).bounds x feasible.within ∙ (within.programs s _ in_range).shape.bounds

  pub feasible-small : All IsBound x
  feasible-small = in_box-small (program_of p s).bounds x (within.programs s _ in_range).limits.bounds feasible.within

-- a point is offered: it is kept where its value is less than the own least offer

abbrev pub AreOwn : Scenarios → List ℕ → List Kept → Type 0
AreOwn p offers points = (k : ℕ) → k < scenario_count p → IsOwn (program_of p k) (code_at offers k) (place_at points k).point

module _ (p : Scenarios) (offers : List ℕ) (points : List Kept) (s : ℕ) (wide : s < length offers) where
  pub own-kept : (x : List ℤ) → s < length points → AreOwn p offers points → Feasible (program_of p s) x → value_code p s x < code_at offers s
      → AreOwn p (set offers s (min (code_at offers s) (value_code p s x))) (set points s (record { columns = length x; point = Some x }))
  own-kept x wide' own feasible less k lt =
      let v : ℕ = value_code p s x in
      let m : ℕ = min (code_at offers s) v in
      let kept : Kept = record { columns = length x; point = Some x } in
      let goal : ℕ → Kept → Type 0 = λ n q. IsOwn (program_of p k) n q.point in
      elim (ℕ_discrete k s) [
        | yes e ↦ (
            let c : code_at (set offers s m) s ≡ m = get_or-set_same offers s m no_value wide in
            let q : place_at (set points s kept) s ≡ kept = get_or-set_same points s kept _ wide' in
            let same : m ≡ v = omega arith in
            let here : IsOwn (program_of p s) (code_at (set offers s m) s) (place_at (set points s kept) s).point = subst (λ (r : Kept). IsOwn (program_of p s) (code_at (set offers s m) s) r.point) (sym q) (feasible, c ∙ same) in
            subst (λ (i : ℕ). IsOwn (program_of p i) (code_at (set offers s m) i) (place_at (set points s kept) i).point) (sym e) here)
        | no ne ↦ (
            let c = get_or-set_other offers s k m no_value ne in
            let q = get_or-set_other points s k kept (record { columns = 0; point = None }) ne in
            subst (λ (n : ℕ). goal n (place_at (set points s kept) k)) (sym c) (subst (goal (code_at offers k)) (sym q) (own k lt)))
      ]

  pub own-left : (v : ℕ) → AreOwn p offers points → code_at offers s ≤ v → AreOwn p (set offers s (min (code_at offers s) v)) points
  own-left v own le k lt =
      let m : ℕ = min (code_at offers s) v in
      elim (ℕ_discrete k s) [
        | yes e ↦ (
            let c : code_at (set offers s m) k ≡ m = ap (code_at (set offers s m)) e ∙ get_or-set_same offers s m no_value wide in
            let b : code_at offers k ≡ code_at offers s = ap (code_at offers) e in
            let same : code_at (set offers s m) k ≡ code_at offers k = omega arith in
            subst (λ (n : ℕ). IsOwn (program_of p k) n (place_at points k).point) (sym same) (own k lt))
        | no ne ↦ subst (λ (n : ℕ). IsOwn (program_of p k) n (place_at points k).point) (sym (get_or-set_other offers s k m no_value ne)) (own k lt)
      ]

-- each place has a number for each column
abbrev pub HaveColumns : Scenarios → List Kept → Type 0
HaveColumns p points = (k : ℕ) → k < scenario_count p → (place_at points k).columns ≡ length p.model.columns

pub columns-kept : (p : Scenarios) (points : List Kept) (s : ℕ) (kept : Kept) → s < length points → kept.columns ≡ length p.model.columns → HaveColumns p points → HaveColumns p (set points s kept)
columns-kept p points s kept wide is all k lt =
    elim (ℕ_discrete k s) [
      | yes e ↦ ap (λ (i : ℕ). (place_at (set points s kept) i).columns) e ∙ (ap (λ (q : Kept). q.columns) (get_or-set_same points s kept _ wide) ∙ is)
      | no ne ↦ ap (λ (q : Kept). q.columns) (get_or-set_other points s k kept (record { columns = 0; point = None }) ne) ∙ all k lt
    ]
