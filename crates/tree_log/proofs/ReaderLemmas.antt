-- A step of the loops that read the words of a line.
use Rattle.std.proofs.Common.{◌≡◌, ◌∙◌, ap, sym, refl, ℕ, ℤ, ◌+◌, ◌-◌, ◌<◌, ◌≤◌, false, List, [], ◌∷◌, ◌++◌, Some, None, min, nat_eq, nat_lt, arith, cond}
use Rattle.std.specs.Prelude.{option_and_then}
use Rattle.std.proofs.lemmas.Bool.Decides.{nat_tests}
use Rattle.tighten.specs.declared.step.Step.{Step}
use Rattle.dual_bounds.specs.Vectors.{Entry}
use Rattle.live_sets.specs.Members.{with_member}
use Rattle.tree_log.specs.LineWords.{step_of, steps_after, entry_of, entries_after, below_of, within_of, stay_after, head_at, head_of}

pub steps_more : (columns rows : ℕ) (steps : List Step) (row column side : List ℕ) (ws words initial : List (List ℕ)) (step : Step) → words ≡ row ∷ column ∷ side ∷ ws → step_of columns rows row column side ≡ Some step → steps_after columns rows steps words ≡ steps_after columns rows [] initial → steps_after columns rows (steps ++ step ∷ []) ws ≡ steps_after columns rows [] initial
steps_more columns rows steps row column side ws words initial step e f h =
    sym (ap (steps_after columns rows steps) e ∙ ap (option_and_then (λ (s : Step). steps_after columns rows (steps ++ s ∷ []) ws)) f) ∙ h

pub entries_more : (rows : ℕ) (entries : List Entry) (row multiplier : List ℕ) (ws words initial : List (List ℕ)) (entry : Entry) → words ≡ row ∷ multiplier ∷ ws → entry_of rows row multiplier ≡ Some entry → entries_after rows entries words ≡ entries_after rows [] initial → entries_after rows (entries ++ entry ∷ []) ws ≡ entries_after rows [] initial
entries_more rows entries row multiplier ws words initial entry e f h =
    sym (ap (entries_after rows entries) e ∙ ap (option_and_then (λ (s : Entry). entries_after rows (entries ++ s ∷ []) ws)) f) ∙ h

-- ---- sets that grow at their end

abbrev pub AreBelow : ℕ → List ℕ → Type 0
AreBelow most [] = Unit {0}
AreBelow most (k ∷ ks) = (k < most) × AreBelow most ks

pub below_more : (least k : ℕ) (ks : List ℕ) → AreBelow least ks → least ≤ k → AreBelow (k + 1) (ks ++ k ∷ [])
below_more least k [] h l = (omega arith, tt)
below_more least k (x ∷ ks) h l = (omega (arith, h.0), below_more least k ks h.1 l)

member_step : (k x : ℕ) (ks rest : List ℕ) → x < k → with_member k ks ≡ rest → cond (nat_lt k x) (k ∷ x ∷ ks) (cond (nat_eq k x) (x ∷ ks) (x ∷ with_member k ks)) ≡ x ∷ rest
member_step k x ks rest h e =
    let first : nat_lt k x ≡ false = grind (arith, nat_tests) in
    let second : nat_eq k x ≡ false = grind (arith, nat_tests) in
    rw (first, second) (ap (λ l. x ∷ l) e)

pub with_member-last : (least k : ℕ) (ks : List ℕ) → AreBelow least ks → least ≤ k → with_member k ks ≡ ks ++ k ∷ []
with_member-last least k [] h l = refl
with_member-last least k (x ∷ ks) h l = member_step k x ks (ks ++ k ∷ []) (omega (arith, h.0)) (with_member-last least k ks h.1 l)

-- what a loop over scenarios keeps
pub record IsStay (scenarios least : ℕ) (stay : List ℕ) (words initial : List (List ℕ)) : Type 0 where
  pub below : AreBelow least stay
  pub left : stay_after scenarios least stay words ≡ stay_after scenarios 0 [] initial

stay_left : (scenarios least k : ℕ) (stay : List ℕ) (w : List ℕ) (ws words : List (List ℕ)) → words ≡ w ∷ ws → below_of (min scenarios 64) w ≡ Some k → least ≤ k → stay_after scenarios least stay words ≡ stay_after scenarios (k + 1) (stay ++ k ∷ []) ws
stay_left scenarios least k stay w ws words e f l =
    let test : nat_lt k least ≡ false = grind (arith, nat_tests) in
    ap (stay_after scenarios least stay) e ∙ ap (option_and_then (λ (n : ℕ). cond (nat_lt n least) None (stay_after scenarios (n + 1) (stay ++ n ∷ []) ws))) f
    ∙ ap (λ t. cond t None (stay_after scenarios (k + 1) (stay ++ k ∷ []) ws)) test

pub stay_more : (scenarios least k : ℕ) (stay new : List ℕ) (w : List ℕ) (ws words initial : List (List ℕ)) → IsStay scenarios least stay words initial → words ≡ w ∷ ws → below_of (min scenarios 64) w ≡ Some k → least ≤ k → new ≡ with_member k stay → IsStay scenarios (k + 1) new ws initial
stay_more scenarios least k stay new w ws words initial h e f l is =
    let last : new ≡ stay ++ k ∷ [] = is ∙ with_member-last least k stay h.below l in
    rw last (record { below = below_more least k stay h.below l; left = sym (stay_left scenarios least k stay w ws words e f l) ∙ h.left })

pub head_read : (columns nodes k j : ℕ) (v : ℤ) (child column value : List ℕ) → below_of (nodes - 1) child ≡ Some k → below_of columns column ≡ Some j → within_of 1000000 value ≡ Some v → head_at k j v ≡ head_of columns nodes child column value
head_read columns nodes k j v child column value e f g = rw (e, f, g) refl
