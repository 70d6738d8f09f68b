-- What a text does to the state of a reader, part by part. A run reads a text from a state to its end.
use Rattle.std.proofs.Common.{◌≡◌, ◌∙◌, ap, sym, refl, subst, ℕ, zero, suc, ◌+◌, ◌<◌, List, [], ◌++◌, append_assoc, arith}
use Rattle.std.proofs.lemmas.List.{append-nil}
use Rattle.model_gen.specs.Texts.{for_each}
use Rattle.model_gen.proofs.TextLemmas.{each_more}

-- the part takes the reader from one state to another
abbrev pub Moves : {S R : Type 0} → (S → List ℕ → R) → S → List ℕ → S → Type 0
Moves run s part t = (rest : List ℕ) → run s (part ++ rest) ≡ run t rest

-- from each state where P holds it comes to one where Q holds
abbrev pub Leads : {S R : Type 0} → (S → List ℕ → R) → (S → Type 0) → List ℕ → (S → Type 0) → Type 0
Leads {S} run P part Q = (s : S) → P s → (t : S) × Q t × Moves run s part t

pub one_then_other : {S R : Type 0} (run : S → List ℕ → R) (P Q T : S → Type 0) (a b : List ℕ) → Leads run P a Q → Leads run Q b T → Leads run P (a ++ b) T
one_then_other run P Q T a b first second s p =
    let one = first s p in
    let other = second one.0 one.1 in
    (other.0, other.1, λ rest. ap (run s) (append_assoc a b rest) ∙ one.2 (b ++ rest) ∙ other.2 rest)

each_last : (text : ℕ → List ℕ) (n : ℕ) → for_each (suc n) text ≡ for_each n text ++ text n
each_last text n =
    let next : suc n ≡ n + 1 = omega arith in
    ap (λ m. for_each m text) next ∙ sym (each_more text n [] (for_each n text) (for_each n text ++ text n) refl refl)

-- one part for each number
pub each_leads : {S R : Type 0} (run : S → List ℕ → R) (P : ℕ → S → Type 0) (text : ℕ → List ℕ) (n : ℕ) → ((k : ℕ) → k < n → Leads run (P k) (text k) (P (suc k))) → Leads run (P 0) (for_each n text) (P n)
each_leads run P text zero step = λ s p. (s, p, λ rest. refl)
each_leads run P text (suc n) step =
    subst (λ (part : List ℕ). Leads run (P 0) part (P (suc n))) (sym (each_last text n)) (one_then_other run (P 0) (P n) (P (suc n)) (for_each n text) (text n) (each_leads run P text n (λ k h. step k (omega arith))) (step n (omega arith)))

-- a whole text
pub leads_to_end : {S R : Type 0} (run : S → List ℕ → R) (P Q : S → Type 0) (text : List ℕ) → Leads run P text Q → (s : S) → P s → (t : S) × Q t × (run s text ≡ run t [])
leads_to_end run P Q text leads s p =
    let end = leads s p in
    (end.0, end.1, ap (run s) (sym (append-nil text)) ∙ end.2 [])
