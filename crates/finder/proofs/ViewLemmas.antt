-- What stays the same where only caps change.
use Rattle.std.proofs.Common.{◌≡◌, ℕ, ◌+◌, ◌<◌, ◌≤◌, List, length, set, sym, ap, ◌∙◌, subst, arith}
use Rattle.std.proofs.lemmas.List.{get_or-set_same, get_or-set_other}
use native.Mathlib.Decide.{ℕ_discrete}
use Rattle.incumbent_words.specs.declared.view.View.{View}
use Rattle.incumbent_words.specs.Codes.{no_value}
use Rattle.incumbent_words.specs.Rule.{code_at, times, HasAll, IsSameButCaps}

pub all-kept : (v w : View) → IsSameButCaps v w → HasAll v → HasAll w
all-kept v w same all =
    (same.leads ∙ all.0, λ x lt. subst (λ (ns : List ℕ). 0 < times x ns) (sym same.numbers) (all.1 x (omega (arith, same.count))))

-- a cap that was set to a word that is no greater
pub set-lowers : (caps : List ℕ) (s word : ℕ) → s < length caps → word ≤ code_at caps s → (k : ℕ) → code_at (set caps s word) k ≤ code_at caps k
set-lowers caps s word lt le k =
    elim (ℕ_discrete k s) [
      | yes e ↦ (
          let a : code_at (set caps s word) k ≡ word = ap (code_at (set caps s word)) e ∙ get_or-set_same caps s word no_value lt in
          let b : code_at caps k ≡ code_at caps s = ap (code_at caps) e in omega arith)
      | no ne ↦ (let a = get_or-set_other caps s k word no_value ne in omega arith)
    ]

-- the caps before s and that of s are those of the list
pub set-known : (caps offers : List ℕ) (s word : ℕ) → s < length caps → word ≡ code_at offers s → ((k : ℕ) → k < s → code_at caps k ≡ code_at offers k) → (k : ℕ) → k < s + 1 → code_at (set caps s word) k ≡ code_at offers k
set-known caps offers s word lt is known k le =
    elim (ℕ_discrete k s) [
      | yes e ↦ (ap (code_at (set caps s word)) e ∙ get_or-set_same caps s word no_value lt ∙ is ∙ sym (ap (code_at offers) e))
      | no ne ↦ (get_or-set_other caps s k word no_value ne ∙ known k (omega arith))
    ]
