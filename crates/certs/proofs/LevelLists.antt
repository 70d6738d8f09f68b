-- The levels of live scenarios, place by place.
use Rattle.std.specs.Prelude.{◌≡◌, ℕ, zero, suc, ◌+◌, ◌<◌, ◌≤◌, List, [], ◌∷◌, length, slice_get, slice_index_or, Bool, true, false, cond, nat_eq, Option, Some, None, refl}
use Rattle.std.specs.List.{list_any}
use Rattle.std.proofs.Common.{arith, ap, sym, ◌∙◌}
use Rattle.certs.specs.Trees.{of_live, kept}
use Rattle.certs.specs.declared.level.Level.{Level}
use Rattle.certs.proofs.TreeLaws.{kept_at}

none_either : (b : Bool) → ◌≡◌ {A = Option Level} None (cond b None None)
none_either true = refl
none_either false = refl

of_live_at : (live : List ℕ) (j : ℕ) (ls : List Level) (k : ℕ) → slice_index_or (of_live live j ls) k None ≡ cond (list_any (nat_eq (j + k)) live) (slice_get ls k) None
of_live_at live j [] k = none_either (list_any (nat_eq (j + k)) live)
of_live_at live j (l ∷ ls) zero = let e : j ≡ j + 0 = omega arith in ap (λ (n : ℕ). cond (list_any (nat_eq n) live) (Some l) None) e
of_live_at live j (l ∷ ls) (suc k) = let e : suc j + k ≡ j + suc k = omega arith in rw e at (of_live_at live (suc j) ls k)

from_zero : (k : ℕ) → 0 + k ≡ k
from_zero k = omega arith

pub live_at : (live : List ℕ) (ls : List Level) (k : ℕ) → slice_index_or (of_live live 0 ls) k None ≡ cond (list_any (nat_eq k) live) (slice_get ls k) None
live_at live ls k = of_live_at live 0 ls k ∙ ap (λ (n : ℕ). cond (list_any (nat_eq n) live) (slice_get ls k) None) (from_zero k)

pub live_none : (live : List ℕ) (ls : List Level) (k : ℕ) → list_any (nat_eq k) live ≡ false → None ≡ slice_index_or (of_live live 0 ls) k None
live_none live ls k h = sym (live_at live ls k ∙ ap (λ (b : Bool). cond b (slice_get ls k) None) h)

pub live_past : (live : List ℕ) (ls : List Level) (k : ℕ) → length ls ≤ k → None ≡ slice_index_or (of_live live 0 ls) k None
live_past live ls k h = sym (live_at live ls k ∙ ap (λ (o : Option Level). cond (list_any (nat_eq k) live) o None) (past ls k h) ∙ sym (none_either (list_any (nat_eq k) live)))
  where
    past : (ls : List Level) (k : ℕ) → length ls ≤ k → slice_get ls k ≡ None
    past [] k h = refl
    past (l ∷ ls) zero h = absurd (omega arith)
    past (l ∷ ls) (suc k) h = past ls k (omega arith)

pub live_some : (live : List ℕ) (ls : List Level) (k : ℕ) (d : Level) → list_any (nat_eq k) live ≡ true → k < length ls → Some (slice_index_or ls k d) ≡ slice_index_or (of_live live 0 ls) k None
live_some live ls k d h l = sym (live_at live ls k ∙ ap (λ (b : Bool). cond b (slice_get ls k) None) h ∙ there ls k l)
  where
    there : (ls : List Level) (k : ℕ) → k < length ls → slice_get ls k ≡ Some (slice_index_or ls k d)
    there [] k h = absurd (omega arith)
    there (l ∷ ls) zero h = refl
    there (l ∷ ls) (suc k) h = there ls k (omega arith)

pub length_live : (live : List ℕ) (j : ℕ) (ls : List Level) → length (of_live live j ls) ≡ length ls
length_live live j [] = refl
length_live live j (l ∷ ls) = ap suc (length_live live (suc j) ls)

pub kept_none : (stay : List ℕ) (ls : List (Option Level)) (k : ℕ) → list_any (nat_eq k) stay ≡ false → None ≡ slice_index_or (kept stay 0 ls) k None
kept_none stay ls k h = sym (kept_at stay 0 ls k ∙ ap (λ (n : ℕ). cond (list_any (nat_eq n) stay) (slice_index_or ls k None) None) (from_zero k) ∙ ap (λ (b : Bool). cond b (slice_index_or ls k None) None) h)

pub kept_some : (stay : List ℕ) (ls : List (Option Level)) (k : ℕ) → list_any (nat_eq k) stay ≡ true → slice_index_or ls k None ≡ slice_index_or (kept stay 0 ls) k None
kept_some stay ls k h = sym (kept_at stay 0 ls k ∙ ap (λ (n : ℕ). cond (list_any (nat_eq n) stay) (slice_index_or ls k None) None) (from_zero k) ∙ ap (λ (b : Bool). cond b (slice_index_or ls k None) None) h)

pub length_kept : (stay : List ℕ) (j : ℕ) (ls : List (Option Level)) → length (kept stay j ls) ≡ length ls
length_kept stay j [] = refl
length_kept stay j (l ∷ ls) = ap suc (length_kept stay (suc j) ls)

-- lists that agree at each place
pub list_same : {X : Type 0} (xs ys : List (Option X)) → length xs ≡ length ys → ((k : ℕ) → k < length xs → slice_index_or xs k None ≡ slice_index_or ys k None) → xs ≡ ys
list_same [] [] e h = refl
list_same [] (y ∷ ys) e h = absurd (omega arith)
list_same (x ∷ xs) [] e h = absurd (omega arith)
list_same (x ∷ xs) (y ∷ ys) e h =
    let first : x ≡ y = h 0 (omega arith) in
    let rest : xs ≡ ys = list_same xs ys (omega arith) (λ k l. h (suc k) (omega arith)) in cc

pub live_kept : (live stay : List ℕ) (ls : List Level) (ms : List (Option Level)) → length ls ≡ length ms → ((k : ℕ) → k < length ls → slice_index_or (of_live live 0 ls) k None ≡ slice_index_or (kept stay 0 ms) k None) → of_live live 0 ls ≡ kept stay 0 ms
live_kept live stay ls ms e h = list_same (of_live live 0 ls) (kept stay 0 ms) (length_live live 0 ls ∙ e ∙ sym (length_kept stay 0 ms)) (λ k l. h k (let f : length (of_live live 0 ls) ≡ length ls = length_live live 0 ls in omega (arith, f, l)))
