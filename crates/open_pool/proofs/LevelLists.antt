-- Lists of levels, place by place.
use Rattle.std.specs.Prelude.{◌≡◌, ℕ, zero, suc, ◌+◌, ◌<◌, ◌≤◌, List, [], ◌∷◌, length, slice_index_or, slice_set, Bool, true, false, cond, nat_eq, Option, Some, None, refl, IsTrue, drop}
use Rattle.std.specs.List.{list_any}
use Rattle.std.proofs.Common.{arith, ap, sym, ◌∙◌, inl, inr}
use Rattle.certs.specs.Trees.{of_live, kept, dropped}
use Rattle.std.proofs.lemmas.Bool.{cases_lt}
use Rattle.certs.specs.Levels.{level_le}
use Rattle.open_pool.specs.Marks.{least_live, lesser_than}
use Rattle.bb_core.specs.Coverage.{ReachesCaps}
use Rattle.certs.specs.declared.level.Level.TheVariants.{Inf}
use Rattle.certs.specs.declared.level.Level.{Level}
use Rattle.certs.proofs.TreeLaws.{kept_at, dropped_at}
use Rattle.certs.proofs.LevelLists.{length_live, length_kept, list_same}

from_zero : (k : ℕ) → 0 + k ≡ k
from_zero k = omega arith

pub kept_none : (stay : List ℕ) (ls : List (Option Level)) (k : ℕ) → list_any (nat_eq k) stay ≡ false → None ≡ slice_index_or (kept stay 0 ls) k None
kept_none stay ls k h = sym (kept_at stay 0 ls k ∙ ap (λ (n : ℕ). cond (list_any (nat_eq n) stay) (slice_index_or ls k None) None) (from_zero k) ∙ ap (λ (b : Bool). cond b (slice_index_or ls k None) None) h)

pub kept_some : (stay : List ℕ) (ls : List (Option Level)) (k : ℕ) → list_any (nat_eq k) stay ≡ true → slice_index_or ls k None ≡ slice_index_or (kept stay 0 ls) k None
kept_some stay ls k h = sym (kept_at stay 0 ls k ∙ ap (λ (n : ℕ). cond (list_any (nat_eq n) stay) (slice_index_or ls k None) None) (from_zero k) ∙ ap (λ (b : Bool). cond b (slice_index_or ls k None) None) h)

pub dropped_none : (stay : List ℕ) (ls : List (Option Level)) (k : ℕ) → list_any (nat_eq k) stay ≡ true → None ≡ slice_index_or (dropped stay 0 ls) k None
dropped_none stay ls k h = sym (dropped_at stay 0 ls k ∙ ap (λ (n : ℕ). cond (list_any (nat_eq n) stay) None (slice_index_or ls k None)) (from_zero k) ∙ ap (λ (b : Bool). cond b None (slice_index_or ls k None)) h)

pub dropped_some : (stay : List ℕ) (ls : List (Option Level)) (k : ℕ) → list_any (nat_eq k) stay ≡ false → slice_index_or ls k None ≡ slice_index_or (dropped stay 0 ls) k None
dropped_some stay ls k h = sym (dropped_at stay 0 ls k ∙ ap (λ (n : ℕ). cond (list_any (nat_eq n) stay) None (slice_index_or ls k None)) (from_zero k) ∙ ap (λ (b : Bool). cond b None (slice_index_or ls k None)) h)

pub length_dropped : (stay : List ℕ) (j : ℕ) (ls : List (Option Level)) → length (dropped stay j ls) ≡ length ls
length_dropped stay j [] = refl
length_dropped stay j (l ∷ ls) = ap suc (length_dropped stay (suc j) ls)

pub same_length_live : (live other : List ℕ) (ls ms : List Level) → of_live live 0 ls ≡ of_live other 0 ms → length ls ≡ length ms
same_length_live live other ls ms e = sym (length_live live 0 ls) ∙ ap length e ∙ length_live other 0 ms

pub same_length_kept : (live stay : List ℕ) (ls : List Level) (ms : List (Option Level)) → of_live live 0 ls ≡ kept stay 0 ms → length ls ≡ length ms
same_length_kept live stay ls ms e = sym (length_live live 0 ls) ∙ ap length e ∙ length_kept stay 0 ms

-- so far the two lists agree
pub live_same : (live other : List ℕ) (ls ms : List Level) → length ls ≡ length ms → ((k : ℕ) → k < length ls → slice_index_or (of_live live 0 ls) k None ≡ slice_index_or (of_live other 0 ms) k None) → of_live live 0 ls ≡ of_live other 0 ms
live_same live other ls ms e h = list_same (of_live live 0 ls) (of_live other 0 ms) (length_live live 0 ls ∙ e ∙ sym (length_live other 0 ms)) (λ k l. h k (let f : length (of_live live 0 ls) ≡ length ls = length_live live 0 ls in omega (arith, f, l)))

pub live_kept : (live stay : List ℕ) (ls : List Level) (ms : List (Option Level)) → length ls ≡ length ms → ((k : ℕ) → k < length ls → slice_index_or (of_live live 0 ls) k None ≡ slice_index_or (kept stay 0 ms) k None) → of_live live 0 ls ≡ kept stay 0 ms
live_kept live stay ls ms e h = list_same (of_live live 0 ls) (kept stay 0 ms) (length_live live 0 ls ∙ e ∙ sym (length_kept stay 0 ms)) (λ k l. h k (let f : length (of_live live 0 ls) ≡ length ls = length_live live 0 ls in omega (arith, f, l)))

pub index_inf : (caps : List Level) (k : ℕ) (d : Level) → k < length caps → slice_index_or caps k d ≡ slice_index_or caps k Inf
index_inf [] k d h = absurd (omega arith)
index_inf (c ∷ caps) zero d h = refl
index_inf (c ∷ caps) (suc k) d h = index_inf caps k d (omega arith)

index_past : {X : Type 0} (xs : List X) (k : ℕ) (d : X) → length xs ≤ k → slice_index_or xs k d ≡ d
index_past [] k d h = refl
index_past (x ∷ xs) zero d h = absurd (omega arith)
index_past (x ∷ xs) (suc k) d h = index_past xs k d (omega arith)

-- what holds of the first places holds of all, since there is no level past them
pub reaches_all : (caps : List Level) (stay : List ℕ) (raised : List (Option Level)) (n : ℕ) → length raised ≤ n → ((m : ℕ) → m < n → (e : Level) → slice_index_or (dropped stay 0 raised) m None ≡ Some e → IsTrue (level_le (slice_index_or caps m Inf) e)) → ReachesCaps caps (dropped stay 0 raised)
reaches_all caps stay raised n l h = λ k e g. elim (cases_lt k n) [
  | inl a ↦ h k a e g
  | inr a ↦ absurd (let p : slice_index_or (dropped stay 0 raised) k None ≡ None = index_past (dropped stay 0 raised) k None (omega (arith, length_dropped stay 0 raised, l, a)) in let q : None ≡ Some e = sym p ∙ g in cc)
]

-- ---- the least level

drop_here : {X : Type 0} (xs : List X) (k : ℕ) (d : X) → k < length xs → drop k xs ≡ slice_index_or xs k d ∷ drop (suc k) xs
drop_here [] k d h = absurd (omega arith)
drop_here (x ∷ xs) zero d h = refl
drop_here (x ∷ xs) (suc k) d h = drop_here xs k d (omega arith)

drop_end : {X : Type 0} (xs : List X) (k : ℕ) → length xs ≤ k → drop k xs ≡ []
drop_end [] zero h = refl
drop_end [] (suc k) h = refl
drop_end (x ∷ xs) zero h = absurd (omega arith)
drop_end (x ∷ xs) (suc k) h = drop_end xs k (omega arith)

least_first : (l : Option Level) (ls : List (Option Level)) → lesser_than l (least_live ls) ≡ least_live (l ∷ ls)
least_first None ls = refl
least_first (Some l) ls = refl

pub least_none : (live : List ℕ) (ls : List Level) (k : ℕ) → length ls ≤ k → Inf ≡ least_live (drop k (of_live live 0 ls))
least_none live ls k h = sym (ap (λ (xs : List (Option Level)). least_live xs) (drop_end (of_live live 0 ls) k (omega (arith, length_live live 0 ls, h))))

pub least_step : (live : List ℕ) (ls : List Level) (k j : ℕ) (l : Option Level) (least : Level) → j ≡ k + 1 → k < length ls → l ≡ slice_index_or (of_live live 0 ls) k None → least ≡ least_live (drop j (of_live live 0 ls)) → lesser_than l least ≡ least_live (drop k (of_live live 0 ls))
least_step live ls k j l least e h m n =
    let s : j ≡ suc k = omega arith in
    let first : drop k (of_live live 0 ls) ≡ slice_index_or (of_live live 0 ls) k None ∷ drop (suc k) (of_live live 0 ls) = drop_here (of_live live 0 ls) k None (omega (arith, length_live live 0 ls, h)) in
    ap (λ (x : Level). lesser_than l x) n ∙ ap (λ (i : ℕ). lesser_than l (least_live (drop i (of_live live 0 ls)))) s ∙ ap (λ (x : Option Level). lesser_than x (least_live (drop (suc k) (of_live live 0 ls)))) m ∙ least_first (slice_index_or (of_live live 0 ls) k None) (drop (suc k) (of_live live 0 ls)) ∙ ap (λ (xs : List (Option Level)). least_live xs) (sym first)

pub index_set_here : {X : Type 0} (xs : List X) (k : ℕ) (v d : X) → k < length xs → slice_index_or (slice_set xs k v) k d ≡ v
index_set_here [] k v d h = absurd (omega arith)
index_set_here (x ∷ xs) zero v d h = refl
index_set_here (x ∷ xs) (suc k) v d h = index_set_here xs k v d (omega arith)

pub index_set_other : {X : Type 0} (xs : List X) (k m : ℕ) (v d : X) → (m ≡ k → ⊥) → slice_index_or (slice_set xs k v) m d ≡ slice_index_or xs m d
index_set_other [] k m v d h = refl
index_set_other (x ∷ xs) zero zero v d h = absurd (h refl)
index_set_other (x ∷ xs) zero (suc m) v d h = refl
index_set_other (x ∷ xs) (suc k) zero v d h = refl
index_set_other (x ∷ xs) (suc k) (suc m) v d h = index_set_other xs k m v d (λ e. h (ap suc e))
