-- Caps, place by place.
use Rattle.std.specs.Prelude.{◌≡◌, ℕ, zero, suc, ◌+◌, ◌<◌, ◌≤◌, List, [], ◌∷◌, ◌++◌, length, replicate, slice_index_or, Some, None, IsTrue, refl}
use Rattle.std.proofs.Common.{arith, ap, sym, ◌∙◌, inl, inr}
use Rattle.std.proofs.lemmas.Bool.{cases_lt}
use Rattle.std.proofs.lemmas.List.{replicate-append-replicate}
use Rattle.certs.specs.Levels.{level_le, lesser_level}
use Rattle.certs.specs.Trees.{of_live}
use Rattle.certs.specs.declared.level.Level.{Level}
use Rattle.certs.specs.declared.level.Level.TheVariants.{Inf}
use Rattle.certs.proofs.LevelLists.{length_live}
use Rattle.bb_core.specs.Coverage.{ReachesCaps}
use Rattle.bb_core.specs.Machine.{lesser_each}

-- a list whose places are the lesser ones
pub each_is : (caps others new : List Level) → length new ≡ length caps → length caps ≡ length others → ((k : ℕ) → k < length caps → slice_index_or new k Inf ≡ lesser_level (slice_index_or caps k Inf) (slice_index_or others k Inf)) → new ≡ lesser_each caps others
each_is [] [] [] e g h = refl
each_is [] [] (n ∷ new) e g h = absurd (omega (arith, e))
each_is [] (b ∷ others) new e g h = absurd (omega (arith, g))
each_is (a ∷ caps) [] new e g h = absurd (omega (arith, g))
each_is (a ∷ caps) (b ∷ others) [] e g h = absurd (omega (arith, e))
each_is (a ∷ caps) (b ∷ others) (n ∷ new) e g h =
    let first : n ≡ lesser_level a b = h 0 (omega arith) in
    let rest : new ≡ lesser_each caps others = each_is caps others new (omega (arith, e)) (omega (arith, g)) (λ k l. h (suc k) (omega (arith, l))) in
    ap (λ (l : Level). l ∷ new) first ∙ ap (λ (ls : List Level). lesser_level a b ∷ ls) rest

index_past : {X : Type 0} (xs : List X) (k : ℕ) (d : X) → length xs ≤ k → slice_index_or xs k d ≡ d
index_past [] k d h = refl
index_past (x ∷ xs) zero d h = absurd (omega arith)
index_past (x ∷ xs) (suc k) d h = index_past xs k d (omega arith)

-- what holds of the first places holds of all, since there is no level past them
pub reaches_live : (caps : List Level) (live : List ℕ) (levels : List Level) (n : ℕ) → length levels ≤ n → ((m : ℕ) → m < n → (e : Level) → slice_index_or (of_live live 0 levels) m None ≡ Some e → IsTrue (level_le (slice_index_or caps m Inf) e)) → ReachesCaps caps (of_live live 0 levels)
reaches_live caps live levels n l h = λ k e g. elim (cases_lt k n) [
  | inl a ↦ h k a e g
  | inr a ↦ (let past : slice_index_or (of_live live 0 levels) k None ≡ None = index_past (of_live live 0 levels) k None (omega (arith, a, l, length_live live 0 levels)) in
      absurd (let w : None ≡ Some e = sym past ∙ g in cc))
]

pub one_more : {X : Type 0} (n : ℕ) (x : X) → replicate n x ++ x ∷ [] ≡ replicate (n + 1) x
one_more n x = replicate-append-replicate n 1 x
