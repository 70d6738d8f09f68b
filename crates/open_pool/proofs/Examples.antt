-- Worked examples of claims, marks and least levels, by computing. The tree is that of the examples of `bb_core`.
use Rattle.std.specs.Prelude.{◌≡◌, ℕ, zero, suc, pos, negsuc, ◌<◌, false, IsTrue, List, [], ◌∷◌, slice_get, Option, Some, None, refl}
use Rattle.std.proofs.Common.{arith, ap, sym, subst}
use Rattle.certs.specs.Levels.{level_le}
use Rattle.certs.specs.declared.level.Level.{Level}
use Rattle.certs.specs.declared.level.Level.TheVariants.{Value, Inf}
use Rattle.certs.proofs.TreeExamples.{two}
use Rattle.bb_core.specs.Coverage.{Slot, Closed, Open, open_at, marked_as, settled}
use Rattle.bb_core.proofs.Examples.{held, settlement}
use Rattle.open_pool.specs.Marks.{claimed, least_live}
use Rattle.open_pool.specs.Pooled.{IsNext, is_claimed, reopened, count_open, count_claimed}
use Rattle.open_pool.specs.Ends.{closed_bound, waiting_bound}

-- ---- levels of a node

-- a scenario that isn't live doesn't count
least-of-live : least_live (None ∷ Some (Value (pos 4)) ∷ Some (Value (pos 3)) ∷ []) ≡ Value (pos 3)
least-of-live = refl

least-of-none : least_live (None ∷ []) ≡ Inf
least-of-none = refl

-- ---- which node is claimed

abbrev pub at : Level → Slot
at l = open_at [] (Some l ∷ [])

-- the first node has the least level, but is closed; of the two with the level -7 the first is claimed
abbrev pub some_open : List Slot
some_open = record (at (Value (negsuc 8))) { mark = Closed } ∷ at (Value (negsuc 6)) ∷ at (Value (negsuc 6)) ∷ at (Value (negsuc 4)) ∷ []

some_same : {X : Type 0} {a b : X} → ◌≡◌ {A = Option X} (Some a) (Some b) → a ≡ b
some_same e = cc

next : IsNext some_open 1
next = record { open_here = record { slot = at (Value (negsuc 6)); found = refl; marked = refl }; least = least; first = first }
  where
    from : (l : Level) (t : Slot) → ◌≡◌ {A = Option Slot} (Some (at l)) (Some t) → IsTrue (level_le (Value (negsuc 6)) (least_live (at l).place.levels)) → IsTrue (level_le (Value (negsuc 6)) (least_live t.place.levels))
    from l t e h = subst (λ (u : Slot). IsTrue (level_le (Value (negsuc 6)) (least_live u.place.levels))) (some_same e) h

    closed : (t : Slot) → ◌≡◌ {A = Option Slot} (Some (record (at (Value (negsuc 8))) { mark = Closed })) (Some t) → t.mark ≡ Open → ⊥
    closed t e o = let w : Closed ≡ t.mark = ap (λ (u : Slot). u.mark) (some_same e) in absurd (cc)

    least : (m : ℕ) (t : Slot) → slice_get some_open m ≡ Some t → t.mark ≡ Open → IsTrue (level_le (Value (negsuc 6)) (least_live t.place.levels))
    least zero t e o = absurd (closed t e o)
    least (suc zero) t e o = from (Value (negsuc 6)) t e refl
    least (suc (suc zero)) t e o = from (Value (negsuc 6)) t e refl
    least (suc (suc (suc zero))) t e o = from (Value (negsuc 4)) t e refl
    least (suc (suc (suc (suc m)))) t e o = absurd (cc)

    first : (m : ℕ) (t : Slot) → slice_get some_open m ≡ Some t → t.mark ≡ Open → m < 1 → level_le (least_live t.place.levels) (Value (negsuc 6)) ≡ false
    first zero t e o l = absurd (closed t e o)
    first (suc m) t e o l = absurd (omega arith)

-- the second of two nodes with one level, and the node with the greatest level
not-the-last : IsNext some_open 2 → ⊥
not-the-last h = by_slot h.open_here.slot h.open_here.found (h.first 1 (at (Value (negsuc 6))) refl refl (omega arith))
  where
    by_slot : (t : Slot) → slice_get some_open 2 ≡ Some t → level_le (Value (negsuc 6)) (least_live t.place.levels) ≡ false → ⊥
    by_slot t e g = let w : level_le (Value (negsuc 6)) (Value (negsuc 6)) ≡ level_le (Value (negsuc 6)) (least_live t.place.levels) = ap (λ (u : Slot). level_le (Value (negsuc 6)) (least_live u.place.levels)) (some_same e) in absurd (cc)

not-the-greatest : IsNext some_open 3 → ⊥
not-the-greatest h = by_slot h.open_here.slot h.open_here.found (h.least 1 (at (Value (negsuc 6))) refl refl)
  where
    by_slot : (t : Slot) → slice_get some_open 3 ≡ Some t → IsTrue (level_le (least_live t.place.levels) (Value (negsuc 6))) → ⊥
    by_slot t e g = let w : IsTrue (level_le (Value (negsuc 4)) (Value (negsuc 6))) = subst (λ (u : Slot). IsTrue (level_le (least_live u.place.levels) (Value (negsuc 6)))) (sym (some_same e)) g in absurd (cc)

-- ---- marks

abbrev pub one_claimed : List Slot
one_claimed = marked_as some_open 3 claimed

opens : reopened one_claimed 3 ≡ some_open
opens = refl

-- a closed node stays closed
stays-closed : reopened one_claimed 0 ≡ one_claimed
stays-closed = refl

past-the-end : is_claimed one_claimed 4 ≡ false
past-the-end = refl

open-ones : count_open one_claimed ≡ 2
open-ones = refl

claimed-ones : count_claimed one_claimed ≡ 1
claimed-ones = refl

-- ---- the least levels over ends: scenario 1 ended at the root, and scenario 0 waits in two children

abbrev pub branched : List Slot
branched = settled held settlement

ended-there : closed_bound two 1 branched ≡ Value (negsuc 3)
ended-there = refl

-- the root is no end of a scenario that stays
went-on : closed_bound two 0 branched ≡ Inf
went-on = refl

waits-there : waiting_bound 0 branched ≡ Value (negsuc 6)
waits-there = refl

waits-nowhere : waiting_bound 1 branched ≡ Inf
waits-nowhere = refl
