-- What the pool's calls keep.
use Rattle.std.specs.Prelude.{◌≡◌, ℕ, zero, suc, ◌<◌, List, [], ◌∷◌, length, slice_get, slice_index_or, slice_set, false, IsTrue, Some, refl}
use Rattle.std.proofs.Common.{arith, sym, ◌∙◌}
use Rattle.std.proofs.lemmas.Int.{ints}
use Rattle.certs.specs.Levels.{level_le}
use Rattle.scenario_changes.specs.Problems.{Problem}
use Rattle.bb_core.specs.Coverage.{Mark, Closed, Slot, Covers, marked_as, slot_at, settled, MaySettle}
use Rattle.bb_core.specs.Settlements.{Settlement}
use Rattle.open_pool.specs.Marks.{claimed}
use Rattle.certs.specs.declared.tree.Node.TheVariants.{Rest}
use Rattle.certs.specs.declared.level.Level.{Level}
use Rattle.certs.specs.declared.level.Level.TheVariants.{Value, Inf}
use Rattle.bb_core.proofs.CoverageLaws.{Covers-marked, Covers-outcome}

pub level_le-self : (a : Level) → IsTrue (level_le a a)
level_le-self (Value a) = grind (arith, ints)
level_le-self Inf = refl

pub level_le-trans : (a b c : Level) → IsTrue (level_le a b) → IsTrue (level_le b c) → IsTrue (level_le a c)
level_le-trans (Value a) (Value b) (Value c) g h = grind (arith, ints, g, h)
level_le-trans (Value a) b Inf g h = refl
level_le-trans (Value a) Inf (Value c) g h = absurd (cc)
level_le-trans Inf (Value b) c g h = absurd (cc)
level_le-trans Inf Inf c g h = h

pub level_le-else : (a b : Level) → level_le a b ≡ false → IsTrue (level_le b a)
level_le-else (Value a) (Value b) h = grind (arith, ints, h)
level_le-else (Value a) Inf h = absurd (cc)
level_le-else Inf (Value b) h = refl
level_le-else Inf Inf h = absurd (cc)

-- ---- caps

cap-le : (caps : List Level) (s : ℕ) (v : Level) → IsTrue (level_le v (slice_index_or caps s Inf)) → (k : ℕ) → IsTrue (level_le (slice_index_or (slice_set caps s v) k Inf) (slice_index_or caps k Inf))
cap-le [] s v h k = refl
cap-le (c ∷ caps) zero v h zero = h
cap-le (c ∷ caps) zero v h (suc k) = level_le-self (slice_index_or caps k Inf)
cap-le (c ∷ caps) (suc s) v h zero = level_le-self c
cap-le (c ∷ caps) (suc s) v h (suc k) = cap-le caps s v h k

pub Covers-cap : (p : Problem) (slots : List Slot) (caps : List Level) (s : ℕ) (v : Level) → Covers p slots caps → level_le (slice_index_or caps s Inf) v ≡ false → Covers p slots (slice_set caps s v)
Covers-cap p slots caps s v h e = record {
  tree = h.tree;
  unsettled = h.unsettled;
  closed = λ n t f c k l g.
      level_le-trans (slice_index_or (slice_set caps s v) k Inf) (slice_index_or caps k Inf) l
      (cap-le caps s v (level_le-else (slice_index_or caps s Inf) v e) k) (h.closed n t f c k l g);
}

-- ---- marks

pub slot-found : (slots : List Slot) (n : ℕ) → n < length slots → slice_get slots n ≡ Some (slot_at slots n)
slot-found [] n h = absurd (omega arith)
slot-found (t ∷ slots) zero h = refl
slot-found (t ∷ slots) (suc n) h = slot-found slots n (omega arith)

pub slot-got : (slots : List Slot) (n : ℕ) (t : Slot) → slice_get slots n ≡ Some t → (n < length slots) × (slot_at slots n ≡ t)
slot-got [] n t e = absurd (cc)
slot-got (u ∷ slots) zero t e = (omega arith, cc)
slot-got (u ∷ slots) (suc n) t e = let g = slot-got slots n t e in (omega (arith, g.0), g.1)

pub index-any : {X : Type 0} (xs : List X) (n : ℕ) (d f : X) → n < length xs → slice_index_or xs n d ≡ slice_index_or xs n f
index-any [] n d f h = absurd (omega arith)
index-any (x ∷ xs) zero d f h = refl
index-any (x ∷ xs) (suc n) d f h = index-any xs n d f (omega arith)

-- a place that isn't closed stands open or claimed
pub Covers-remarked : (p : Problem) (slots : List Slot) (caps : List Level) (n : ℕ) (was mark : Mark) → Covers p slots caps → n < length slots → (slot_at slots n).mark ≡ was → (was ≡ Closed → ⊥) → (mark ≡ Closed → ⊥) → Covers p (marked_as slots n mark) caps
Covers-remarked p slots caps n was mark h l e w r =
    let found : slice_get slots n ≡ Some (slot_at slots n) = slot-found slots n l in
    let rest : (slot_at slots n).node ≡ Rest = h.unsettled n (slot_at slots n) found (λ c. w (sym e ∙ c)) in
    Covers-marked p slots caps h n (slot_at slots n) found rest mark (λ c. absurd (r c))

-- ---- settlements

pub Covers-settled_here : (p : Problem) (slots : List Slot) (caps : List Level) (s : Settlement) → Covers p slots caps → MaySettle p slots caps claimed s → Covers p (settled slots s) caps
Covers-settled_here p slots caps s h w =
    let t : Slot = w.held.slot in
    let rest : t.node ≡ Rest = h.unsettled s.work.node t w.held.found (λ c. let e : claimed ≡ Closed = sym w.held.marked ∙ c in absurd (cc)) in
    Covers-outcome p slots caps h s.work.node t w.held.found rest _ w.its_work s.cert s.verdicts s.outcome w.lawful.valid w.lawful.children_are w.closes
