-- Nodes by their marks.
use Rattle.std.specs.Prelude.{◌≡◌, ℕ, zero, suc, ◌<◌, ◌≤◌, List, [], ◌∷◌, length, slice_index_or, Bool, true, false, cond, nat_eq, refl}
use Rattle.std.proofs.Common.{arith, ap, sym, ◌∙◌, subst}
use Rattle.std.proofs.lemmas.Bool.Decides.{nat_tests}
use Rattle.certs.specs.declared.level.Level.{Level}
use Rattle.bb_core.specs.Coverage.{Slot, Mark, Closed, Open, Held, Stands, slot_at, ReachesCaps}
use Rattle.bb_core.specs.Machine.{HoldsNone, held_at, is_held_by, MaySweep}
use Rattle.bb_core.specs.Interleavings.{IsFinished}
use Rattle.open_pool.proofs.PoolLaws.{slot-found, slot-got, index-any}

-- ---- a node that stands somewhere

pub stands_at : (slots : List Slot) (n : ℕ) (mark : Mark) → n < length slots → (slot_at slots n).mark ≡ mark → Stands slots n mark
stands_at slots n mark l e = record { slot = slot_at slots n; found = slot-found slots n l; marked = e }

pub stands_below : (slots : List Slot) (n : ℕ) (mark : Mark) → Stands slots n mark → n < length slots
stands_below slots n mark h = (slot-got slots n h.slot h.found).0

pub stands_not : (slots : List Slot) (n : ℕ) (mark : Mark) → ((slot_at slots n).mark ≡ mark → ⊥) → Stands slots n mark → ⊥
stands_not slots n mark w h = w (ap (λ (t : Slot). t.mark) (slot-got slots n h.slot h.found).1 ∙ h.marked)

pub stands_nowhere : (slots : List Slot) (n : ℕ) (mark : Mark) → length slots ≤ n → Stands slots n mark → ⊥
stands_nowhere slots n mark l h = let b : n < length slots = stands_below slots n mark h in absurd (omega (arith, b, l))

-- ---- the node that an actor holds

held_yes : (a : ℕ) (m : Mark) → m ≡ Held a → is_held_by a m ≡ true
held_yes a m e = ap (is_held_by a) e ∙ (let w : nat_eq a a ≡ true = grind (arith, nat_tests) in w)

held_not : (a : ℕ) (m : Mark) → (m ≡ Held a → ⊥) → is_held_by a m ≡ false
held_not a Closed w = refl
held_not a Open w = refl
held_not a (Held b) w = by_test (nat_eq a b) refl
  where
    by_test : (t : Bool) → nat_eq a b ≡ t → nat_eq a b ≡ false
    by_test false e = e
    by_test true e = absurd (w (ap Held (let g : b ≡ a = grind (arith, nat_tests, e) in g)))

first_is : (a : ℕ) (slots : List Slot) (n : ℕ) → n < length slots → ((m : ℕ) → m < n → (slot_at slots m).mark ≡ Held a → ⊥) → (slot_at slots n).mark ≡ Held a → n ≡ held_at a slots
first_is a [] n l h e = absurd (omega arith)
first_is a (t ∷ slots) zero l h e = sym (ap (λ (b : Bool). cond b 0 (suc (held_at a slots))) (held_yes a t.mark e))
first_is a (t ∷ slots) (suc n) l h e =
    let none : is_held_by a t.mark ≡ false = held_not a t.mark (h 0 (omega arith)) in
    let rest : n ≡ held_at a slots = first_is a slots n (omega arith) (λ m b. h (suc m) (omega (arith, b))) e in
    ap suc rest ∙ sym (ap (λ (b : Bool). cond b 0 (suc (held_at a slots))) none)

pub held_first : (a : ℕ) (slots : List Slot) (n : ℕ) → n < length slots → ((m : ℕ) → m < n → (slot_at slots m).mark ≡ Held a → ⊥) → (slot_at slots n).mark ≡ Held a → (n ≡ held_at a slots) × Stands slots n (Held a)
held_first a slots n l h e = (first_is a slots n l h e, stands_at slots n (Held a) l e)

pub held_nowhere : (a : ℕ) (slots : List Slot) (n : ℕ) → length slots ≤ n → ((m : ℕ) → m < n → (slot_at slots m).mark ≡ Held a → ⊥) → HoldsNone a slots
held_nowhere a slots n l h m t e w = let g = slot-got slots m t e in h m (omega (arith, g.0, l)) (ap (λ (u : Slot). u.mark) g.1 ∙ w)

-- ---- sweeps

pub sweeps : (slots : List Slot) (caps : List Level) (n : ℕ) → Stands slots n Open → ReachesCaps caps (slot_at slots n).place.levels → MaySweep slots caps n
sweeps slots caps n h r = record {
  waiting = h;
  closes = subst (λ (t : Slot). ReachesCaps caps t.place.levels) (slot-got slots n h.slot h.found).1 r;
}

pub sweeps_not : (slots : List Slot) (caps : List Level) (n : ℕ) → (ReachesCaps caps (slot_at slots n).place.levels → ⊥) → MaySweep slots caps n → ⊥
sweeps_not slots caps n w h = w (subst (λ (t : Slot). ReachesCaps caps t.place.levels) (sym (slot-got slots n h.waiting.slot h.waiting.found).1) h.closes)

-- ---- the end

pub finished_all : (slots : List Slot) (n : ℕ) → length slots ≤ n → ((m : ℕ) → m < n → (slot_at slots m).mark ≡ Closed) → IsFinished slots
finished_all slots n l h m t e = let g = slot-got slots m t e in ap (λ (u : Slot). u.mark) (sym g.1) ∙ h m (omega (arith, g.0, l))

pub finished_not : (slots : List Slot) (n : ℕ) → n < length slots → ((slot_at slots n).mark ≡ Closed → ⊥) → IsFinished slots → ⊥
finished_not slots n l w h = w (h n (slot_at slots n) (slot-found slots n l))

-- the node that a slice gives
pub at_index : (slots : List Slot) (n : ℕ) (d t : Slot) → n < length slots → t ≡ slice_index_or slots n d → slot_at slots n ≡ t
at_index slots n d t l e = index-any slots n _ d l ∙ sym e
