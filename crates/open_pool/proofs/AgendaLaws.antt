-- What the first open nodes of ranges tell.
use Rattle.std.specs.Prelude.{◌≡◌, ℕ, zero, suc, ◌<◌, ◌≤◌, List, [], ◌∷◌, length, false, IsTrue, Option, Some, None, MatchOption, IfSome}
use Rattle.std.proofs.Common.{arith, ap, ◌∙◌, subst}
use Rattle.certs.specs.Levels.{level_le}
use Rattle.bb_core.specs.Coverage.{Open, Slot, slot_at}
use Rattle.open_pool.specs.Agenda.{least_at, FirstIn}
use Rattle.open_pool.specs.Marks.{least_live}
use Rattle.open_pool.specs.Pooled.{HasNone, IsNext}
use Rattle.open_pool.proofs.PoolLaws.{slot-found, slot-got}

-- past the end each node is closed
pub open_there : (slots : List Slot) (n : ℕ) → (slot_at slots n).mark ≡ Open → n < length slots
open_there [] n e = absurd (cc)
open_there (t ∷ slots) zero e = omega arith
open_there (t ∷ slots) (suc n) e = let h : n < length slots = open_there slots n e in omega arith

pub first-below : (slots : List Slot) (start end : ℕ) (first : Option ℕ) → FirstIn slots start end first → IfSome first (λ n. n < length slots)
first-below slots start end None h = tt
first-below slots start end (Some n) h = open_there slots n h.is_open.here

pub first-next : (slots : List Slot) (end : ℕ) (best : Option ℕ) → length slots ≤ end → FirstIn slots 0 end best → MatchOption best (HasNone slots Open) (IsNext slots)
first-next slots end None l h = λ m t f o.
    let g = slot-got slots m t f in
    h m (record { from = omega arith; below = omega (arith, l, g.0); here = ap (λ (z : Slot). z.mark) g.1 ∙ o })
first-next slots end (Some b) l h = record {
  open_here = record { slot = slot_at slots b; found = slot-found slots b (open_there slots b h.is_open.here); marked = h.is_open.here };
  least = λ m t f o.
      let g = slot-got slots m t f in
      let w : IsTrue (level_le (least_at slots b) (least_at slots m)) = h.least m (record { from = omega arith; below = omega (arith, l, g.0); here = ap (λ (z : Slot). z.mark) g.1 ∙ o }) in
      subst (λ (z : Slot). IsTrue (level_le (least_at slots b) (least_live z.place.levels))) g.1 w;
  first = λ m t f o k.
      let g = slot-got slots m t f in
      let w : level_le (least_at slots m) (least_at slots b) ≡ false = h.first m (record { from = omega arith; below = omega (arith, l, g.0); here = ap (λ (z : Slot). z.mark) g.1 ∙ o }) k in
      subst (λ (z : Slot). level_le (least_live z.place.levels) (least_at slots b) ≡ false) g.1 w;
}
