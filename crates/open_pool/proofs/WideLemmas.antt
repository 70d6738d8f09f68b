-- The boxes of a pool's nodes have the problem's columns.
use Rattle.std.specs.Prelude.{◌≡◌, ℕ, zero, suc, pos, ◌+ℤ◌, List, [], ◌∷◌, length, slice_get, slice_set, Option, Some, refl}
use Rattle.std.proofs.Common.{ap, sym, ◌∙◌, subst, inl, inr}
use Rattle.std.proofs.lemmas.List.{length-set}
use Rattle.int_model.specs.Boxes.{Box, at_most, at_least, interval_at}
use Rattle.scenario_changes.specs.Problems.{Problem, AreWithin}
use Rattle.certs.specs.Trees.{Place}
use Rattle.certs.specs.declared.level.Level.{Level}
use Rattle.certs.proofs.TreeLaws.{AllWithin}
use Rattle.certs.proofs.ArrivalLemmas.{root_wide}
use Rattle.certs.proofs.TreeCounts.{stayers_hull-part, Inside-length}
use Rattle.bb_core.specs.Settlements.{Settlement, Outcome, Close, Branch, place_of, recorded}
use Rattle.bb_core.specs.Coverage.{Slot, Mark, Closed, MaySettle, open_at, new_slots, settled, root_slot}
use Rattle.bb_core.proofs.ListWrites.{set-get, append-get}
use Rattle.open_pool.specs.Judged.{AreWide}
use Rattle.open_pool.proofs.LawfulLaws.{branch_parts}

pub wide_root : (p : Problem) → AreWithin p → AreWide p.columns (root_slot p ∷ [])
wide_root p limits zero t e = let w : root_slot p ≡ t = cc in ap (λ (u : Slot). length u.place.box) (sym w) ∙ root_wide p limits
wide_root p limits (suc n) t e = absurd (cc)

-- a node whose place stays
pub wide_marked : (columns : ℕ) (slots : List Slot) (n : ℕ) (was t : Slot) → AreWide columns slots → slice_get slots n ≡ Some was → t.place ≡ was.place → AreWide columns (slice_set slots n t)
wide_marked columns slots n was t h e g i u f = elim (set-get slots n t i u f) [
  | inl q ↦ ap (λ (z : Slot). length z.place.box) (sym q.1) ∙ ap (λ (z : Place). length z.box) g ∙ h n was e
  | inr q ↦ h i u q
]

-- ---- settlements

new_wide : (columns : ℕ) (left right : Box) (ls rs : List (Option Level)) → length left ≡ columns → length right ≡ columns → AreWide columns (open_at left ls ∷ open_at right rs ∷ [])
new_wide columns left right ls rs a b zero t e = let w : open_at left ls ≡ t = cc in ap (λ (u : Slot). length u.place.box) (sym w) ∙ a
new_wide columns left right ls rs a b (suc zero) t e = let w : open_at right rs ≡ t = cc in ap (λ (u : Slot). length u.place.box) (sym w) ∙ b
new_wide columns left right ls rs a b (suc (suc n)) t e = absurd (cc)

none_wide : (columns : ℕ) → AreWide columns []
none_wide columns n t e = absurd (cc)

module _ (p : Problem) (limits : AllWithin p) (slots : List Slot) (caps : List Level) (h : AreWide p.columns slots) where
  work_wide : {mark : Mark} (s : Settlement) → MaySettle p slots caps mark s → length (place_of s.work).box ≡ p.columns
  work_wide s m = ap (λ (q : Place). length q.box) (sym m.its_work) ∙ h s.work.node m.held.slot m.held.found

  children_wide : {mark : Mark} (o : Outcome) (s : Settlement) → s.outcome ≡ o → MaySettle p slots caps mark s → AreWide p.columns (new_slots o)
  children_wide {mark = mark} Close s e m = none_wide p.columns
  children_wide {mark = mark} (Branch stay column v left right ls rs) s e m =
      let own : MaySettle p slots caps mark (record s { outcome = Branch stay column v left right ls rs }) = subst (λ (o : Outcome). MaySettle p slots caps mark (record s { outcome = o })) e m in
      let parts = branch_parts p caps (length slots) s.work s.cert s.verdicts stay column v left right ls rs (record { lawful = own.lawful; closes = own.closes }) in
      let long : length s.work.bounds ≡ p.columns = work_wide s m in
      let hull = parts.2.hull in
      let part = stayers_hull-part p limits s.work.bounds long s.cert stay hull.within hull.hull_is in
      let hull_long : length hull.within ≡ p.columns = Inside-length hull.within s.work.bounds part.inside ∙ long in
      new_wide p.columns left right _ _
      (ap length hull.left_is ∙ length-set hull.within column (at_most (interval_at hull.within column) v) ∙ hull_long)
      (ap length hull.right_is ∙ length-set hull.within column (at_least (interval_at hull.within column) (v +ℤ pos 1)) ∙ hull_long)

  pub wide_settled : {mark : Mark} (s : Settlement) → MaySettle p slots caps mark s → AreWide p.columns (settled slots s)
  wide_settled s m i t e =
      let new : Slot = record { node = recorded (length slots) s.cert s.verdicts s.outcome; place = place_of s.work; mark = Closed } in
      elim (append-get (slice_set slots s.work.node new) (new_slots s.outcome) i t e) [
        | inl a ↦ (elim (set-get slots s.work.node new i t a) [
          | inl b ↦ ap (λ (z : Slot). length z.place.box) (sym b.1) ∙ work_wide s m
          | inr b ↦ h i t b
        ])
        | inr a ↦ children_wide s.outcome s refl m a.0 t a.2
      ]
