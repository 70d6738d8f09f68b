use Rattle.std.proofs.Common.{◌≡◌, ◌∙◌, sym, ap, subst, length, List, ℕ, refl}
use Rattle.std.specs.Arc.{arc_value}
use Rattle.bb_core.specs.Coverage.{Slot}
use Rattle.certs.specs.declared.level.Level.{Level}
use Rattle.open_pool.proofs.MemberLaws.{MembersSoFar, members-place, members_below-all}
use Rattle.open_pool.proofs.slot.Slot.work.Goals as goal

pub returns-clause-work : goal.returns-clause-work
returns-clause-work c =
    let count : c.len.result ≡ length (arc_value c.self.inside.levels) = c.len.ensures ∙ ap (λ (ls : List Level). length ls) c.deref.ensures in
    let members : MembersSoFar c.self.inside.live (length (arc_value c.self.inside.levels)) c.members_below-live.result = subst (λ (n : ℕ). MembersSoFar c.self.inside.live n c.members_below-live.result) count c.members_below-live.ensures in
    (members-place _ _ _ _ _ _ c.in_ok-bounds.ensures c.in_ok-levels.ensures members ∙ ap (λ (t : Slot). t.place) c.self.view_is, refl)

pub returns-clause-live : goal.returns-clause-live
returns-clause-live c =
    let count : c.len.result ≡ length (arc_value c.in_ok-levels.levels) = c.len.ensures ∙ (ap (λ (ls : List Level). length ls) c.deref.ensures ∙ ap (λ (ls : List Level). length ls) (sym c.in_ok-levels.ensures)) in
    members_below-all c.self.inside.live c.members_below-live.result (length (arc_value c.in_ok-levels.levels)) (subst (λ (n : ℕ). MembersSoFar c.self.inside.live n c.members_below-live.result) count c.members_below-live.ensures)
