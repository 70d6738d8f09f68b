-- Settlements of the node that an actor holds.
use Rattle.std.specs.Prelude.{◌≡◌, ℕ, ◌<◌, ◌≤◌, List, length, Bool, true, false, MatchBool}
use Rattle.std.proofs.Common.{arith, ap, ◌∙◌}
use Rattle.scenario_changes.specs.Problems.{Problem, AreWithin}
use Rattle.certs.specs.declared.level.Level.{Level}
use Rattle.bb_core.specs.Settlements.{Settlement, Outcome, Close, Branch, place_of}
use Rattle.bb_core.specs.Coverage.{Slot, Mark, Held, MaySettle, slot_at}
use Rattle.bb_core.specs.Machine.{State, Settle, Allowed}
use Rattle.open_pool.specs.Claims.{AreShort}
use Rattle.open_pool.specs.Judged.{Passes}
use Rattle.open_pool.proofs.LawfulLaws.{branch_parts, length_raised}
use Rattle.open_pool.proofs.LevelLists.{same_length_kept}
use Rattle.open_pool.proofs.PoolLaws.{slot-found, slot-got}

pub may_settle : (p : Problem) (slots : List Slot) (caps : List Level) (mark : Mark) (s : Settlement) → s.work.node < length slots → (slot_at slots s.work.node).mark ≡ mark → (slot_at slots s.work.node).place ≡ place_of s.work → Passes p caps (length slots) s → MaySettle p slots caps mark s
may_settle p slots caps mark s l m e h = record {
  held = record { slot = slot_at slots s.work.node; found = slot-found slots s.work.node l; marked = m };
  its_work = e;
  lawful = h.lawful;
  closes = h.closes;
}

pub settle_passes : (p : Problem) (slots : List Slot) (caps : List Level) (mark : Mark) (s : Settlement) → MaySettle p slots caps mark s → Passes p caps (length slots) s
settle_passes p slots caps mark s h = record { lawful = h.lawful; closes = h.closes }

pub settle_below : (p : Problem) (slots : List Slot) (caps : List Level) (mark : Mark) (s : Settlement) → MaySettle p slots caps mark s → s.work.node < length slots
settle_below p slots caps mark s h = (slot-got slots s.work.node h.held.slot h.held.found).0

pub settle_held : (p : Problem) (slots : List Slot) (caps : List Level) (mark : Mark) (s : Settlement) → MaySettle p slots caps mark s → (slot_at slots s.work.node).mark ≡ mark
settle_held p slots caps mark s h = ap (λ (t : Slot). t.mark) (slot-got slots s.work.node h.held.slot h.held.found).1 ∙ h.held.marked

pub settle_place : (p : Problem) (slots : List Slot) (caps : List Level) (mark : Mark) (s : Settlement) → MaySettle p slots caps mark s → (slot_at slots s.work.node).place ≡ place_of s.work
settle_place p slots caps mark s h = ap (λ (t : Slot). t.place) (slot-got slots s.work.node h.held.slot h.held.found).1 ∙ h.its_work

-- the children's lists of levels are as long as the scenarios
pub short_children : (p : Problem) (slots : List Slot) (caps : List Level) (mark : Mark) (s : Settlement) → length p.scenarios ≤ 64 → MaySettle p slots caps mark s → AreShort s.outcome
short_children p slots caps mark s few h = by_outcome s.outcome (settle_passes p slots caps mark s h)
  where
    by_outcome : (o : Outcome) → Passes p caps (length slots) (record s { outcome = o }) → AreShort o
    by_outcome Close g = tt
    by_outcome (Branch stay column v left right ls rs) g =
        let t = branch_parts p caps (length slots) s.work s.cert s.verdicts stay column v left right ls rs g in
        let many : length t.0 ≡ length p.scenarios = length_raised s.work.bounds s.cert p.scenarios (place_of s.work).levels s.verdicts t.0 t.1.raised_to in (
          omega (arith, few, many, same_length_kept stay stay ls t.0 t.2.left_kept),
          omega (arith, few, many, same_length_kept stay stay rs t.0 t.2.right_kept),
        )

pub allowed_short : (p : Problem) (st : State) (a : ℕ) (s : Settlement) (may : Bool) → AreWithin p → MatchBool may (Allowed p st (Settle a s)) (Allowed p st (Settle a s) → ⊥) → may ≡ true → AreShort s.outcome
allowed_short p st a s true limits h e = short_children p st.slots st.caps (Held a) s limits.few_scenarios h.1
allowed_short p st a s false limits h e = absurd (cc)
