-- Coverage holds at the start and after each event of the machine.
use Rattle.std.specs.Prelude.{◌≡◌, ℕ, zero, suc, List, [], ◌∷◌, slice_index_or, IsTrue}
use Rattle.std.proofs.Common.{subst}
use Rattle.scenario_changes.specs.Problems.{Problem, AreWithin}
use Rattle.certs.specs.Levels.{level_le}
use Rattle.certs.specs.declared.tree.Node.TheVariants.{Rest}
use Rattle.certs.specs.declared.level.Level.{Level}
use Rattle.certs.specs.declared.level.Level.TheVariants.{Inf}
use Rattle.certs.proofs.ClaimLaws.{all_within}
use Rattle.bb_core.specs.Coverage.{Slot, Closed, Open, Held, Stands, Covers}
use Rattle.bb_core.specs.Machine.{State, Event, Claim, Look, Offer, Note, Settle, GiveBack, Sweep, Allowed, after, begin, held_at, lesser_each, view_at, Leads}
use Rattle.bb_core.specs.Interleavings.{WordsHold, HoldsOneEach, Holds}
use Rattle.bb_core.proofs.CoverageLaws.{Covers-root, Covers-marked, Covers-remarked, Covers-made, Covers-levels, Covers-nothing_lost, lesser-le, not_closed}
use Rattle.bb_core.proofs.HeldLaws.{HoldsOneEach-begin, HoldsOneEach-after}
use Rattle.bb_core.proofs.WordLaws.{WordsHold-begin, WordsHold-after, finished}

-- ---- caps

lesser_each-le : (caps view : List Level) (k : ℕ) (l : Level) → IsTrue (level_le (slice_index_or caps k Inf) l) → IsTrue (level_le (slice_index_or (lesser_each caps view) k Inf) l)
lesser_each-le [] view k l h = h
lesser_each-le (a ∷ caps) [] k l h = h
lesser_each-le (a ∷ caps) (b ∷ view) zero l h = lesser-le a b l h
lesser_each-le (a ∷ caps) (b ∷ view) (suc k) l h = lesser_each-le caps view k l h

Covers-lowered : (p : Problem) (slots : List Slot) (caps view : List Level) → Covers p slots caps → Covers p slots (lesser_each caps view)
Covers-lowered p slots caps view h = record {
  tree = h.tree;
  unsettled = h.unsettled;
  closed = λ n t e c k l g. lesser_each-le caps view k l (h.closed n t e c k l g);
}

-- ---- events

pub Covers-after : (p : Problem) (st : State) (e : Event) → Covers p st.slots st.caps → Allowed p st e → Covers p (after p st e).slots (after p st e).caps
Covers-after p st (Claim a n) h w = Covers-remarked p st.slots st.caps n Open (Held a) h w.2 (λ e. absurd (cc)) (λ e. absurd (cc))
Covers-after p st (Look a k) h w = h
Covers-after p st (Offer a k x) h w = h
Covers-after p st (Note a) h w = Covers-lowered p st.slots st.caps (view_at st a) h
Covers-after p st (Settle a s) h w = Covers-made p st.slots st.caps (Held a) s h (λ e. absurd (cc)) w.1
Covers-after p st (GiveBack a) h w = Covers-remarked p st.slots st.caps (held_at a st.slots) (Held a) Open h w.1 (λ e. absurd (cc)) (λ e. absurd (cc))
Covers-after p st (Sweep n) h w =
    let t : Stands st.slots n Open = w.waiting in
    let rest : t.slot.node ≡ Rest = h.unsettled n t.slot t.found (not_closed t.slot.mark t.marked) in
    Covers-marked p st.slots st.caps h n t.slot t.found rest Closed (λ c. w.closes)

-- ---- lists of events

all_three : (p : Problem) (st : State) (es : List Event) (last : State) → Covers p st.slots st.caps → WordsHold p st → HoldsOneEach st.slots → Leads p st es last → Covers p last.slots last.caps × WordsHold p last × HoldsOneEach last.slots
all_three p st [] last h g o w = subst (λ (q : State). Covers p q.slots q.caps × WordsHold p q × HoldsOneEach q.slots) w (h, g, o)
all_three p st (e ∷ es) last h g o w = all_three p (after p st e) es last (Covers-after p st e h w.0) (WordsHold-after p st e g w.0) (HoldsOneEach-after p st e o w.0) w.1

pub led-holds : (p : Problem) → AreWithin p → (actors : ℕ) (es : List Event) (last : State) → Leads p (begin p actors) es last → Holds p last
led-holds p limits actors es last w =
    let t = all_three p (begin p actors) es last (Covers-root p (begin p actors).caps) (WordsHold-begin p actors) (HoldsOneEach-begin p actors) w in
    record {
      covered = t.0;
      words = t.1;
      levels = Covers-levels p (all_within p limits) last.slots last.caps t.0;
      kept = Covers-nothing_lost p (all_within p limits) last.slots last.caps t.0;
      held = t.2;
      optima = finished p (all_within p limits) last t.0 t.1;
    }
