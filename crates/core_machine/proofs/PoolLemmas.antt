-- A pool as a part of the machine.
use Rattle.std.specs.Prelude.{◌≡◌, ℕ, zero, suc, ◌+◌, ◌<◌, ◌≤◌, List, [], ◌∷◌, ◌++◌, length, slice_get, slice_set, slice_index_or, Some, true, false, refl}
use Rattle.std.proofs.Common.{arith, ap, sym, ◌∙◌, subst}
use Rattle.std.proofs.lemmas.List.{map-append, map-set, length-map}
use Rattle.int_model.specs.Programs.{Program}
use Rattle.scenario_changes.specs.Problems.{Problem, AreWithin}
use Rattle.certs.specs.Levels.{lesser_level}
use Rattle.certs.specs.declared.level.Level.{Level}
use Rattle.certs.specs.declared.level.Level.TheVariants.{Value, Inf}
use Rattle.bb_core.specs.Settlements.{Settlement, Outcome, Close, Branch, IsLawful, place_of, recorded}
use Rattle.certs.specs.Trees.{end_levels}
use Rattle.bb_core.specs.Coverage.{Slot, Mark, Closed, Open, Held, Stands, MaySettle, ReachesCaps, slot_at, marked_as, settled, new_slots}
use Rattle.bb_core.specs.Machine as machine
use Rattle.bb_core.specs.Machine.{State, Allowed, HasRoom, HoldsNone, Reached, after, begin, held_at, lesser_each, view_at, word_at}
use Rattle.bb_core.specs.Interleavings.{HoldsOneEach, IsFinished, IsOptimum}
use Rattle.bb_core.proofs.ListWrites.{map-get}
use Rattle.bb_core.proofs.MachineLaws.{led-holds}
use Rattle.open_pool.specs.Marks.{claimed, is_held_by}
use Rattle.open_pool.specs.Pooled.{Pooled, HasNone, begun, is_claimed, reopened}
use Rattle.open_pool.specs.Claims.{IsClaim, IsSettled, IsSplit}
use Rattle.open_pool.proofs.PoolLaws.{slot-found, slot-got}
use Rattle.open_pool.specs.declared.pool.Claim.{Claim}
use Rattle.open_pool.specs.declared.pool.Claim.TheVariants.{Node, Wait, Done, Stopped}
use Rattle.open_pool.specs.declared.pool.Settled.{Settled}
use Rattle.open_pool.specs.declared.pool.Settled.TheVariants.{Closed as IsClosed, Split, Halted, Stray}
use Rattle.core_machine.specs.Pools.{IsPart, IsEvent, IsClaimBy, AreLesser, answer_event, pool_mark, pool_slot, pool_slots}
use Rattle.core_machine.proofs.SlotLaws.{held_first, stands_below}

-- ---- nodes of the part

get_part : (slots : List Slot) (n : ℕ) (t : Slot) → slice_get slots n ≡ Some t → slice_get (pool_slots slots) n ≡ Some (pool_slot t)
get_part [] n t e = absurd (cc)
get_part (u ∷ slots) zero t e = ap (λ (v : Slot). Some (pool_slot v)) (let g : u ≡ t = cc in g)
get_part (u ∷ slots) (suc n) t e = get_part slots n t e

slot_part : (slots : List Slot) (n : ℕ) → slot_at (pool_slots slots) n ≡ pool_slot (slot_at slots n)
slot_part [] n = refl
slot_part (u ∷ slots) zero = refl
slot_part (u ∷ slots) (suc n) = slot_part slots n

marked_part : (slots : List Slot) (n : ℕ) (mark : Mark) → marked_as (pool_slots slots) n (pool_mark mark) ≡ pool_slots (marked_as slots n mark)
marked_part slots n mark =
    ap (λ (t : Slot). slice_set (pool_slots slots) n (record t { mark = pool_mark mark })) (slot_part slots n)
    ∙ sym (map-set pool_slot slots n (record (slot_at slots n) { mark = mark }))

new_part : (o : Outcome) → pool_slots (new_slots o) ≡ new_slots o
new_part Close = refl
new_part (Branch stay column v left right ls rs) = refl

long_part : (slots : List Slot) → length (pool_slots slots) ≡ length slots
long_part slots = length-map slots pool_slot

settled_part : (slots : List Slot) (s : Settlement) → settled (pool_slots slots) s ≡ pool_slots (settled slots s)
settled_part slots s =
    let done : ℕ → Slot = λ (k : ℕ). record { node = recorded k s.cert s.verdicts s.outcome; place = place_of s.work; mark = Closed } in
    let first : slice_set (pool_slots slots) s.work.node (done (length (pool_slots slots))) ≡ pool_slots (slice_set slots s.work.node (done (length slots))) =
    ap (λ (k : ℕ). slice_set (pool_slots slots) s.work.node (done k)) (long_part slots) ∙ sym (map-set pool_slot slots s.work.node (done (length slots))) in
    ap (λ (ts : List Slot). ts ++ new_slots s.outcome) first
    ∙ ap (λ (ts : List Slot). pool_slots (slice_set slots s.work.node (done (length slots))) ++ ts) (sym (new_part s.outcome))
    ∙ sym (map-append pool_slot (slice_set slots s.work.node (done (length slots))) (new_slots s.outcome))

-- ---- marks

open_mark : (m : Mark) → pool_mark m ≡ Open → m ≡ Open
open_mark Closed e = absurd (cc)
open_mark Open e = refl
open_mark (Held a) e = absurd (cc)

open_stands : (slots : List Slot) (n : ℕ) → Stands (pool_slots slots) n Open → Stands slots n Open
open_stands slots n h =
    let g = map-get pool_slot slots n h.slot h.found in
    record { slot = g.0; found = g.1; marked = open_mark g.0.mark (ap (λ (t : Slot). t.mark) g.2 ∙ h.marked) }

finished_part : (slots : List Slot) → HasNone (pool_slots slots) Open → HasNone (pool_slots slots) claimed → IsFinished slots
finished_part slots no_open no_claimed n t e = by_mark t.mark refl
  where
    by_mark : (m : Mark) → t.mark ≡ m → t.mark ≡ Closed
    by_mark Closed g = g
    by_mark Open g = absurd (no_open n (pool_slot t) (get_part slots n t e) (ap pool_mark g))
    by_mark (Held a) g = absurd (no_claimed n (pool_slot t) (get_part slots n t e) (ap pool_mark g))

-- ---- settlements

lawful_long : (p : Problem) (k m : ℕ) (s : Settlement) → k ≡ m → IsLawful p k s → IsLawful p m s
lawful_long p k m s e h = subst (λ (i : ℕ). IsLawful p i s) e h

closes_long : (p : Problem) (caps : List Level) (k m : ℕ) (s : Settlement) → k ≡ m → ReachesCaps caps (end_levels p (place_of s.work) (recorded k s.cert s.verdicts s.outcome)) → ReachesCaps caps (end_levels p (place_of s.work) (recorded m s.cert s.verdicts s.outcome))
closes_long p caps k m s e h = subst (λ (i : ℕ). ReachesCaps caps (end_levels p (place_of s.work) (recorded i s.cert s.verdicts s.outcome))) e h

one_slot : (slots : List Slot) (n : ℕ) (t u : Slot) → slice_get slots n ≡ Some t → slice_get slots n ≡ Some u → t ≡ u
one_slot slots n t u e g = sym (slot-got slots n t e).1 ∙ (slot-got slots n u g).1

to_part : (p : Problem) (slots : List Slot) (caps : List Level) (a : ℕ) (s : Settlement) → MaySettle p slots caps (Held a) s → MaySettle p (pool_slots slots) caps claimed s
to_part p slots caps a s h = record {
  held = record { slot = pool_slot h.held.slot; found = get_part slots s.work.node h.held.slot h.held.found; marked = ap pool_mark h.held.marked };
  its_work = h.its_work;
  lawful = lawful_long p (length slots) (length (pool_slots slots)) s (sym (long_part slots)) h.lawful;
  closes = closes_long p caps (length slots) (length (pool_slots slots)) s (sym (long_part slots)) h.closes;
}

from_part : (p : Problem) (slots : List Slot) (caps : List Level) (a : ℕ) (s : Settlement) → Stands slots s.work.node (Held a) → MaySettle p (pool_slots slots) caps claimed s → MaySettle p slots caps (Held a) s
from_part p slots caps a s t h =
    let same : pool_slot t.slot ≡ h.held.slot = one_slot (pool_slots slots) s.work.node (pool_slot t.slot) h.held.slot (get_part slots s.work.node t.slot t.found) h.held.found in
    record {
      held = t;
      its_work = ap (λ (u : Slot). u.place) same ∙ h.its_work;
      lawful = lawful_long p (length (pool_slots slots)) (length slots) s (long_part slots) h.lawful;
      closes = closes_long p caps (length (pool_slots slots)) (length slots) s (long_part slots) h.closes;
    }

pub judged-alike : (p : Problem) (slots : List Slot) (caps : List Level) (a : ℕ) (s : Settlement) → Stands slots s.work.node (Held a) → (MaySettle p slots caps (Held a) s → MaySettle p (pool_slots slots) caps claimed s) × (MaySettle p (pool_slots slots) caps claimed s → MaySettle p slots caps (Held a) s)
judged-alike p slots caps a s t = (to_part p slots caps a s, from_part p slots caps a s t)

-- ---- the pool's calls

pub begins : (p : Problem) (nodes actors : ℕ) → IsPart p (begun p nodes) (begin p actors)
begins p nodes actors = record { problem = refl; slots = refl; caps = refl }

part_same : (p : Problem) (q now : Pooled) (st : State) → now ≡ q → IsPart p q st → IsPart p now st
part_same p q now st e h = subst (λ (x : Pooled). IsPart p x st) (sym e) h

-- a pool with other slots, where they are those of the state after
part_slots : (p : Problem) (was now : Pooled) (st next : State) (slots : List Slot) → IsPart p was st → next.caps ≡ st.caps → now ≡ record was { slots = slots } → slots ≡ pool_slots next.slots → IsPart p now next
part_slots p was now st next slots h c e g = part_same p (record was { slots = slots }) now next e (record { problem = h.problem; slots = g; caps = h.caps ∙ sym c })

pub claimed-by : (p : Problem) (st : State) (a : ℕ) (was now : Pooled) (c : Claim) → IsPart p was st → a < length st.views → HoldsNone a st.slots → IsClaim was now c → IsClaimBy p st a now c
claimed-by p st a was now (Node w) h l none g = record {
  allowed = (l, none, open_stands st.slots w.node (subst (λ (slots : List Slot). Stands slots w.node Open) h.slots g.1.open_here));
  part = part_slots p was now st (after p st (machine.Claim a w.node)) (marked_as was.slots w.node claimed) h refl g.3 (ap (λ (slots : List Slot). marked_as slots w.node claimed) h.slots ∙ marked_part st.slots w.node (Held a));
}
claimed-by p st a was now Wait h l none g = part_same p was now st g.3 h
claimed-by p st a was now Done h l none g = (
  part_same p was now st g.3 h,
  finished_part st.slots (subst (λ (slots : List Slot). HasNone slots Open) h.slots g.1) (subst (λ (slots : List Slot). HasNone slots claimed) h.slots g.2),
)
claimed-by p st a was now Stopped h l none g = part_same p was now st g.1 h

pub done-optima : (p : Problem) (st : State) (was now : Pooled) → AreWithin p → Reached p st → IsPart p was st → IsClaim was now Done → (k : ℕ) (s : Program) → slice_get p.scenarios k ≡ Some s → IsOptimum s (word_at st k)
done-optima p st was now limits reached h g =
    let none_open : HasNone (pool_slots st.slots) Open = subst (λ (slots : List Slot). HasNone slots Open) h.slots g.1 in
    let none_claimed : HasNone (pool_slots st.slots) claimed = subst (λ (slots : List Slot). HasNone slots claimed) h.slots g.2 in
    (led-holds p limits reached.actors reached.events st reached.led).optima (finished_part st.slots none_open none_claimed)

may_here : (p : Problem) (was : Pooled) (st : State) (a : ℕ) (s : Settlement) → IsPart p was st → Stands st.slots s.work.node (Held a) → MaySettle was.problem was.slots was.caps claimed s → MaySettle p st.slots st.caps (Held a) s
may_here p was st a s h t m = from_part p st.slots st.caps a s t
    (subst (λ (x : Problem). MaySettle x (pool_slots st.slots) st.caps claimed s) h.problem
    (subst (λ (x : List Slot). MaySettle was.problem x st.caps claimed s) h.slots
    (subst (λ (x : List Level). MaySettle was.problem was.slots x claimed s) h.caps m)))

closes_has_room : (count : ℕ) (o : Outcome) → (IsSplit o → ⊥) → HasRoom count o
closes_has_room count Close w = tt
closes_has_room count (Branch stay column v left right ls rs) w = absurd (w tt)

splits_has_room : (count nodes : ℕ) (o : Outcome) → nodes ≤ 100001 → count + 2 ≤ nodes → HasRoom count o
splits_has_room count nodes Close few l = tt
splits_has_room count nodes (Branch stay column v left right ls rs) few l = omega (arith, few, l)

part_long : (p : Problem) (was : Pooled) (st : State) → IsPart p was st → length was.slots ≡ length st.slots
part_long p was st h = ap (λ (slots : List Slot). length slots) h.slots ∙ long_part st.slots

recorded_event : (p : Problem) (st : State) (a : ℕ) (was now : Pooled) (s : Settlement) → IsPart p was st → a < length st.views → Stands st.slots s.work.node (Held a) → MaySettle was.problem was.slots was.caps claimed s → HasRoom (length st.slots) s.outcome → now ≡ record was { slots = settled was.slots s } → IsEvent p st (machine.Settle a s) now
recorded_event p st a was now s h l t m room e = record {
  allowed = (l, may_here p was st a s h t m, room);
  part = part_slots p was now st (after p st (machine.Settle a s)) (settled was.slots s) h refl e (ap (λ (slots : List Slot). settled slots s) h.slots ∙ settled_part st.slots s);
}

-- ---- nodes that are given back

held_here : (slots : List Slot) (a n : ℕ) → HoldsOneEach slots → Stands slots n (Held a) → n ≡ held_at a slots
held_here slots a n one t =
    let mine : (slot_at slots n).mark ≡ Held a = ap (λ (u : Slot). u.mark) (slot-got slots n t.slot t.found).1 ∙ t.marked in
    (held_first a slots n (stands_below slots n (Held a) t) before mine).0
  where
    before : (m : ℕ) → m < n → (slot_at slots m).mark ≡ Held a → ⊥
    before m l e =
        let below : n < length slots = stands_below slots n (Held a) t in
        let same : m ≡ n = one a m n (slot_at slots m) t.slot (slot-found slots m (omega (arith, l, below))) t.found e t.marked in
        absurd (omega (arith, l, same))

reopened_part : (slots : List Slot) (a n : ℕ) → Stands slots n (Held a) → reopened (pool_slots slots) n ≡ pool_slots (marked_as slots n Open)
reopened_part slots a n t =
    let mine : (slot_at slots n).mark ≡ Held a = ap (λ (u : Slot). u.mark) (slot-got slots n t.slot t.found).1 ∙ t.marked in
    let yes : is_claimed (pool_slots slots) n ≡ true = ap (λ (u : Slot). is_held_by 0 u.mark) (slot_part slots n) ∙ ap (λ (m : Mark). is_held_by 0 (pool_mark m)) mine in
    rw yes (marked_part slots n Open)

pub given-back : (p : Problem) (st : State) (a n : ℕ) (was now : Pooled) → IsPart p was st → a < length st.views → HoldsOneEach st.slots → Stands st.slots n (Held a) → now.problem ≡ was.problem → now.caps ≡ was.caps → now.slots ≡ reopened was.slots n → IsEvent p st (machine.GiveBack a) now
given-back p st a n was now h l one t ep ec es =
    let here : n ≡ held_at a st.slots = held_here st.slots a n one t in
    record {
      allowed = (l, subst (λ (m : ℕ). Stands st.slots m (Held a)) here t);
      part = record {
        problem = ep ∙ h.problem;
        slots = es ∙ ap (λ (slots : List Slot). reopened slots n) h.slots ∙ reopened_part st.slots a n t ∙ ap (λ (m : ℕ). pool_slots (marked_as st.slots m Open)) here;
        caps = ec ∙ h.caps;
      };
    }

held_stands : (slots : List Slot) (n a : ℕ) → (slot_at slots n).mark ≡ Held a → Stands slots n (Held a)
held_stands [] n a e = absurd (let g : Closed ≡ Held a = e in cc)
held_stands (t ∷ slots) zero a e = record { slot = t; found = refl; marked = e }
held_stands (t ∷ slots) (suc n) a e =
    let h = held_stands slots n a e in record { slot = h.slot; found = h.found; marked = h.marked }

unclaimed : (slots : List Slot) (n : ℕ) → ((a : ℕ) → Stands slots n (Held a) → ⊥) → is_claimed (pool_slots slots) n ≡ false
unclaimed slots n none = ap (λ (u : Slot). is_held_by 0 u.mark) (slot_part slots n) ∙ by_mark (slot_at slots n).mark refl
  where
    by_mark : (m : Mark) → (slot_at slots n).mark ≡ m → is_held_by 0 (pool_mark (slot_at slots n).mark) ≡ false
    by_mark Closed e = ap (λ (m : Mark). is_held_by 0 (pool_mark m)) e
    by_mark Open e = ap (λ (m : Mark). is_held_by 0 (pool_mark m)) e
    by_mark (Held a) e = absurd (none a (held_stands slots n a e))

pub stays-part : (p : Problem) (st : State) (n : ℕ) (was now : Pooled) → IsPart p was st → ((a : ℕ) → Stands st.slots n (Held a) → ⊥) → now ≡ record was { slots = reopened was.slots n } → IsPart p now st
stays-part p st n was now h none e =
    let no : is_claimed (pool_slots st.slots) n ≡ false = unclaimed st.slots n none in
    let same : reopened (pool_slots st.slots) n ≡ pool_slots st.slots = rw no refl in
    part_slots p was now st st (reopened was.slots n) h refl e (ap (λ (slots : List Slot). reopened slots n) h.slots ∙ same)

pub reopened-by : (p : Problem) (st : State) (a n : ℕ) (was now : Pooled) → IsPart p was st → a < length st.views → HoldsOneEach st.slots → Stands st.slots n (Held a) → now ≡ record was { slots = reopened was.slots n } → IsEvent p st (machine.GiveBack a) now
reopened-by p st a n was now h l one t e = given-back p st a n was now h l one t (ap (λ (q : Pooled). q.problem) e) (ap (λ (q : Pooled). q.caps) e) (ap (λ (q : Pooled). q.slots) e)

pub answered-by : (p : Problem) (st : State) (a : ℕ) (was now : Pooled) (s : Settlement) (r : Settled) → IsPart p was st → was.nodes ≤ 100001 → a < length st.views → HoldsOneEach st.slots → Stands st.slots s.work.node (Held a) → IsSettled was s now r → IsEvent p st (answer_event a s r) now
answered-by p st a was now s IsClosed h few l one t g = recorded_event p st a was now s h l t g.0 (closes_has_room (length st.slots) s.outcome g.1) g.2
answered-by p st a was now s Split h few l one t g = recorded_event p st a was now s h l t g.0 (splits_has_room (length st.slots) was.nodes s.outcome few (let same : length was.slots ≡ length st.slots = part_long p was st h in omega (arith, same, g.2))) g.3
answered-by p st a was now s Halted h few l one t g = given-back p st a s.work.node was now h l one t (ap (λ (q : Pooled). q.problem) g.3) (ap (λ (q : Pooled). q.caps) g.3) (ap (λ (q : Pooled). q.slots) g.3)
answered-by p st a was now s Stray h few l one t g = reopened-by p st a s.work.node was now h l one t g.1

-- ---- caps

pub noted-by : (p : Problem) (st : State) (a : ℕ) (was now : Pooled) → IsPart p was st → a < length st.views → now ≡ record was { caps = lesser_each was.caps (view_at st a) } → IsEvent p st (machine.Note a) now
noted-by p st a was now h l e = record {
  allowed = l;
  part = part_same p (record was { caps = lesser_each was.caps (view_at st a) }) now (after p st (machine.Note a)) e (record { problem = h.problem; slots = h.slots; caps = ap (λ (caps : List Level). lesser_each caps (view_at st a)) h.caps });
}

lesser_none : (a : Level) → lesser_level a Inf ≡ a
lesser_none (Value v) = refl
lesser_none Inf = refl

each_lesser : (was now others : List Level) → length now ≡ length was → ((k : ℕ) → k < length was → slice_index_or now k Inf ≡ lesser_level (slice_index_or was k Inf) (slice_index_or others k Inf)) → now ≡ lesser_each was others
each_lesser [] [] others e h = refl
each_lesser [] (b ∷ now) others e h = absurd (omega (arith, e))
each_lesser (a ∷ was) [] others e h = absurd (omega (arith, e))
each_lesser (a ∷ was) (b ∷ now) [] e h =
    let first : b ≡ a = h 0 (omega arith) ∙ lesser_none a in
    let rest : now ≡ lesser_each was [] = each_lesser was now [] (omega (arith, e)) (λ k l. h (suc k) (omega (arith, l))) in
    ap (λ (l : Level). l ∷ now) first ∙ ap (λ (ls : List Level). a ∷ ls) (rest ∙ lesser_nothing was)
  where
    lesser_nothing : (ls : List Level) → lesser_each ls [] ≡ ls
    lesser_nothing [] = refl
    lesser_nothing (l ∷ ls) = refl
each_lesser (a ∷ was) (b ∷ now) (o ∷ others) e h =
    let first : b ≡ lesser_level a o = h 0 (omega arith) in
    let rest : now ≡ lesser_each was others = each_lesser was now others (omega (arith, e)) (λ k l. h (suc k) (omega (arith, l))) in
    ap (λ (l : Level). l ∷ now) first ∙ ap (λ (ls : List Level). lesser_level a o ∷ ls) rest

pub lowered-by : (p : Problem) (st : State) (a : ℕ) (was now : Pooled) → IsPart p was st → a < length st.views → AreLesser was.caps now.caps (view_at st a) → now ≡ record was { caps = now.caps } → IsEvent p st (machine.Note a) now
lowered-by p st a was now h l g e = noted-by p st a was now h l (e ∙ ap (λ (caps : List Level). record was { caps = caps }) (each_lesser was.caps now.caps (view_at st a) g.count g.each))
