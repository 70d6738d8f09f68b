-- An actor holds at most one node, at the start and after each event.
use Rattle.std.specs.Prelude.{◌≡◌, ℕ, zero, suc, List, ◌++◌, slice_get, slice_set, Option, Some, refl, ◌⊎◌}
use Rattle.std.proofs.Common.{ap, sym, ◌∙◌, inl, inr}
use Rattle.scenario_changes.specs.Problems.{Problem}
use Rattle.bb_core.specs.Settlements.{Outcome, Close, Branch}
use Rattle.bb_core.specs.Coverage.{Mark, Closed, Open, Held, Slot, marked_as, slot_at, settled, new_slots}
use Rattle.bb_core.specs.Machine.{State, Event, Claim, Look, Offer, Note, Settle, GiveBack, Sweep, Allowed, after, begin, held_at, HoldsNone}
use Rattle.bb_core.specs.Interleavings.{HoldsOneEach}
use Rattle.bb_core.proofs.ListWrites.{set-get, append-get}

-- a held slot stands where it stood, or was marked so
held_in : List Slot → ℕ → ℕ → Type 0
held_in slots a n = (t : Slot) × (slice_get slots n ≡ Some t) × (t.mark ≡ Held a)

-- where every held slot was held before, the rule stays
fewer : (slots other : List Slot) → HoldsOneEach slots → ((a n : ℕ) → held_in other a n → held_in slots a n) → HoldsOneEach other
unfolding held_in
fewer slots other h less a n m t u e g p q =
    let x = less a n (t, e, p) in
    let y = less a m (u, g, q) in
    h a n m x.0 y.0 x.1 y.1 x.2 y.2

-- a mark that holds nothing
marked-fewer : (slots : List Slot) (n : ℕ) (mark : Mark) → ((a : ℕ) → mark ≡ Held a → ⊥) → (a m : ℕ) → held_in (marked_as slots n mark) a m → held_in slots a m
unfolding held_in
marked-fewer slots n mark none a m h =
    elim (set-get slots n (record (slot_at slots n) { mark = mark }) m h.0 h.1) [
      | inl q ↦ absurd (none a (ap (λ (z : Slot). z.mark) q.1 ∙ h.2))
      | inr q ↦ (h.0, q, h.2)
    ]

new_open : (o : Outcome) (j : ℕ) (u : Slot) (a : ℕ) → slice_get (new_slots o) j ≡ Some u → u.mark ≡ Held a → ⊥
new_open Close j u a e g = absurd (cc)
new_open (Branch stay column v left right ls rs) zero u a e g = let w : Open ≡ u.mark = mark_of e in absurd (cc)
  where
    mark_of : {t : Slot} → Some t ≡ Some u → t.mark ≡ u.mark
    mark_of q = ap (λ (z : Slot). z.mark) (some_same q)
      where
        some_same : {X : Type 0} {y z : X} → ◌≡◌ {A = Option X} (Some y) (Some z) → y ≡ z
        some_same q = cc
new_open (Branch stay column v left right ls rs) (suc zero) u a e g = let w : Open ≡ u.mark = mark_of e in absurd (cc)
  where
    mark_of : {t : Slot} → Some t ≡ Some u → t.mark ≡ u.mark
    mark_of q = ap (λ (z : Slot). z.mark) (some_same q)
      where
        some_same : {X : Type 0} {y z : X} → ◌≡◌ {A = Option X} (Some y) (Some z) → y ≡ z
        some_same q = cc
new_open (Branch stay column v left right ls rs) (suc (suc j)) u a e g = absurd (cc)

held_same : (a b : ℕ) → Held a ≡ Held b → a ≡ b
held_same a b e = cc

claim-one : (slots : List Slot) (a n : ℕ) → HoldsOneEach slots → HoldsNone a slots → HoldsOneEach (marked_as slots n (Held a))
claim-one slots a n h none b i j t u e g p q =
    both (set-get slots n (record (slot_at slots n) { mark = Held a }) i t e) (set-get slots n (record (slot_at slots n) { mark = Held a }) j u g)
  where
    mine : (v : Slot) → ◌≡◌ {A = Slot} (record (slot_at slots n) { mark = Held a }) v → v.mark ≡ Held b → a ≡ b
    mine v w r = held_same a b (ap (λ (z : Slot). z.mark) w ∙ r)

    not_mine : (k : ℕ) (v : Slot) → a ≡ b → slice_get slots k ≡ Some v → v.mark ≡ Held b → ⊥
    not_mine k v w f r = none k v f (r ∙ ap (λ (c : ℕ). Held c) (sym w))

    both : ((i ≡ n) × ◌≡◌ {A = Slot} (record (slot_at slots n) { mark = Held a }) t) ⊎ (slice_get slots i ≡ Some t) → ((j ≡ n) × ◌≡◌ {A = Slot} (record (slot_at slots n) { mark = Held a }) u) ⊎ (slice_get slots j ≡ Some u) → i ≡ j
    both (inl x) (inl y) = x.0 ∙ sym y.0
    both (inl x) (inr y) = absurd (not_mine j u (mine t x.1 p) y q)
    both (inr x) (inl y) = absurd (not_mine i t (mine u y.1 q) x p)
    both (inr x) (inr y) = h b i j t u x y p q

settled-fewer : (slots : List Slot) (new : Slot) (n : ℕ) (o : Outcome) → new.mark ≡ Closed → (a m : ℕ) → held_in (slice_set slots n new ++ new_slots o) a m → held_in slots a m
unfolding held_in
settled-fewer slots new n o c a m h = elim (append-get (slice_set slots n new) (new_slots o) m h.0 h.1) [
  | inl q ↦ (elim (set-get slots n new m h.0 q) [
    | inl r ↦ absurd (let w : Closed ≡ Held a = sym c ∙ ap (λ (z : Slot). z.mark) r.1 ∙ h.2 in cc)
    | inr r ↦ (h.0, r, h.2)
  ])
  | inr q ↦ absurd (new_open o q.0 h.0 a q.2 h.2)
]

pub HoldsOneEach-after : (p : Problem) (st : State) (e : Event) → HoldsOneEach st.slots → Allowed p st e → HoldsOneEach (after p st e).slots
HoldsOneEach-after p st (Claim a n) h w = claim-one st.slots a n h w.1
HoldsOneEach-after p st (Look a k) h w = h
HoldsOneEach-after p st (Offer a k x) h w = h
HoldsOneEach-after p st (Note a) h w = h
HoldsOneEach-after p st (Settle a s) h w = fewer st.slots (settled st.slots s) h (λ b m g. settled-fewer st.slots _ s.work.node s.outcome refl b m g)
HoldsOneEach-after p st (GiveBack a) h w = fewer st.slots (marked_as st.slots (held_at a st.slots) Open) h (λ b m g. marked-fewer st.slots (held_at a st.slots) Open (λ c r. absurd (cc)) b m g)
HoldsOneEach-after p st (Sweep n) h w = fewer st.slots (marked_as st.slots n Closed) h (λ b m g. marked-fewer st.slots n Closed (λ c r. absurd (cc)) b m g)

pub HoldsOneEach-begin : (p : Problem) (actors : ℕ) → HoldsOneEach (begin p actors).slots
HoldsOneEach-begin p actors a zero zero t u e g h r = refl
HoldsOneEach-begin p actors a zero (suc m) t u e g h r = absurd (cc)
HoldsOneEach-begin p actors a (suc n) m t u e g h r = absurd (cc)
