-- Each reached state has the lengths that it should.
use Rattle.std.specs.Prelude.{◌≡◌, ℕ, zero, suc, ◌+◌, ◌<◌, ◌^◌, List, [], ◌∷◌, ◌++◌, length, replicate, slice_get, slice_set, slice_index_or, Some, refl}
use Rattle.std.proofs.Common.{arith, ap, sym, ◌∙◌, subst, inl, inr}
use Rattle.std.proofs.lemmas.List.{length-set, length-append, length-replicate}
use Rattle.scenario_changes.specs.Problems.{Problem, AreWithin}
use Rattle.certs.specs.declared.level.Level.{Level}
use Rattle.certs.specs.declared.level.Level.TheVariants.{Inf}
use Rattle.certs.proofs.ClaimLaws.{all_within}
use Rattle.bb_core.specs.Settlements.{Outcome, Close, Branch}
use Rattle.bb_core.specs.Coverage.{Slot, Mark, Closed, Open, Held, Stands, marked_as, slot_at, new_slots}
use Rattle.bb_core.specs.Machine.{State, Event, Claim, Look, Offer, Note, Settle, GiveBack, Sweep, Allowed, HasRoom, after, begin, held_at, lesser_each, view_at, seen, Leads, Reached}
use Rattle.bb_core.proofs.ListWrites.{set-get}
use Rattle.open_pool.specs.Judged.{AreWide}
use Rattle.open_pool.proofs.PoolLaws.{slot-got}
use Rattle.open_pool.proofs.WideLemmas.{wide_root, wide_marked, wide_settled}
use Rattle.core_machine.specs.Shapes.{IsShaped}

-- ---- lists

-- a view of an actor that there is
pub view_found : {X : Type 0} (xs : List X) (a : ℕ) (d : X) → a < length xs → slice_get xs a ≡ Some (slice_index_or xs a d)
view_found [] a d h = absurd (omega arith)
view_found (x ∷ xs) zero d h = refl
view_found (x ∷ xs) (suc a) d h = view_found xs a d (omega arith)

length-lesser : (caps view : List Level) → length (lesser_each caps view) ≡ length caps
length-lesser [] [] = refl
length-lesser [] (b ∷ view) = refl
length-lesser (a ∷ caps) [] = refl
length-lesser (a ∷ caps) (b ∷ view) = ap suc (length-lesser caps view)

replicate-get : {X : Type 0} (m a : ℕ) (x y : X) → slice_get (replicate m x) a ≡ Some y → x ≡ y
replicate-get zero a x y e = absurd (cc)
replicate-get (suc m) zero x y e = cc
replicate-get (suc m) (suc a) x y e = replicate-get m a x y e

-- ---- nodes

marked_wide : (columns : ℕ) (slots : List Slot) (n : ℕ) (was mark : Mark) → AreWide columns slots → Stands slots n was → AreWide columns (marked_as slots n mark)
marked_wide columns slots n was mark h t = wide_marked columns slots n t.slot (record (slot_at slots n) { mark = mark }) h t.found (ap (λ (z : Slot). z.place) (slot-got slots n t.slot t.found).1)

marked_few : (slots : List Slot) (n : ℕ) (mark : Mark) → length slots < 2 ^ 32 → length (marked_as slots n mark) < 2 ^ 32
marked_few slots n mark h = let e : length (marked_as slots n mark) ≡ length slots = length-set slots n (record (slot_at slots n) { mark = mark }) in subst (λ (k : ℕ). k < 2 ^ 32) (sym e) h

settled_few : (slots : List Slot) (new : Slot) (n : ℕ) (o : Outcome) → length slots < 2 ^ 32 → HasRoom (length slots) o → length (slice_set slots n new ++ new_slots o) < 2 ^ 32
settled_few slots new n Close h r =
    let e : length (slice_set slots n new ++ []) ≡ length slots = omega (arith, length-append (slice_set slots n new) [], length-set slots n new) in subst (λ (k : ℕ). k < 2 ^ 32) (sym e) h
settled_few slots new n (Branch stay column v left right ls rs) h r =
    let e : length (slice_set slots n new ++ new_slots (Branch stay column v left right ls rs)) ≡ length slots + 2 = omega (arith, length-append (slice_set slots n new) (new_slots (Branch stay column v left right ls rs)), length-set slots n new) in subst (λ (k : ℕ). k < 2 ^ 32) (sym e) r

-- ---- views

seen_long : (p : Problem) (st : State) (a k : ℕ) (l : Level) → IsShaped p st → a < length st.views → (b : ℕ) (view : List Level) → slice_get (seen st a k l) b ≡ Some view → length view ≡ length p.scenarios
seen_long p st a k l h lt b view e = elim (set-get st.views a (slice_set (view_at st a) k l) b view e) [
  | inl q ↦ ap length (sym q.1) ∙ length-set (view_at st a) k l ∙ h.views a (view_at st a) (view_found st.views a [] lt)
  | inr q ↦ h.views b view q
]

-- ---- events

pub shaped-after : (p : Problem) (st : State) (e : Event) → IsShaped p st → Allowed p st e → IsShaped p (after p st e)
shaped-after p st (Claim a n) h w = record { limits = h.limits; caps = h.caps; words = h.words; views = h.views; wide = marked_wide p.columns st.slots n Open (Held a) h.wide w.2; few = marked_few st.slots n (Held a) h.few }
shaped-after p st (Look a k) h w = record { limits = h.limits; caps = h.caps; words = h.words; views = seen_long p st a k _ h w.0; wide = h.wide; few = h.few }
shaped-after p st (Offer a k x) h w = record { limits = h.limits; caps = h.caps; words = length-set st.words k _ ∙ h.words; views = seen_long p st a k _ h w.0; wide = h.wide; few = h.few }
shaped-after p st (Note a) h w = record { limits = h.limits; caps = length-lesser st.caps (view_at st a) ∙ h.caps; words = h.words; views = h.views; wide = h.wide; few = h.few }
shaped-after p st (Settle a s) h w = record { limits = h.limits; caps = h.caps; words = h.words; views = h.views; wide = wide_settled p (all_within p h.limits) st.slots st.caps h.wide s w.1; few = settled_few st.slots _ s.work.node s.outcome h.few w.2 }
shaped-after p st (GiveBack a) h w = record { limits = h.limits; caps = h.caps; words = h.words; views = h.views; wide = marked_wide p.columns st.slots (held_at a st.slots) (Held a) Open h.wide w.1; few = marked_few st.slots (held_at a st.slots) Open h.few }
shaped-after p st (Sweep n) h w = record { limits = h.limits; caps = h.caps; words = h.words; views = h.views; wide = marked_wide p.columns st.slots n Open Closed h.wide w.waiting; few = marked_few st.slots n Closed h.few }

shaped-begin : (p : Problem) (actors : ℕ) → AreWithin p → IsShaped p (begin p actors)
shaped-begin p actors limits = record {
  limits = limits;
  caps = length-replicate (length p.scenarios) Inf;
  words = length-replicate (length p.scenarios) Inf;
  views = λ a view e. ap length (sym (replicate-get actors a (replicate (length p.scenarios) Inf) view e)) ∙ length-replicate (length p.scenarios) Inf;
  wide = wide_root p limits;
  few = omega arith;
}

shaped-led : (p : Problem) (st : State) (es : List Event) (last : State) → IsShaped p st → Leads p st es last → IsShaped p last
shaped-led p st [] last h w = subst (λ (q : State). IsShaped p q) w h
shaped-led p st (e ∷ es) last h w = shaped-led p (after p st e) es last (shaped-after p st e h w.0) w.1

pub shaped-reached : (p : Problem) (st : State) → AreWithin p → Reached p st → IsShaped p st
shaped-reached p st limits h = shaped-led p (begin p h.actors) h.events st (shaped-begin p h.actors limits) h.led
