-- The least level over the ends.
use Rattle.std.specs.Prelude.{◌≡◌, ℕ, zero, suc, ◌<◌, ℤ, List, [], ◌∷◌, ◌++◌, length, slice_get, slice_index_or, slice_set, filter_map, Bool, true, false, cond, IsTrue, Option, Some, None, refl}
use Rattle.std.proofs.Common.{arith, ap, sym, ◌∙◌}
use Rattle.std.proofs.lemmas.Int.{ints}
use Rattle.certs.specs.Levels.{level_le, lesser_level, least_level}
use Rattle.scenario_changes.specs.Problems.{Problem}
use Rattle.certs.specs.Trees.{Place, end_levels}
use Rattle.certs.specs.Claims.{bound_of}
use Rattle.bb_core.specs.Coverage.{Slot, Mark, Closed, Open, Held, settled, new_slots, placed_of, slot_at}
use Rattle.bb_core.specs.Settlements.{Settlement, Outcome, Close, Branch, recorded, place_of}
use Rattle.certs.specs.declared.tree.Node.{Node}
use Rattle.certs.specs.declared.tree.Node.TheVariants.{Rest}
use Rattle.certs.specs.declared.level.Level.{Level}
use Rattle.certs.specs.declared.level.Level.TheVariants.{Value, Inf}
use Rattle.open_pool.specs.Marks.{lesser_than}
use Rattle.open_pool.specs.Ends.{closed_level, waiting_level, closed_bound, waiting_bound}
use Rattle.open_pool.proofs.PoolLaws.{level_le-self, level_le-trans, level_le-else}

-- ---- the lesser of two levels is the greatest that is at most both

antisym : (a b : Level) → IsTrue (level_le a b) → IsTrue (level_le b a) → a ≡ b
antisym (Value a) (Value b) g h = let e : a ≡ b = omega (arith, ints, g, h) in ap (λ (z : ℤ). Value z) e
antisym (Value a) Inf g h = absurd (cc)
antisym Inf (Value b) g h = absurd (cc)
antisym Inf Inf g h = refl

to_left : (a b : Level) → IsTrue (level_le (lesser_level a b) a)
to_left a b = by_test (level_le a b) refl
  where
    by_test : (t : Bool) → level_le a b ≡ t → IsTrue (level_le (cond t a b) a)
    by_test true e = level_le-self a
    by_test false e = level_le-else a b e

to_right : (a b : Level) → IsTrue (level_le (lesser_level a b) b)
to_right a b = by_test (level_le a b) refl
  where
    by_test : (t : Bool) → level_le a b ≡ t → IsTrue (level_le (cond t a b) b)
    by_test true e = e
    by_test false e = level_le-self b

under_both : (x a b : Level) → IsTrue (level_le x a) → IsTrue (level_le x b) → IsTrue (level_le x (lesser_level a b))
under_both x a b g h = by_test (level_le a b)
  where
    by_test : (t : Bool) → IsTrue (level_le x (cond t a b))
    by_test true = g
    by_test false = h

lesser_assoc : (a b c : Level) → lesser_level (lesser_level a b) c ≡ lesser_level a (lesser_level b c)
lesser_assoc a b c =
    let l = lesser_level (lesser_level a b) c in
    let r = lesser_level a (lesser_level b c) in
    let ab = lesser_level a b in
    let bc = lesser_level b c in
    antisym l r
    (under_both l a bc (level_le-trans l ab a (to_left ab c) (to_left a b)) (under_both l b c (level_le-trans l ab b (to_left ab c) (to_right a b)) (to_right ab c)))
    (under_both r ab c (under_both r a b (to_left a bc) (level_le-trans r bc b (to_right a bc) (to_left b c))) (level_le-trans r bc c (to_right a bc) (to_right b c)))

lesser_swap : (a b c : Level) → lesser_level a (lesser_level b c) ≡ lesser_level b (lesser_level a c)
lesser_swap a b c =
    let l = lesser_level a (lesser_level b c) in
    let r = lesser_level b (lesser_level a c) in
    let ac = lesser_level a c in
    let bc = lesser_level b c in
    antisym l r
    (under_both l b ac (level_le-trans l bc b (to_right a bc) (to_left b c)) (under_both l a c (to_left a bc) (level_le-trans l bc c (to_right a bc) (to_right b c))))
    (under_both r a bc (level_le-trans r ac a (to_right b ac) (to_left a c)) (under_both r b c (to_left b ac) (level_le-trans r ac c (to_right b ac) (to_right a c))))

than_assoc : (o : Option Level) (b c : Level) → lesser_level (lesser_than o b) c ≡ lesser_than o (lesser_level b c)
than_assoc None b c = refl
than_assoc (Some a) b c = lesser_assoc a b c

than_swap : (o : Option Level) (b c : Level) → lesser_level b (lesser_than o c) ≡ lesser_than o (lesser_level b c)
than_swap None b c = refl
than_swap (Some a) b c = lesser_swap b a c

than_than : (o q : Option Level) (c : Level) → lesser_than o (lesser_than q c) ≡ lesser_than q (lesser_than o c)
than_than None q c = refl
than_than (Some a) None c = refl
than_than (Some a) (Some b) c = lesser_swap a b c

-- ---- the bound is the lesser of the two parts

bound_first : {X : Type 0} (f : X → Option Level) (x : X) (xs : List X) → least_level (filter_map f (x ∷ xs)) ≡ lesser_than (f x) (least_level (filter_map f xs))
bound_first f x xs = by_case (f x) refl
  where
    by_case : (o : Option Level) → f x ≡ o → least_level (filter_map f (x ∷ xs)) ≡ lesser_than o (least_level (filter_map f xs))
    by_case None e = rw e refl
    by_case (Some l) e = rw e refl

pub bound_parts : (p : Problem) (k : ℕ) (slots : List Slot) → ((n : ℕ) (t : Slot) → slice_get slots n ≡ Some t → (t.mark ≡ Closed → ⊥) → t.node ≡ Rest) → bound_of p (placed_of slots) k ≡ lesser_level (closed_bound p k slots) (waiting_bound k slots)
bound_parts p k [] h = refl
bound_parts p k (t ∷ slots) h =
    let more : bound_of p (placed_of slots) k ≡ lesser_level (closed_bound p k slots) (waiting_bound k slots) = bound_parts p k slots (λ n u e w. h (suc n) u e w) in
    bound_first (λ (e : Node × Place). slice_index_or (end_levels p e.1 e.0) k None) (t.node, t.place) (placed_of slots) ∙ ap (λ (b : Level). lesser_than (slice_index_or (end_levels p t.place t.node) k None) b) more ∙ by_mark t.mark refl
  where
    by_mark : (m : Mark) → t.mark ≡ m → lesser_than (slice_index_or (end_levels p t.place t.node) k None) (lesser_level (closed_bound p k slots) (waiting_bound k slots)) ≡ lesser_level (lesser_than (closed_level p k t) (closed_bound p k slots)) (lesser_than (waiting_level k t) (waiting_bound k slots))
    by_mark Closed e = rw e (sym (than_assoc (slice_index_or (end_levels p t.place t.node) k None) (closed_bound p k slots) (waiting_bound k slots)))
    by_mark Open e =
        let rest : t.node ≡ Rest = h 0 t refl (λ c. let w : Open ≡ Closed = sym e ∙ c in absurd (cc)) in
        rw (e, rest) (sym (than_swap (slice_index_or t.place.levels k None) (closed_bound p k slots) (waiting_bound k slots)))
    by_mark (Held a) e =
        let rest : t.node ≡ Rest = h 0 t refl (λ c. let w : Held a ≡ Closed = sym e ∙ c in absurd (cc)) in
        rw (e, rest) (sym (than_swap (slice_index_or t.place.levels k None) (closed_bound p k slots) (waiting_bound k slots)))

-- ---- after a settlement

pub closed_set : (p : Problem) (k : ℕ) (slots : List Slot) (n : ℕ) (t : Slot) → n < length slots → closed_level p k (slot_at slots n) ≡ None → closed_bound p k (slice_set slots n t) ≡ lesser_than (closed_level p k t) (closed_bound p k slots)
closed_set p k [] n t l e = absurd (omega arith)
closed_set p k (u ∷ slots) zero t l e = ap (λ (o : Option Level). lesser_than (closed_level p k t) (lesser_than o (closed_bound p k slots))) (sym e)
closed_set p k (u ∷ slots) (suc n) t l e =
    ap (λ (b : Level). lesser_than (closed_level p k u) b) (closed_set p k slots n t (omega arith) e) ∙ than_than (closed_level p k u) (closed_level p k t) (closed_bound p k slots)

closed_more : (p : Problem) (k : ℕ) (slots more : List Slot) → closed_bound p k more ≡ Inf → closed_bound p k (slots ++ more) ≡ closed_bound p k slots
closed_more p k [] more e = e
closed_more p k (t ∷ slots) more e = ap (λ (b : Level). lesser_than (closed_level p k t) b) (closed_more p k slots more e)

new_waits : (p : Problem) (k : ℕ) (o : Outcome) → closed_bound p k (new_slots o) ≡ Inf
new_waits p k Close = refl
new_waits p k (Branch stay column v left right ls rs) = refl

pub closed_settled : (p : Problem) (k : ℕ) (slots : List Slot) (s : Settlement) → s.work.node < length slots → closed_level p k (slot_at slots s.work.node) ≡ None → closed_bound p k (settled slots s) ≡ lesser_than (slice_index_or (end_levels p (place_of s.work) (recorded (length slots) s.cert s.verdicts s.outcome)) k None) (closed_bound p k slots)
closed_settled p k slots s l e =
    closed_more p k (slice_set slots s.work.node (record { node = recorded (length slots) s.cert s.verdicts s.outcome; place = place_of s.work; mark = Closed })) (new_slots s.outcome) (new_waits p k s.outcome)
    ∙ closed_set p k slots s.work.node (record { node = recorded (length slots) s.cert s.verdicts s.outcome; place = place_of s.work; mark = Closed }) l e

-- ---- a change of marks of nodes that aren't closed

pub closed_level_none : (p : Problem) (k : ℕ) (t : Slot) → (t.mark ≡ Closed → ⊥) → closed_level p k t ≡ None
closed_level_none p k t h = by_mark t.mark refl
  where
    by_mark : (m : Mark) → t.mark ≡ m → closed_level p k t ≡ None
    by_mark Closed e = absurd (h e)
    by_mark Open e = rw e refl
    by_mark (Held a) e = rw e refl

pub closed_marked : (p : Problem) (k : ℕ) (slots : List Slot) (n : ℕ) (t : Slot) → n < length slots → ((slot_at slots n).mark ≡ Closed → ⊥) → (t.mark ≡ Closed → ⊥) → closed_bound p k (slice_set slots n t) ≡ closed_bound p k slots
closed_marked p k slots n t l was now = closed_set p k slots n t l (closed_level_none p k (slot_at slots n) was) ∙ ap (λ (o : Option Level). lesser_than o (closed_bound p k slots)) (closed_level_none p k t now)
