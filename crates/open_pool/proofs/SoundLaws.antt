-- The invariant of a pool after a change of one place.
use Rattle.scenario_changes.specs.Problems as problems
use Rattle.std.specs.Prelude.{◌≡◌, ℕ, ◌<◌, ◌≤◌, ◌+◌, ◌*◌, length, slice_set, true, drop, List, ◌++◌, [], ◌∷◌, refl, ℤ, Bool, false, cond, slice_index_or, None, ◌/◌}
use Rattle.std.specs.Vec.{with_item, with_items}
use Rattle.std.proofs.lemmas.List.{take-append-le, take_all, length-set, length-append, append-nil}
use Rattle.std.proofs.Common.{arith, ap, sym, ◌∙◌, subst, Vec, Global, vec_len, vec_capacity, append_assoc}
use Rattle.bb_core.specs.Coverage.{Mark, Closed, Open, Slot, Covers, slot_at, settled, new_slots, open_at, placed_of, marked_as, MaySettle}
use Rattle.open_pool.specs.PoolParts.{IsSound}
use Rattle.open_pool.specs.declared.pool.Pool.TheInside.{Inside}
use Rattle.open_pool.specs.declared.agenda.Agenda.{Agenda}
use Rattle.open_pool.specs.Agenda.{AreFirsts, IsRight, IsRefreshed}
use Rattle.open_pool.proofs.AgendaChanges.{firsts-marked, firsts-settled}
use Rattle.bb_core.specs.Settlements.{Settlement, Outcome, Close, Branch, place_of, recorded}
use Rattle.certs.specs.Trees.{of_live}
use Rattle.int_model.specs.Boxes.{Box, volume}
use Rattle.certs.specs.Trees.{Place}
use Rattle.open_pool.specs.Marks.{claimed, lesser_than}
use Rattle.certs.specs.declared.tree.Node.{Node}
use Rattle.certs.specs.declared.tree.Node.TheVariants.{Leaf, Split}
use Rattle.certs.specs.declared.level.Level.{Level}
use Rattle.open_pool.specs.Pooled.{Pooled, IsFull, reopened, is_claimed}
use Rattle.open_pool.specs.Claims.{IsSettled, IsAnswer, IsSplit, AreShort}
use Rattle.scenario_changes.specs.Problems.{Problem, root_box}
use Rattle.certs.proofs.TreeCounts.{tree-length, tree-points}
use Rattle.open_pool.specs.declared.pool.Settled.{Settled}
use Rattle.open_pool.specs.declared.pool.Settled.TheVariants.{Closed as Closes, Split as Splits, Halted, Stray}
use Rattle.certs.specs.declared.level.Level.TheVariants.{Inf}
use Rattle.open_pool.specs.Ends.{ended, closed_level, closed_bound}
use Rattle.open_pool.specs.declared.scratch.Scratch.{Scratch}
use Rattle.open_pool.proofs.EndLaws.{closed_marked, closed_level_none, closed_settled}
use Rattle.open_pool.proofs.LawfulLaws.{settle_below, settle_claimed, child_lengths}
use Rattle.open_pool.specs.Judged.{IsScratch, AreWide}
use Rattle.certs.proofs.ClaimLaws.{all_within}
use Rattle.std.specs.Prelude.{replicate, zero, suc}
use Rattle.scenario_changes.specs.Problems.{AreWithin}
use Rattle.bb_core.specs.Coverage.{root_slot}
use Rattle.bb_core.proofs.CoverageLaws.{Covers-root}
use Rattle.open_pool.proofs.WideLemmas.{wide_marked, wide_root, wide_settled}
use Rattle.open_pool.proofs.PoolLaws.{Covers-remarked, Covers-settled_here, slot-found}

-- a place that wasn't closed gets another mark, and isn't closed
pub sound-marked : (a : Inside) (n : ℕ) (was mark : Mark) (t : Slot) (agenda : Agenda) → IsSound a → n < length a.slots.items → (slot_at a.slots.items n).mark ≡ was → (was ≡ Closed → ⊥) → (mark ≡ Closed → ⊥) → t ≡ record (slot_at a.slots.items n) { mark = mark } → IsRight (slice_set a.slots.items n t) agenda.firsts.items (n / 128) → ((k : ℕ) → (k ≡ n / 128 → ⊥) → slice_index_or agenda.firsts.items k None ≡ slice_index_or a.agenda.firsts.items k None) → length agenda.firsts.items ≡ length a.agenda.firsts.items → IsSound (record a { slots = with_item a.slots n t; agenda = agenda })
sound-marked a n was mark t agenda h l e w r q block others many = record {
  right = h.right;
  covered = subst (λ (u : Slot). Covers (problems.problem a.problem.now) (slice_set a.slots.items n u) a.caps.items) (sym q) (Covers-remarked _ _ _ n was mark h.covered l e w r);
  caps = h.caps;
  many = h.many;
  ends = λ k b. h.ends k b ∙ sym (closed_marked (problems.problem a.problem.now) k a.slots.items n t l (λ c. w (sym e ∙ c)) (λ c. r (sym (ap (λ (u : Slot). u.mark) q) ∙ c)));
  few = h.few;
  within = h.within;
  room = h.room;
  spare = h.spare;
  spare_room = h.spare_room;
  firsts = firsts-marked a.slots.items n t a.agenda.firsts.items agenda.firsts.items h.firsts block others;
  blocks = omega (arith, many, h.blocks);
  scratch = h.scratch;
  wide = wide_marked (problems.problem a.problem.now).columns a.slots.items n (slot_at a.slots.items n) t h.wide (slot-found a.slots.items n l) (ap (λ (u : Slot). u.place) q);
  full = λ f. let g : length (slice_set a.slots.items n t) ≡ length a.slots.items = length-set a.slots.items n t in record { places = omega (arith, g, (h.full f).places); points = (h.full f).points };
}

length-settled : (slots : List Slot) (s : Settlement) → length slots ≤ length (settled slots s)
length-settled slots s = omega (arith, length-append (slice_set slots s.work.node (record { node = recorded (length slots) s.cert s.verdicts s.outcome; place = place_of s.work; mark = Closed })) (new_slots s.outcome), length-set slots s.work.node (record { node = recorded (length slots) s.cert s.verdicts s.outcome; place = place_of s.work; mark = Closed }))

-- after a settlement that was judged
pub sound-settled : (a : Inside) (v : Vec Slot Global) (agenda : Agenda) (ends : Vec Level Global) (scratch : Scratch) (s : Settlement) → IsSound a → MaySettle (problems.problem a.problem.now) a.slots.items a.caps.items claimed s → v.items ≡ settled a.slots.items s → vec_len v ≤ a.nodes → vec_capacity v ≡ vec_capacity a.slots → IsScratch (problems.problem a.problem.now).columns (length (problems.problem a.problem.now).scenarios) scratch → length ends.items ≡ length a.ends.items → ((k : ℕ) → k < length a.ends.items → slice_index_or ends.items k Inf ≡ lesser_than (slice_index_or (ended (problems.problem a.problem.now) (length a.slots.items) s) k None) (slice_index_or a.ends.items k Inf)) → ((k : ℕ) → IsRefreshed v.items s.work.node (length a.slots.items) (length v.items) a.agenda.firsts.items agenda.firsts.items k) → length agenda.firsts.items ≡ length a.agenda.firsts.items → IsSound (record a { slots = v; agenda = agenda; ends = ends; scratch = scratch })
sound-settled a v agenda ends scratch s h w e l c d m g blocks many = record {
  right = h.right;
  covered = subst (λ (slots : List Slot). Covers (problems.problem a.problem.now) slots a.caps.items) (sym e) (Covers-settled_here (problems.problem a.problem.now) a.slots.items a.caps.items s h.covered w);
  caps = h.caps;
  many = m ∙ h.many;
  ends = λ k b.
      let open_was : closed_level (problems.problem a.problem.now) k (slot_at a.slots.items s.work.node) ≡ None = closed_level_none (problems.problem a.problem.now) k (slot_at a.slots.items s.work.node) (λ x. let y : claimed ≡ Closed = sym (settle_claimed (problems.problem a.problem.now) a.slots.items a.caps.items s w) ∙ x in absurd (cc)) in
      g k (omega (arith, b, h.many)) ∙ ap (λ (x : Level). lesser_than (slice_index_or (ended (problems.problem a.problem.now) (length a.slots.items) s) k None) x) (h.ends k b) ∙ sym (closed_settled (problems.problem a.problem.now) k a.slots.items s (settle_below (problems.problem a.problem.now) a.slots.items a.caps.items s w) open_was) ∙ ap (λ (xs : List Slot). closed_bound (problems.problem a.problem.now) k xs) (sym e);
  few = h.few;
  within = l;
  room = omega (arith, c, h.room);
  spare = h.spare;
  spare_room = h.spare_room;
  firsts = subst (λ (xs : List Slot). AreFirsts xs agenda.firsts.items) (sym e) (firsts-settled a.slots.items s a.agenda.firsts.items agenda.firsts.items h.firsts (λ k. subst (λ (xs : List Slot). IsRefreshed xs s.work.node (length a.slots.items) (length xs) a.agenda.firsts.items agenda.firsts.items k) e (blocks k)));
  blocks = omega (arith, many, h.blocks);
  scratch = d;
  wide = subst (λ (xs : List Slot). AreWide (problems.problem a.problem.now).columns xs) (sym e) (wide_settled (problems.problem a.problem.now) (all_within (problems.problem a.problem.now) h.right) a.slots.items a.caps.items h.wide s w);
  full = λ f. let i : length v.items ≡ length (settled a.slots.items s) = ap length e in record { places = omega (arith, i, length-settled a.slots.items s, (h.full f).places); points = (h.full f).points };
}

slot_eq : (t : Slot) (node : Node) (place : Place) (mark : Mark) → t.node ≡ node → t.place ≡ place → t.mark ≡ mark → ◌≡◌ {A = Slot} t (record { node = node; place = place; mark = mark })
slot_eq t node place mark a b c =
    ap (λ (x : Node). slot_of x t.place t.mark) a ∙ ap (λ (x : Place). slot_of node x t.mark) b ∙ ap (λ (x : Mark). slot_of node place x) c
  where
    slot_of : Node → Place → Mark → Slot
    slot_of n q m = record { node = n; place = q; mark = m }

pub settled_close : (slots : List Slot) (s : Settlement) (t : Slot) → s.outcome ≡ Close → t.node ≡ Leaf s.cert s.verdicts → t.place ≡ place_of s.work → t.mark ≡ Closed → slice_set slots s.work.node t ≡ settled slots s
settled_close slots s t e a b c =
    let same : t ≡ record { node = Leaf s.cert s.verdicts; place = place_of s.work; mark = Closed } = slot_eq t (Leaf s.cert s.verdicts) (place_of s.work) Closed a b c in
    ap (λ (u : Slot). slice_set slots s.work.node u) same ∙ sym (append-nil (slice_set slots s.work.node (record { node = Leaf s.cert s.verdicts; place = place_of s.work; mark = Closed }))) ∙ ap (λ (o : Outcome). slice_set slots s.work.node (record { node = recorded (length slots) s.cert s.verdicts o; place = place_of s.work; mark = Closed }) ++ new_slots o) (sym e)

pub settled_branch : (slots : List Slot) (s : Settlement) (t low high : Slot) (child : ℕ) (stay : List ℕ) (column : ℕ) (v : ℤ) (left right : Box) (left_levels right_levels : List Level) → s.outcome ≡ Branch stay column v left right left_levels right_levels → child ≡ length slots → t.node ≡ Split s.cert s.verdicts stay child column v → t.place ≡ place_of s.work → t.mark ≡ Closed → low ≡ open_at left (of_live stay 0 left_levels) → high ≡ open_at right (of_live stay 0 right_levels) → (slice_set slots s.work.node t ++ low ∷ []) ++ high ∷ [] ≡ settled slots s
settled_branch slots s t low high child stay column v left right left_levels right_levels e k a b c l h =
    let node : t.node ≡ Split s.cert s.verdicts stay (length slots) column v = a ∙ ap (λ (n : ℕ). Split s.cert s.verdicts stay n column v) k in
    let same : t ≡ record { node = Split s.cert s.verdicts stay (length slots) column v; place = place_of s.work; mark = Closed } = slot_eq t (Split s.cert s.verdicts stay (length slots) column v) (place_of s.work) Closed node b c in
    append_assoc (slice_set slots s.work.node t) (low ∷ []) (high ∷ []) ∙ ap (λ (u : Slot). slice_set slots s.work.node u ++ low ∷ high ∷ []) same ∙ ap (λ (u : Slot). slice_set slots s.work.node (record { node = Split s.cert s.verdicts stay (length slots) column v; place = place_of s.work; mark = Closed }) ++ u ∷ high ∷ []) l ∙ ap (λ (u : Slot). slice_set slots s.work.node (record { node = Split s.cert s.verdicts stay (length slots) column v; place = place_of s.work; mark = Closed }) ++ open_at left (of_live stay 0 left_levels) ∷ u ∷ []) h ∙ ap (λ (o : Outcome). slice_set slots s.work.node (record { node = recorded (length slots) s.cert s.verdicts o; place = place_of s.work; mark = Closed }) ++ new_slots o) (sym e)

pub settled_from : (p q : Pooled) (s : Settlement) (r : Settled) → MaySettle p.problem p.slots p.caps claimed s → (IsSplit s.outcome → length p.slots + 2 ≤ p.nodes) → IsAnswer s.outcome r → q ≡ record p { slots = settled p.slots s } → IsSettled p s q r
settled_from p q s Stray w room h e = absurd h
settled_from p q s Halted w room h e = absurd h
settled_from p q s Closes w room h e = (w, h, e)
settled_from p q s Splits w room h e = (w, h, room h, e)

pub length_reopened : (slots : List Slot) (n : ℕ) → length (reopened slots n) ≡ length slots
length_reopened slots n = by_test (is_claimed slots n)
  where
    by_test : (b : Bool) → length (cond b (marked_as slots n Open) slots) ≡ length slots
    by_test true = length-set slots n (record (slot_at slots n) { mark = Open })
    by_test false = refl

pub short_children : (p : Problem) (slots : List Slot) (caps : List Level) (s : Settlement) → MaySettle p slots caps claimed s → length p.scenarios ≤ 64 → AreShort s.outcome
short_children p slots caps s h few = by_case s.outcome refl
  where
    by_case : (o : Outcome) → s.outcome ≡ o → AreShort o
    by_case Close e = tt
    by_case (Branch stay column v left right ls rs) e =
        let long = child_lengths p slots caps s.work s.cert s.verdicts stay column v left right ls rs (subst (λ (o : Outcome). MaySettle p slots caps claimed (record s { outcome = o })) e h) in
        (omega (arith, long.0, few), omega (arith, long.1, few))

pub settled_within : (slots : List Slot) (s : Settlement) (most : ℕ) → length slots ≤ most → (IsSplit s.outcome → length slots + 2 ≤ most) → length (settled slots s) ≤ most
settled_within slots s most h g = by_case s.outcome refl
  where
    by_case : (o : Outcome) → s.outcome ≡ o → length (settled slots s) ≤ most
    by_case Close e =
        let new : Slot = record { node = recorded (length slots) s.cert s.verdicts s.outcome; place = place_of s.work; mark = Closed } in
        let none : length (new_slots s.outcome) ≡ 0 = ap (λ (o : Outcome). length (new_slots o)) e in
        omega (arith, length-append (slice_set slots s.work.node new) (new_slots s.outcome), length-set slots s.work.node new, none, h)
    by_case (Branch stay column v left right ls rs) e =
        let new : Slot = record { node = recorded (length slots) s.cert s.verdicts s.outcome; place = place_of s.work; mark = Closed } in
        let two : length (new_slots s.outcome) ≡ 2 = ap (λ (o : Outcome). length (new_slots o)) e in
        let more : length slots + 2 ≤ most = g (subst (λ (o : Outcome). IsSplit o) (sym e) tt) in
        omega (arith, length-append (slice_set slots s.work.node new) (new_slots s.outcome), length-set slots s.work.node new, two, more)

length-branched : (slots : List Slot) (s : Settlement) → IsSplit s.outcome → length (settled slots s) ≡ length slots + 2
length-branched slots s h = by_case s.outcome refl
  where
    by_case : (o : Outcome) → s.outcome ≡ o → length (settled slots s) ≡ length slots + 2
    by_case Close e = absurd (subst (λ (o : Outcome). IsSplit o) e h)
    by_case (Branch stay column v left right ls rs) e =
        let new : Slot = record { node = recorded (length slots) s.cert s.verdicts s.outcome; place = place_of s.work; mark = Closed } in
        let two : length (new_slots s.outcome) ≡ 2 = ap (λ (o : Outcome). length (new_slots o)) e in
        omega (arith, length-append (slice_set slots s.work.node new) (new_slots s.outcome), length-set slots s.work.node new, two)

length-placed : (slots : List Slot) → length (placed_of slots) ≡ length slots
length-placed [] = refl
length-placed (t ∷ slots) = ap suc (length-placed slots)

-- where a split that may be made finds no room, a whole tree has more nodes than the pool may have
pub full_at : (p : Problem) (slots : List Slot) (caps : List Level) (nodes : ℕ) (s : Settlement) → AreWithin p → Covers p slots caps → MaySettle p slots caps claimed s → IsSplit s.outcome → nodes < length slots + 2 → IsFull p nodes (length slots)
full_at p slots caps nodes s limits covered may split full =
    let tree = (Covers-settled_here p slots caps s covered may).tree in
    let long : length (placed_of (settled slots s)) ≡ length slots + 2 = length-placed (settled slots s) ∙ length-branched slots s split in
    let points : 1 ≤ volume (root_box p.scenarios) = tree-points p (all_within p limits) limits.some_scenario (placed_of (settled slots s)) tree (omega (arith, long)) in
    record {
      places = full;
      points = omega (arith, long, points, full, tree-length p (all_within p limits) limits.some_scenario (placed_of (settled slots s)) tree points);
    }

pub with_items_is : (v : Vec Level Global) (xs : List Level) → length xs ≡ vec_len v → (with_items v xs).items ≡ xs
with_items_is v xs e = take-append-le (vec_len v) xs (drop (length xs) v.items) (omega (arith, e)) ∙ take_all (vec_len v) xs (omega (arith, e))

-- ---- the start

root_closes : (p : Problem) (k n : ℕ) → slice_index_or (replicate n Inf) k Inf ≡ closed_bound p k (root_slot p ∷ [])
root_closes p k n = all_inf n k
  where
    all_inf : (n k : ℕ) → slice_index_or (replicate n Inf) k Inf ≡ Inf
    all_inf zero k = refl
    all_inf (suc n) zero = refl
    all_inf (suc n) (suc k) = all_inf n k

-- what a pool is made of
pub record IsBegun (a : Inside) (n : ℕ) : Type 0 where
  pub right : AreWithin (problems.problem a.problem.now)
  pub count : n ≡ length (problems.problem a.problem.now).scenarios
  pub slots : a.slots.items ≡ root_slot (problems.problem a.problem.now) ∷ []
  pub caps : a.caps.items ≡ replicate n Inf
  pub ends : a.ends.items ≡ replicate n Inf
  pub some : 0 < a.nodes
  pub few : a.nodes ≤ 100001
  pub one : vec_len a.slots ≡ 1
  pub room : a.nodes ≤ vec_capacity a.slots
  pub spare : a.spare.items ≡ []
  pub spare_room : a.nodes ≤ vec_capacity a.spare
  pub firsts : AreFirsts a.slots.items a.agenda.firsts.items
  pub blocks : a.nodes ≤ length a.agenda.firsts.items * 128
  pub scratch : IsScratch (problems.problem a.problem.now).columns (length (problems.problem a.problem.now).scenarios) a.scratch
  pub halted : a.halted ≡ false

pub sound-begun : (a : Inside) (n : ℕ) → IsBegun a n → IsSound a
sound-begun a n h = record {
  right = h.right;
  covered = subst (λ (slots : List Slot). Covers (problems.problem a.problem.now) slots a.caps.items) (sym h.slots) (Covers-root (problems.problem a.problem.now) a.caps.items);
  caps = ap length h.caps ∙ length-replicate n Inf ∙ h.count;
  many = ap length h.ends ∙ length-replicate n Inf ∙ h.count;
  ends = λ k l. ap (λ (xs : List Level). slice_index_or xs k Inf) h.ends ∙ root_closes (problems.problem a.problem.now) k n ∙ ap (λ (slots : List Slot). closed_bound (problems.problem a.problem.now) k slots) (sym h.slots);
  few = h.few;
  within = omega (arith, h.one, h.some);
  room = h.room;
  spare = h.spare;
  spare_room = h.spare_room;
  firsts = h.firsts;
  blocks = h.blocks;
  scratch = h.scratch;
  wide = subst (λ (slots : List Slot). AreWide (problems.problem a.problem.now).columns slots) (sym h.slots) (wide_root (problems.problem a.problem.now) h.right);
  full = λ f. absurd (let w : false ≡ true = sym h.halted ∙ f in cc);
}
  where
    length-replicate : (n : ℕ) (x : Level) → length (replicate n x) ≡ n
    length-replicate zero x = refl
    length-replicate (suc n) x = ap suc (length-replicate n x)
