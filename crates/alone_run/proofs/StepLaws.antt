-- What a settled turn makes of a pool.
use Rattle.std.specs.Prelude.{◌≡◌, ◌<◌, ◌≤◌, ℕ, zero, suc, ◌+◌, ℤ, List, [], ◌∷◌, ◌++◌, length, slice_get, slice_index_or, slice_set, Option, Some, None, option_map, unwrap_or, IsTrue, Contains, Bool, true, false, not, cond, nat_eq, ◌≢◌, refl}
use Rattle.std.specs.Cmp.{nat_eq_equiv}
use Rattle.std.specs.List.{list_any}
use Rattle.std.proofs.Common.{arith, ap, sym, ◌∙◌, subst, inl, inr, length-set, length-append}
use Rattle.std.proofs.lemmas.List.{get_or-set_same, get_or-set_other}
use native.Mathlib.Decide.{ℕ_discrete}
use Rattle.std.proofs.lemmas.Map.Views.{list_any-from_Contains}
use Rattle.scenario_changes.specs.Problems.{Problem, Scenarios}
use Rattle.scenario_changes.specs.Problems as problems
use Rattle.atomic_table.specs.Seated.{TableId}
use Rattle.certs.specs.Levels.{level_le, cap_level, lesser_level}
use Rattle.certs.specs.Trees.{raised, dropped, end_levels}
use Rattle.certs.specs.declared.cert.Cert.{Cert}
use Rattle.certs.specs.declared.verdict.Verdict.{Verdict}
use Rattle.certs.specs.declared.level.Level.{Level}
use Rattle.certs.specs.declared.level.Level.TheVariants.{Value, Inf}
use Rattle.certs.proofs.TreeLaws.{dropped_at}
use Rattle.bb_core.specs.Settlements as made
use Rattle.certs.specs.Trees.{of_live}
use Rattle.bb_core.specs.Settlements.{place_of, recorded}
use Rattle.bb_core.specs.Shared.{settlement_of, outcome_of, work_of, stay_of}
use Rattle.bb_core.specs.declared.work.Outcome.{Outcome}
use Rattle.bb_core.specs.declared.work.Outcome.TheVariants.{Close, Split}
use Rattle.bb_core.specs.declared.work.Settlement.{Settlement}
use Rattle.bb_core.specs.declared.work.Work.{Work}
use Rattle.bb_core.specs.Coverage.{Slot, Mark, Closed, Open, MaySettle, ReachesCaps, slot_at, marked_as, new_slots, open_at, settled}
use Rattle.bb_core.proofs.ListWrites.{set-get, append-get}
use Rattle.incumbent_words.specs.Codes.{code, no_value, IsValue}
use Rattle.incumbent_words.specs.Rule.{code_at, HasAll}
use Rattle.incumbent_words.specs.Seats.{Held as Seat}
use Rattle.finder.specs.Found.{Found, IsSound, IsSameHolder, scenario_count}
use Rattle.node_work.specs.Stayers.{AreStayers, is_below}
use Rattle.open_pool.specs.Marks.{claimed, is_held_by}
use Rattle.open_pool.specs.Pooled.{Pooled, HasNone, IsNext, is_claimed, is_open, reopened, count_open, IsFull}
use Rattle.open_pool.specs.Claims.{IsClaim, IsSettled, IsSplit}
use Rattle.open_pool.specs.declared.pool.Claim.TheVariants.{Node}
use Rattle.open_pool.specs.declared.pool.Settled.TheVariants.{Halted, Stray}
use Rattle.open_pool.specs.declared.pool.Settled.TheVariants.{Closed as WasClosed, Split as WasSplit}
use Rattle.open_pool.proofs.LawfulLaws.{length_raised}
use Rattle.alone_run.specs.Turns.{AreCuts, IsNoWorse, IsTurn}
use Rattle.alone_run.specs.Runs.{AreAbove}
use Rattle.alone_run.specs.Steps.{IsLowered, AreLowered, GoesOn, IsOver, IsReady}
use Rattle.alone_run.proofs.BestLaws.{above_falls, above_lowered, above_same, all_held}
use Rattle.alone_run.proofs.CodeOrder.{code_same, le_trans, lesser_below}

-- ---- lists

index_below : {X : Type 0} (xs : List (Option X)) (k : ℕ) (x : X) → slice_index_or xs k None ≡ Some x → k < length xs
index_below [] k x e = absurd (cc)
index_below (y ∷ xs) zero x e = omega arith
index_below (y ∷ xs) (suc k) x e = let h : k < length xs = index_below xs k x e in omega arith

get_set : {X : Type 0} (xs : List X) (n : ℕ) (x : X) → n < length xs → slice_get (slice_set xs n x) n ≡ Some x
get_set [] n x h = absurd (omega arith)
get_set (y ∷ xs) zero x h = refl
get_set (y ∷ xs) (suc n) x h = get_set xs n x (omega arith)

slot_set : (slots : List Slot) (n : ℕ) (t : Slot) → n < length slots → slot_at (slice_set slots n t) n ≡ t
slot_set [] n t h = absurd (omega arith)
slot_set (u ∷ slots) zero t h = refl
slot_set (u ∷ slots) (suc n) t h = slot_set slots n t (omega arith)

set_twice : {X : Type 0} (xs : List X) (n : ℕ) (x y : X) → slice_set (slice_set xs n x) n y ≡ slice_set xs n y
set_twice [] n x y = refl
set_twice (z ∷ xs) zero x y = refl
set_twice (z ∷ xs) (suc n) x y = ap (λ ys. z ∷ ys) (set_twice xs n x y)

slot_got : (slots : List Slot) (n : ℕ) (t : Slot) → slice_get slots n ≡ Some t → (n < length slots) × (slot_at slots n ≡ t)
slot_got [] n t e = absurd (cc)
slot_got (u ∷ slots) zero t e = (omega arith, cc)
slot_got (u ∷ slots) (suc n) t e = let g = slot_got slots n t e in (omega (arith, g.0), g.1)

-- ---- the levels of a settlement reach the caps

module _ (p : Problem) (w : made.Work) (cert : Cert) (verdicts : List Verdict) (caps lowered : List Level) (codes : List ℕ) (cuts : List (Option ℤ)) (low : AreLowered caps lowered codes) (are : AreCuts codes cuts) (many : length caps ≡ length p.scenarios) where
  now : Option (List (Option Level))
  now = raised w.bounds cert p.scenarios (place_of w).levels verdicts

  -- a scenario that doesn't stay
  reach : (stay : List ℕ) → AreStayers p w cert verdicts cuts stay → (rs : List (Option Level)) → raised w.bounds cert p.scenarios (place_of w).levels verdicts ≡ Some rs → (k : ℕ) (l : Level) → slice_index_or rs k None ≡ Some l → (Contains stay k → ⊥) → IsTrue (level_le (slice_index_or lowered k Inf) l)
  reach stay are_stayers rs e k l g none =
      let below : k < length rs = index_below rs k l g in
      let lt : k < length caps = omega (arith, below, length_raised w.bounds cert p.scenarios (place_of w).levels verdicts rs e, many) in
      let cut : Option ℤ = slice_index_or cuts k None in
      let d = low.each k lt in
      let step : IsTrue (level_le (slice_index_or lowered k Inf) (cap_level d.value)) = subst (λ (m : Level). IsTrue (level_le m (cap_level d.value))) (sym d.lesser) (lesser_below (slice_index_or caps k Inf) (cap_level d.value)) in
      let same : IsTrue (level_le (cap_level d.value) (cap_level cut)) = code_same d.value cut d.limit (are.limits k) (d.value_is ∙ sym (are.codes k)) in
      le_trans (slice_index_or lowered k Inf) (cap_level cut) l (le_trans (slice_index_or lowered k Inf) (cap_level d.value) (cap_level cut) step same) (by_test (level_le (cap_level cut) l) refl)
    where
      by_test : (b : Bool) → level_le (cap_level (slice_index_or cuts k None)) l ≡ b → b ≡ true
      by_test true h = refl
      by_test false h =
          let under : is_below (slice_index_or cuts k None) (Some l) ≡ true = ap not h in
          absurd (none ((are_stayers rs e k).1 (subst (λ (o : Option Level). IsTrue (is_below (slice_index_or cuts k None) o)) (sym g) under)))

  leaf_case : (o : Option (List (Option Level))) (k : ℕ) (l : Level) → slice_index_or (unwrap_or o []) k None ≡ Some l → (rs : List (Option Level)) × (o ≡ Some rs) × (slice_index_or rs k None ≡ Some l)
  leaf_case None k l g = absurd (cc)
  leaf_case (Some rs) k l g = (rs, refl, g)

  split_case : (stay : List ℕ) (o : Option (List (Option Level))) (k : ℕ) (l : Level) → slice_index_or (unwrap_or (option_map (dropped stay 0) o) []) k None ≡ Some l → (rs : List (Option Level)) × (o ≡ Some rs) × (slice_index_or rs k None ≡ Some l) × (list_any (nat_eq k) stay ≡ false)
  split_case stay None k l g = absurd (cc)
  split_case stay (Some rs) k l g = by_test (list_any (nat_eq k) stay) refl (sym (dropped_at stay 0 rs k ∙ ap (λ (n : ℕ). cond (list_any (nat_eq n) stay) None (slice_index_or rs k None)) (from_zero k)) ∙ g)
    where
      from_zero : (n : ℕ) → 0 + n ≡ n
      from_zero n = omega arith

      by_test : (b : Bool) → list_any (nat_eq k) stay ≡ b → cond b None (slice_index_or rs k None) ≡ Some l → (qs : List (Option Level)) × (◌≡◌ {A = Option (List (Option Level))} (Some rs) (Some qs)) × (slice_index_or qs k None ≡ Some l) × (list_any (nat_eq k) stay ≡ false)
      by_test true e h = absurd (cc)
      by_test false e h = (rs, refl, h, e)

  not_there : (stay : List ℕ) (k : ℕ) → list_any (nat_eq k) stay ≡ false → Contains stay k → ⊥
  not_there stay k e c = let yes : list_any (nat_eq k) stay ≡ true = list_any-from_Contains nat_eq_equiv k stay c in absurd (let no : true ≡ false = sym yes ∙ e in cc)

  none_there : (k : ℕ) → Contains [] k → ⊥
  none_there k c = absurd (let none : c.0 < 0 = c.1 in omega (arith, none))

  pub all_reach : (o : Outcome) (count : ℕ) → AreStayers p w cert verdicts cuts (stay_of o) → ReachesCaps lowered (end_levels p (place_of w) (recorded count cert verdicts (outcome_of o)))
  all_reach Close count st k l g =
      let r = leaf_case (raised w.bounds cert p.scenarios (place_of w).levels verdicts) k l g in
      reach [] st r.0 r.1 k l r.2 (none_there k)
  all_reach (Split stay column value left right left_levels right_levels left_hint right_hint) count st k l g =
      let r = split_case stay (raised w.bounds cert p.scenarios (place_of w).levels verdicts) k l g in
      reach stay st r.0 r.1 k l r.2 (not_there stay k r.3)

-- ---- a turn's settlement may be made

pub may_settle : (p : Problem) (slots : List Slot) (caps lowered : List Level) (w : made.Work) (f : Found) (s : Settlement) (note : Seat) → IsNext slots w.node → place_of w ≡ (slot_at slots w.node).place → IsTurn p w f s note → AreLowered caps lowered note.view.caps → length caps ≡ length p.scenarios → MaySettle p (marked_as slots w.node claimed) lowered claimed (settlement_of s)
may_settle p slots caps lowered w f s note next place turn low many =
    let own : made.Work = work_of s.work in
    let node : own.node ≡ w.node = ap (λ (v : made.Work). v.node) turn.its_work in
    let below : w.node < length slots = (slot_got slots w.node next.open_here.slot next.open_here.found).0 in
    let t : Slot = record (slot_at slots w.node) { mark = claimed } in
    let here : slice_get (marked_as slots w.node claimed) w.node ≡ Some t = get_set slots w.node t below in
    let stay : AreStayers p own s.cert s.verdicts turn.cuts (stay_of s.outcome) = subst (λ (v : made.Work). AreStayers p v s.cert s.verdicts turn.cuts (stay_of s.outcome)) (sym turn.its_work) turn.stay in
    record {
      held = record { slot = t; found = ap (λ (n : ℕ). slice_get (marked_as slots w.node claimed) n) node ∙ here; marked = refl };
      its_work = sym place ∙ ap place_of (sym turn.its_work);
      lawful = turn.lawful (length (marked_as slots w.node claimed)) (let l : w.node < length (marked_as slots w.node claimed) = omega (arith, length-set slots w.node t, below) in l);
      closes = all_reach p own s.cert s.verdicts caps lowered note.view.caps turn.cuts low turn.are_caps many s.outcome (length (marked_as slots w.node claimed)) stay;
    }

-- ---- caps are lowered

-- a loop that has come to s
pub record LoweredSoFar (q0 q : Pooled) (codes : List ℕ) (s : ℕ) : Type 0 where
  pub same : q ≡ record q0 { caps = q.caps }
  pub count : length q.caps ≡ length q0.caps
  pub done : (k : ℕ) → k < s → k < length q0.caps → IsLowered (slice_index_or q0.caps k Inf) (slice_index_or q.caps k Inf) (code_at codes k)
  pub left : (k : ℕ) → s ≤ k → slice_index_or q.caps k Inf ≡ slice_index_or q0.caps k Inf

lesser_top : (a : Level) → a ≡ lesser_level a Inf
lesser_top (Value a) = refl
lesser_top Inf = refl

pub lowered_none : (q : Pooled) (codes : List ℕ) → LoweredSoFar q q codes 0
lowered_none q codes = record { same = refl; count = refl; done = λ k l h. absurd (omega (arith, l)); left = λ k l. refl }

-- no value is known for scenario s
pub lowered_same : (q0 q : Pooled) (codes : List ℕ) (s : ℕ) → LoweredSoFar q0 q codes s → no_value ≡ code_at codes s → LoweredSoFar q0 q codes (s + 1)
lowered_same q0 q codes s h e = record {
  same = h.same;
  count = h.count;
  done = λ k l b. elim (ℕ_discrete k s) [
    | yes same ↦ record { value = None; value_is = e ∙ ap (code_at codes) (sym same); limit = tt; lesser = h.left k (omega (arith, same)) ∙ lesser_top (slice_index_or q0.caps k Inf) }
    | no other ↦ h.done k (omega (arith, l, other)) b
  ];
  left = λ k l. h.left k (omega (arith, l));
}

-- the cap of scenario s is lowered
pub lowered_more : (q0 q r : Pooled) (codes : List ℕ) (s : ℕ) (value : ℤ) → LoweredSoFar q0 q codes s → code value ≡ code_at codes s → IsValue value → r ≡ record q { caps = slice_set q.caps s (lesser_level (slice_index_or q.caps s Inf) (Value value)) } → LoweredSoFar q0 r codes (s + 1)
lowered_more q0 q r codes s value h e limit g =
    let cap : Level = lesser_level (slice_index_or q.caps s Inf) (Value value) in
    let caps : r.caps ≡ slice_set q.caps s cap = ap (λ (t : Pooled). t.caps) g in
    let others : (k : ℕ) → (k ≢ s) → slice_index_or r.caps k Inf ≡ slice_index_or q.caps k Inf = λ k other. (ap (λ (cs : List Level). slice_index_or cs k Inf) caps ∙ get_or-set_other q.caps s k cap Inf other) in
    record {
      same = g ∙ ap (λ (t : Pooled). record t { caps = slice_set q.caps s cap }) h.same ∙ ap (λ (cs : List Level). record q0 { caps = cs }) (sym caps);
      count = ap (λ (cs : List Level). length cs) caps ∙ (length-set q.caps s cap ∙ h.count);
      done = λ k l b. elim (ℕ_discrete k s) [
        | yes same ↦ record {
          value = Some value;
          value_is = e ∙ ap (code_at codes) (sym same);
          limit = limit;
          lesser =
              ap (λ (cs : List Level). slice_index_or cs k Inf) caps
              ∙ (ap (λ (m : ℕ). slice_index_or (slice_set q.caps s cap) m Inf) same
              ∙ (get_or-set_same q.caps s cap Inf (omega (arith, h.count, b, same))
              ∙ ap (λ (c : Level). lesser_level c (Value value)) (ap (λ (m : ℕ). slice_index_or q.caps m Inf) (sym same) ∙ h.left k (omega (arith, same)))));
        }
        | no other ↦ subst (λ (c : Level). IsLowered (slice_index_or q0.caps k Inf) c (code_at codes k)) (sym (others k other)) (h.done k (omega (arith, l, other)) b)
      ];
      left = λ k l. others k (omega (arith, l)) ∙ h.left k (omega (arith, l));
    }

pub are_lowered : (q0 q : Pooled) (codes : List ℕ) (s n : ℕ) → LoweredSoFar q0 q codes s → n ≤ s → length q0.caps ≡ n → AreLowered q0.caps q.caps codes
are_lowered q0 q codes s n h l e = record { count = h.count; each = λ k b. h.done k (omega (arith, l, e, b)) b }

-- ---- how many nodes are open

open_one : Mark → ℕ
open_one m = cond (is_open m) 1 0

count_set : (slots : List Slot) (n : ℕ) (t : Slot) → n < length slots → count_open (slice_set slots n t) + open_one (slot_at slots n).mark ≡ count_open slots + open_one t.mark
unfolding open_one
count_set [] n t h = absurd (omega arith)
count_set (u ∷ slots) zero t h = omega arith
count_set (u ∷ slots) (suc n) t h = let more = count_set slots n t (omega arith) in omega (arith, more)

count_more : (slots more : List Slot) → count_open (slots ++ more) ≡ count_open slots + count_open more
count_more [] more = omega arith
count_more (t ∷ slots) more = let rest = count_more slots more in omega (arith, rest)

-- ---- no node is claimed

free_set : (slots : List Slot) (n : ℕ) (u t : Slot) → HasNone slots claimed → (t.mark ≡ claimed → ⊥) → HasNone (slice_set (slice_set slots n u) n t) claimed
free_set slots n u t free not i z e m =
    elim (set-get slots n t i z (ap (λ (xs : List Slot). slice_get xs i) (sym (set_twice slots n u t)) ∙ e)) [
      | inl q ↦ not (ap (λ (y : Slot). y.mark) q.1 ∙ m)
      | inr q ↦ free i z q m
    ]

new_free : (o : made.Outcome) → HasNone (new_slots o) claimed
new_free made.Close i z e m = absurd (cc)
new_free (made.Branch stay column v left right ls rs) zero z e m = let w : Open ≡ claimed = ap (λ (t : Slot). t.mark) (first (open_at left (of_live stay 0 ls)) z e) ∙ m in absurd (cc)
  where
    first : (a b : Slot) → ◌≡◌ {A = Option Slot} (Some a) (Some b) → a ≡ b
    first a b q = cc
new_free (made.Branch stay column v left right ls rs) (suc zero) z e m = let w : Open ≡ claimed = ap (λ (t : Slot). t.mark) (first (open_at right (of_live stay 0 rs)) z e) ∙ m in absurd (cc)
  where
    first : (a b : Slot) → ◌≡◌ {A = Option Slot} (Some a) (Some b) → a ≡ b
    first a b q = cc
new_free (made.Branch stay column v left right ls rs) (suc (suc i)) z e m = absurd (cc)

free_append : (slots more : List Slot) → HasNone slots claimed → HasNone more claimed → HasNone (slots ++ more) claimed
free_append slots more a b i z e m = elim (append-get slots more i z e) [
  | inl q ↦ a i z q m
  | inr q ↦ b q.0 z q.2 m
]

module _ (slots : List Slot) (n : ℕ) (free : HasNone slots claimed) (next : IsNext slots n) where
  below_here : n < length slots
  below_here = (slot_got slots n next.open_here.slot next.open_here.found).0

  was_open : (slot_at slots n).mark ≡ Open
  was_open = ap (λ (t : Slot). t.mark) (slot_got slots n next.open_here.slot next.open_here.found).1 ∙ next.open_here.marked

  held_here : Slot
  held_here = record (slot_at slots n) { mark = claimed }

  length_marked : length (marked_as slots n claimed) ≡ length slots
  length_marked = length-set slots n (record (slot_at slots n) { mark = claimed })

  module _ (s : made.Settlement) (same : s.work.node ≡ n) where
    closed_slot : Slot
    closed_slot = record { node = recorded (length (marked_as slots n claimed)) s.cert s.verdicts s.outcome; place = place_of s.work; mark = Closed }

    settled_is : settled (marked_as slots n claimed) s ≡ slice_set slots n closed_slot ++ new_slots s.outcome
    unfolding closed_slot
    settled_is =
        ap (λ (m : ℕ). slice_set (marked_as slots n claimed) m closed_slot ++ new_slots s.outcome) same
        ∙ ap (λ (xs : List Slot). xs ++ new_slots s.outcome) (set_twice slots n (record (slot_at slots n) { mark = claimed }) closed_slot)

    pub settled_free : HasNone (settled (marked_as slots n claimed) s) claimed
    unfolding closed_slot
    settled_free =
        free_append (slice_set (marked_as slots n claimed) s.work.node closed_slot) (new_slots s.outcome)
        (subst (λ (m : ℕ). HasNone (slice_set (marked_as slots n claimed) m closed_slot) claimed) (sym same) (free_set slots n (record (slot_at slots n) { mark = claimed }) closed_slot free (λ e. absurd (cc))))
        (new_free s.outcome)

    pub settled_length : length (settled (marked_as slots n claimed) s) ≡ length slots + length (new_slots s.outcome)
    settled_length = ap (λ (xs : List Slot). length xs) settled_is ∙ length-append (slice_set slots n closed_slot) (new_slots s.outcome) ∙ ap (λ (m : ℕ). m + length (new_slots s.outcome)) (length-set slots n closed_slot)

    pub settled_count : count_open (settled (marked_as slots n claimed) s) + 1 ≡ count_open slots + count_open (new_slots s.outcome)
    unfolding closed_slot open_one
    settled_count =
        let all = ap count_open settled_is in
        let more = count_more (slice_set slots n closed_slot) (new_slots s.outcome) in
        let here = count_set slots n closed_slot below_here in
        let opened : open_one (slot_at slots n).mark ≡ open_one Open = ap open_one was_open in
        omega (arith, all, more, here, opened)

  pub reopened_free : HasNone (reopened (marked_as slots n claimed) n) claimed
  reopened_free = by_test (is_claimed (marked_as slots n claimed) n) refl
    where
      by_test : (b : Bool) → is_claimed (marked_as slots n claimed) n ≡ b → HasNone (cond b (marked_as (marked_as slots n claimed) n Open) (marked_as slots n claimed)) claimed
      by_test true e = free_set slots n (record (slot_at slots n) { mark = claimed }) (record (slot_at (marked_as slots n claimed) n) { mark = Open }) free (λ m. absurd (cc))
      by_test false e =
          let yes : is_claimed (marked_as slots n claimed) n ≡ true = ap (λ (t : Slot). is_held_by 0 t.mark) (slot_set slots n (record (slot_at slots n) { mark = claimed }) below_here) in
          absurd (let no : true ≡ false = sym yes ∙ e in cc)

  pub reopened_length : length (reopened (marked_as slots n claimed) n) ≡ length slots
  reopened_length = by_test (is_claimed (marked_as slots n claimed) n)
    where
      by_test : (b : Bool) → length (cond b (marked_as (marked_as slots n claimed) n Open) (marked_as slots n claimed)) ≡ length slots
      by_test true = length-set (marked_as slots n claimed) n (record (slot_at (marked_as slots n claimed) n) { mark = Open }) ∙ length_marked
      by_test false = length_marked

-- ---- room

full_as : (p : Problem) (nodes nodes' count count' : ℕ) → nodes' ≡ nodes → count' ≡ count → IsFull p nodes count → IsFull p nodes' count'
full_as p nodes nodes' count count' e d h = record { places = omega (arith, e, d, h.places); points = omega (arith, e, h.points) }

-- a pool that is stopped is full where it was halted
pub stopped_over : (q : Pooled) → q.stopped ≡ true → (q.halted ≡ true → IsFull q.problem q.nodes (length q.slots)) → IsOver q q
stopped_over q s h = by_mark q.halted refl
  where
    by_mark : (b : Bool) → q.halted ≡ b → IsOver q q
    by_mark true e = record { nodes = refl; grown = omega arith; over = inr (inr (h e)) }
    by_mark false e = record { nodes = refl; grown = omega arith; over = inr (inl (record { stopped = s; halted = e })) }

-- ---- what a settlement makes of the pool: q0 is the pool before the claim, q2 before the settlement

pub record IsHeld (q0 q2 : Pooled) (n : ℕ) : Type 0 where
  pub slots : q2.slots ≡ marked_as q0.slots n claimed
  pub nodes : q2.nodes ≡ q0.nodes
  pub stopped : q2.stopped ≡ q0.stopped
  pub halted : q2.halted ≡ q0.halted

module _ (q0 q2 q3 : Pooled) (n : ℕ) (held : IsHeld q0 q2 n) (free : HasNone q0.slots claimed) (next : IsNext q0.slots n) (s : made.Settlement) (same : s.work.node ≡ n) where
  slots_then : settled q2.slots s ≡ settled (marked_as q0.slots n claimed) s
  slots_then = ap (λ (xs : List Slot). settled xs s) held.slots

  pub free_then : q3 ≡ record q2 { slots = settled q2.slots s } → HasNone q3.slots claimed
  free_then e = subst (λ (xs : List Slot). HasNone xs claimed) (sym (ap (λ (q : Pooled). q.slots) e ∙ slots_then)) (settled_free q0.slots n free next s same)

  closed_less : (IsSplit s.outcome → ⊥) → (new_slots s.outcome ≡ [])
  closed_less h = by_outcome s.outcome h
    where
      by_outcome : (o : made.Outcome) → (IsSplit o → ⊥) → new_slots o ≡ []
      by_outcome made.Close g = refl
      by_outcome (made.Branch stay column v left right ls rs) g = absurd (g tt)

  split_two : IsSplit s.outcome → (length (new_slots s.outcome) ≡ 2) × (count_open (new_slots s.outcome) ≡ 2)
  split_two h = by_outcome s.outcome h
    where
      by_outcome : (o : made.Outcome) → IsSplit o → (length (new_slots o) ≡ 2) × (count_open (new_slots o) ≡ 2)
      by_outcome made.Close g = absurd g
      by_outcome (made.Branch stay column v left right ls rs) g = (refl, refl)

  long : q3 ≡ record q2 { slots = settled q2.slots s } → length q3.slots ≡ length q0.slots + length (new_slots s.outcome)
  long e = ap (λ (xs : List Slot). length xs) (ap (λ (q : Pooled). q.slots) e ∙ slots_then) ∙ settled_length q0.slots n free next s same

  opens : q3 ≡ record q2 { slots = settled q2.slots s } → count_open q3.slots + 1 ≡ count_open q0.slots + count_open (new_slots s.outcome)
  opens e = let f : List Slot → ℕ = λ xs. count_open xs + 1 in ap f (ap (λ (q : Pooled). q.slots) e ∙ slots_then) ∙ settled_count q0.slots n free next s same

  pub closed_goes_on : IsSettled q2 s q3 WasClosed → GoesOn q0 q3
  closed_goes_on h =
      let e = h.2 in
      let none = closed_less h.1 in
      let nodes : q3.nodes ≡ q0.nodes = ap (λ (q : Pooled). q.nodes) e ∙ held.nodes in
      let l = long e in let c = opens e in
      let zl = ap (λ (xs : List Slot). length xs) none in
      let zc = ap count_open none in
      record {
        nodes = nodes;
        grown = omega (arith, l);
        stopped = ap (λ (q : Pooled). q.stopped) e ∙ held.stopped;
        halted = ap (λ (q : Pooled). q.halted) e ∙ held.halted;
        less = omega (arith, nodes, l, c, zl, zc);
      }

  pub split_goes_on : IsSettled q2 s q3 WasSplit → GoesOn q0 q3
  split_goes_on h =
      let e = h.3 in
      let two = split_two h.1 in
      let nodes : q3.nodes ≡ q0.nodes = ap (λ (q : Pooled). q.nodes) e ∙ held.nodes in
      let room = h.2 in
      let marked = ap (λ (xs : List Slot). length xs) held.slots ∙ length_marked q0.slots n free next in
      let l = long e in let c = opens e in
      record {
        nodes = nodes;
        grown = omega (arith, l);
        stopped = ap (λ (q : Pooled). q.stopped) e ∙ held.stopped;
        halted = ap (λ (q : Pooled). q.halted) e ∙ held.halted;
        less = omega (arith, nodes, l, c, two, room, marked, held.nodes);
      }

  pub halted_is_over : IsSettled q2 s q3 Halted → IsOver q0 q3
  halted_is_over h =
      let e = h.3 in
      let nodes : q3.nodes ≡ q0.nodes = ap (λ (q : Pooled). q.nodes) e ∙ held.nodes in
      let slots : q3.slots ≡ reopened (marked_as q0.slots n claimed) n = ap (λ (q : Pooled). q.slots) e ∙ ap (λ (xs : List Slot). reopened xs s.work.node) held.slots ∙ ap (reopened (marked_as q0.slots n claimed)) same in
      let l = ap (λ (xs : List Slot). length xs) slots ∙ reopened_length q0.slots n free next in
      let marked = ap (λ (xs : List Slot). length xs) held.slots ∙ length_marked q0.slots n free next in
      let problem : q2.problem ≡ q3.problem = sym (ap (λ (q : Pooled). q.problem) e) in
      record { nodes = nodes; grown = omega (arith, l); over = inr (inr (subst (λ (p : Problem). IsFull p q3.nodes (length q3.slots)) problem (full_as q2.problem q2.nodes q3.nodes (length q2.slots) (length q3.slots) (omega (arith, nodes, held.nodes)) (omega (arith, l, marked)) h.2))) }

  pub halted_free : IsSettled q2 s q3 Halted → HasNone q3.slots claimed
  halted_free h =
      let slots : q3.slots ≡ reopened (marked_as q0.slots n claimed) n = ap (λ (q : Pooled). q.slots) h.3 ∙ ap (λ (xs : List Slot). reopened xs s.work.node) held.slots ∙ ap (reopened (marked_as q0.slots n claimed)) same in
      subst (λ (xs : List Slot). HasNone xs claimed) (sym slots) (reopened_free q0.slots n free next)

-- ---- one step of a run: a node was claimed, a turn made of it, and the caps were lowered

pub record IsTurned (problem : Scenarios) (table : TableId) (q0 q1 q2 : Pooled) (f0 f1 f2 : Found) (w : Work) (s : Settlement) (note : Seat) : Type 0 where
  pub ready : IsReady problem table q0 f0
  pub claim : IsClaim q0 q1 (Node w)
  pub many : length q1.caps ≡ length (problems.problem problem).scenarios
  pub first_sound : IsSound f0
  pub sound : IsSound f1
  pub worse : IsNoWorse f0 f1
  pub turn : IsTurn (problems.problem problem) (work_of w) f1 s note
  pub same : q2 ≡ record q1 { caps = q2.caps }
  pub lowered : AreLowered q1.caps q2.caps note.view.caps
  pub holder : IsSameHolder f1 f2
  pub points : f2.points ≡ f1.points
  pub noted : HasAll f1.seat.view → (k : ℕ) → k < scenario_count f1.problem → code_at f1.seat.view.offers k ≤ code_at note.view.caps k

module _ (problem : Scenarios) (table : TableId) (q0 q1 q2 : Pooled) (f0 f1 f2 : Found) (w : Work) (s : Settlement) (note : Seat) (h : IsTurned problem table q0 q1 q2 f0 f1 f2 w s note) where
  pub turned_held : IsHeld q0 q2 w.node
  turned_held = record {
    slots = ap (λ (q : Pooled). q.slots) h.same ∙ ap (λ (q : Pooled). q.slots) h.claim.3;
    nodes = ap (λ (q : Pooled). q.nodes) h.same ∙ ap (λ (q : Pooled). q.nodes) h.claim.3;
    stopped = ap (λ (q : Pooled). q.stopped) h.same ∙ ap (λ (q : Pooled). q.stopped) h.claim.3;
    halted = ap (λ (q : Pooled). q.halted) h.same ∙ ap (λ (q : Pooled). q.halted) h.claim.3;
  }

  posed : q2.problem ≡ problems.problem problem
  posed = ap (λ (q : Pooled). q.problem) h.same ∙ (ap (λ (q : Pooled). q.problem) h.claim.3 ∙ h.ready.pool)

  pub turned_node : (settlement_of s).work.node ≡ w.node
  turned_node = ap (λ (v : made.Work). v.node) h.turn.its_work

  pub turned_may : MaySettle q2.problem q2.slots q2.caps claimed (settlement_of s)
  turned_may =
      let may : MaySettle (problems.problem problem) (marked_as q0.slots w.node claimed) q2.caps claimed (settlement_of s) = may_settle (problems.problem problem) q0.slots q1.caps q2.caps (work_of w) f1 s note h.claim.1 h.claim.2 h.turn h.lowered h.many in
      subst (λ (p : Problem). MaySettle p q2.slots q2.caps claimed (settlement_of s)) (sym posed)
      (subst (λ (xs : List Slot). MaySettle (problems.problem problem) xs q2.caps claimed (settlement_of s)) (sym turned_held.slots) may)

  finder_posed : f1.problem ≡ problem
  finder_posed = h.worse.same.problem ∙ h.ready.finder

  above : AreAbove f1 q2.caps
  above =
      let old : AreAbove f0 q1.caps = subst (AreAbove f0) (sym (ap (λ (q : Pooled). q.caps) h.claim.3)) h.ready.caps in
      let many : length q1.caps ≡ scenario_count f0.problem = h.many ∙ ap scenario_count (sym h.ready.finder) in
      let many' : length q1.caps ≡ scenario_count f1.problem = h.many ∙ ap scenario_count (sym finder_posed) in
      above_lowered f1 q1.caps q2.caps note.view.caps h.sound many' (h.noted (all_held f0 f1 h.worse.same h.ready.all)) h.lowered
      (above_falls f0 f1 q1.caps h.first_sound h.sound h.worse many old)

  pub turned_ready : (q3 : Pooled) → HasNone q3.slots claimed → q3.problem ≡ q2.problem → q3.caps ≡ q2.caps → IsReady problem table q3 f2
  turned_ready q3 free p caps = record {
    pool = p ∙ posed;
    free = free;
    caps = subst (AreAbove f2) (sym caps) (above_same f1 f2 q2.caps h.holder.problem h.points above);
    finder = h.holder.problem ∙ finder_posed;
    table_is = h.holder.table ∙ (h.worse.same.table ∙ h.ready.table_is);
    all = all_held f1 f2 h.holder (all_held f0 f1 h.worse.same h.ready.all);
  }

  -- the settlement was recorded
  pub closed_step : (q3 : Pooled) → IsSettled q2 (settlement_of s) q3 WasClosed → IsReady problem table q3 f2 × GoesOn q0 q3
  closed_step q3 g = (
    turned_ready q3 (free_then q0 q2 q3 w.node turned_held h.ready.free h.claim.1 (settlement_of s) turned_node g.2) (ap (λ (q : Pooled). q.problem) g.2) (ap (λ (q : Pooled). q.caps) g.2),
    closed_goes_on q0 q2 q3 w.node turned_held h.ready.free h.claim.1 (settlement_of s) turned_node g,
  )

  pub split_step : (q3 : Pooled) → IsSettled q2 (settlement_of s) q3 WasSplit → IsReady problem table q3 f2 × GoesOn q0 q3
  split_step q3 g = (
    turned_ready q3 (free_then q0 q2 q3 w.node turned_held h.ready.free h.claim.1 (settlement_of s) turned_node g.3) (ap (λ (q : Pooled). q.problem) g.3) (ap (λ (q : Pooled). q.caps) g.3),
    split_goes_on q0 q2 q3 w.node turned_held h.ready.free h.claim.1 (settlement_of s) turned_node g,
  )

  pub halted_step : (q3 : Pooled) → IsSettled q2 (settlement_of s) q3 Halted → IsReady problem table q3 f2 × IsOver q0 q3
  halted_step q3 g = (
    turned_ready q3 (halted_free q0 q2 q3 w.node turned_held h.ready.free h.claim.1 (settlement_of s) turned_node g) (ap (λ (q : Pooled). q.problem) g.3) (ap (λ (q : Pooled). q.caps) g.3),
    halted_is_over q0 q2 q3 w.node turned_held h.ready.free h.claim.1 (settlement_of s) turned_node g,
  )

  pub never_stray : (q3 : Pooled) → IsSettled q2 (settlement_of s) q3 Stray → ⊥
  never_stray q3 g = g.0 turned_may
