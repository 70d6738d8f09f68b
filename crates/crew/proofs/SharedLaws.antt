-- What the calls under the lock leave as it was, and what they make of the caps and of what is claimed.
use Rattle.std.specs.Prelude.{◌≡◌, ◌<◌, ◌≤◌, ◌+◌, ℕ, zero, suc, ℤ, List, [], ◌∷◌, length, replicate, slice_index_or, slice_set, Option, Some, None, IsTrue, Bool, true, false, cond, refl}
use Rattle.std.proofs.Common.{arith, ap, sym, ◌∙◌, subst, length-set}
use Rattle.std.proofs.lemmas.List.{get_or-replicate, get_or-set_other, length-replicate}
use Rattle.std.proofs.lemmas.Option.{get_or_from_slice_get}
use native.Mathlib.Decide.{ℕ_discrete}
use Rattle.scenario_changes.specs.Problems.{Problem, Scenarios}
use Rattle.scenario_changes.specs.Problems as problems
use Rattle.certs.specs.Levels.{level_le, cap_level}
use Rattle.certs.specs.declared.level.Level.{Level}
use Rattle.certs.specs.declared.level.Level.TheVariants.{Inf}
use Rattle.bb_core.specs.Coverage.{Slot, Open, slot_at, marked_as}
use Rattle.bb_core.specs.Settlements as made
use Rattle.bb_core.specs.Settlements.{Settlement}
use Rattle.bb_core.specs.declared.work.Settlement.{Settlement as Made}
use Rattle.bb_core.specs.declared.work.Work.{Work}
use Rattle.bb_core.proofs.ListWrites.{get-below}
use Rattle.incumbent_words.specs.Rule.{code_at, note_of, IsNote}
use Rattle.incumbent_words.specs.Seats.{Held as Seat}
use Rattle.incumbent_words.specs.declared.view.View.{View}
use Rattle.finder.specs.Found.{Found}
use Rattle.open_pool.specs.Marks.{claimed, is_held_by}
use Rattle.open_pool.specs.Pooled.{Pooled, HasNone, is_claimed, reopened}
use Rattle.open_pool.specs.Claims.{FitsProblem, IsClaim, IsSettled}
use Rattle.open_pool.specs.declared.pool.Claim.{Claim}
use Rattle.open_pool.specs.declared.pool.Claim.TheVariants.{Node, Wait, Done, Stopped}
use Rattle.open_pool.specs.declared.pool.Settled.{Settled}
use Rattle.open_pool.specs.declared.pool.Settled.TheVariants.{Closed as IsClosed, Split, Halted, Stray}
use Rattle.alone_run.specs.Turns.{IsTurn}
use Rattle.alone_run.specs.Steps.{AreLowered}
use Rattle.alone_run.proofs.CodeOrder.{code_level, below_both}
use Rattle.crew.specs.Shares.{AreAtMost, IsWorkFor}

-- ---- the same pool but for its slots and marks

pub record IsSamePool (p q : Pooled) : Type 0 where
  pub problem : q.problem ≡ p.problem
  pub nodes : q.nodes ≡ p.nodes
  pub caps : q.caps ≡ p.caps

same_but : (p q r : Pooled) → IsSamePool p r → q ≡ r → IsSamePool p q
same_but p q r h e = record {
  problem = ap (λ (x : Pooled). x.problem) e ∙ h.problem;
  nodes = ap (λ (x : Pooled). x.nodes) e ∙ h.nodes;
  caps = ap (λ (x : Pooled). x.caps) e ∙ h.caps;
}

pub claim_same : (p q : Pooled) (c : Claim) → IsClaim p q c → IsSamePool p q
claim_same p q (Node w) h = same_but p q _ (record { problem = refl; nodes = refl; caps = refl }) h.3
claim_same p q Wait h = same_but p q p (record { problem = refl; nodes = refl; caps = refl }) h.3
claim_same p q Done h = same_but p q p (record { problem = refl; nodes = refl; caps = refl }) h.3
claim_same p q Stopped h = same_but p q p (record { problem = refl; nodes = refl; caps = refl }) h.1

pub settled_same : (p q : Pooled) (s : Settlement) (r : Settled) → IsSettled p s q r → IsSamePool p q
settled_same p q s Stray h = same_but p q _ (record { problem = refl; nodes = refl; caps = refl }) h.1
settled_same p q s Halted h = same_but p q _ (record { problem = refl; nodes = refl; caps = refl }) h.3
settled_same p q s IsClosed h = same_but p q _ (record { problem = refl; nodes = refl; caps = refl }) h.2
settled_same p q s Split h = same_but p q _ (record { problem = refl; nodes = refl; caps = refl }) h.3

-- ---- caps

below_inf : (v : Option ℤ) → IsTrue (level_le (cap_level v) Inf)
below_inf None = refl
below_inf (Some v) = refl

-- codes are at most the caps of a fresh pool
pub at_most_none : (codes : List ℕ) (n : ℕ) → AreAtMost codes (replicate n Inf)
at_most_none codes n k lt v fits le =
    let none : slice_index_or (replicate n Inf) k Inf ≡ Inf = get_or-replicate n k Inf Inf (omega (arith, length-replicate n Inf, lt)) in
    subst (λ (l : Level). IsTrue (level_le (cap_level v) l)) (sym none) (below_inf v)

-- the caps are lowered by codes that are at most the old ones
pub at_most_lowered : (codes then : List ℕ) (caps lowered : List Level) → AreAtMost codes caps → AreLowered caps lowered then → ((k : ℕ) → code_at then k ≤ code_at codes k) → AreAtMost then lowered
at_most_lowered codes then caps lowered h low le k lt v fits under =
    let below : k < length caps = omega (arith, low.count, lt) in
    let e = low.each k below in
    subst (λ (l : Level). IsTrue (level_le (cap_level v) l)) (sym e.lesser)
    (below_both (cap_level v) (slice_index_or caps k Inf) (cap_level e.value)
    (h k below v fits (omega (arith, le k, under)))
    (code_level v e.value fits e.limit (omega (arith, e.value_is, under))))

pub note_is : (v : View) → IsNote (note_of v)
note_is v = record { offers = refl; numbers = refl; leads = refl; count = refl }

-- ---- a turn

-- a turn may be made of a work for the run's problem
pub work_fits : (s : Scenarios) (p : Problem) (w : Work) → problems.problem s ≡ p → IsWorkFor p w → FitsProblem (problems.problem s) (Node w)
work_fits s p w e h = subst (λ (r : Problem). FitsProblem r (Node w)) (sym e) h

pub turn_note : (p : Problem) (w : made.Work) (f : Found) (s : Made) (note : Seat) → IsTurn p w f s note → IsNote note.view
turn_note p w f s note h = subst IsNote (sym h.view) (note_is f.seat.view)

-- ---- what is claimed

opened_at : (slots : List Slot) (n : ℕ) (t : Slot) → is_held_by 0 t.mark ≡ false → is_claimed (slice_set slots n t) n ≡ false
opened_at [] n t h = refl
opened_at (u ∷ slots) zero t h = h
opened_at (u ∷ slots) (suc n) t h = opened_at slots n t h

-- a node that is opened isn't claimed, and no other one becomes claimed
pub released : (slots : List Slot) (n k : ℕ) → ((k ≡ n → ⊥) → is_claimed slots k ≡ false) → is_claimed (reopened slots n) k ≡ false
released slots n k h = by_test (is_claimed slots n) refl
  where
    opened : Slot
    opened = record (slot_at slots n) { mark = Open }

    by_test : (b : Bool) → is_claimed slots n ≡ b → is_claimed (cond b (marked_as slots n Open) slots) k ≡ false
    by_test true e = elim (ℕ_discrete k n) [
      | yes same ↦ ap (λ (m : ℕ). is_claimed (marked_as slots n Open) m) same ∙ opened_at slots n (record (slot_at slots n) { mark = Open }) refl
      | no other ↦ ap (λ (t : Slot). is_held_by 0 t.mark) (get_or-set_other slots n k (record (slot_at slots n) { mark = Open }) _ other) ∙ h other
    ]
    by_test false e = elim (ℕ_discrete k n) [
      | yes same ↦ ap (is_claimed slots) same ∙ e
      | no other ↦ h other
    ]

pub length_reopened : (slots : List Slot) (n : ℕ) → length (reopened slots n) ≡ length slots
length_reopened slots n = by_test (is_claimed slots n)
  where
    by_test : (b : Bool) → length (cond b (marked_as slots n Open) slots) ≡ length slots
    by_test true = length-set slots n (record (slot_at slots n) { mark = Open })
    by_test false = refl

pub none_claimed : (slots : List Slot) → ((k : ℕ) → k < length slots → is_claimed slots k ≡ false) → HasNone slots claimed
none_claimed slots h n t found mark =
    let here : is_claimed slots n ≡ is_held_by 0 t.mark = ap (λ (u : Slot). is_held_by 0 u.mark) (get_or_from_slice_get slots n t _ found) in
    let yes : is_claimed slots n ≡ true = here ∙ ap (is_held_by 0) mark in
    absurd (let no : true ≡ false = sym yes ∙ h n (get-below slots n t found) in cc)

-- a loop that has come to node n
pub record ReleasedSoFar (q0 q : Pooled) (n : ℕ) : Type 0 where
  pub same : q ≡ record q0 { slots = q.slots }
  pub count : length q.slots ≡ length q0.slots
  pub free : (k : ℕ) → k < n → is_claimed q.slots k ≡ false

pub released_none : (q : Pooled) → ReleasedSoFar q q 0
released_none q = record { same = refl; count = refl; free = λ k lt. absurd (omega (arith, lt)) }

pub released_more : (q0 q r : Pooled) (n : ℕ) → ReleasedSoFar q0 q n → r ≡ record q { slots = reopened q.slots n } → ReleasedSoFar q0 r (n + 1)
released_more q0 q r n h e =
    let slots : r.slots ≡ reopened q.slots n = ap (λ (t : Pooled). t.slots) e in
    record {
      same = e ∙ ap (λ (t : Pooled). record t { slots = reopened q.slots n }) h.same ∙ ap (λ (ss : List Slot). record q0 { slots = ss }) (sym slots);
      count = ap (λ (ss : List Slot). length ss) slots ∙ (length_reopened q.slots n ∙ h.count);
      free = λ k lt. ap (λ (ss : List Slot). is_claimed ss k) slots ∙ released q.slots n k (λ other. h.free k (omega (arith, lt, other)));
    }

pub released_all : (q0 q : Pooled) (n : ℕ) → ReleasedSoFar q0 q n → length q0.slots ≤ n → HasNone q.slots claimed
released_all q0 q n h le = none_claimed q.slots (λ k lt. h.free k (omega (arith, lt, h.count, le)))
