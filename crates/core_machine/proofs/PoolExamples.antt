-- Worked examples of a pool as a part of the machine, by computing.
use Rattle.std.specs.Prelude.{◌≡◌, ℕ, zero, suc, pos, negsuc, true, IsTrue, slice_get, [], ◌∷◌, List, Option, Some, None, refl}
use Rattle.std.proofs.Common.{arith, rules, ap, sym, ◌∙◌, subst}
use Rattle.int_model.specs.Programs.{Program, Feasible}
use Rattle.scenario_changes.specs.Problems.{Problem}
use Rattle.certs.specs.Levels.{level_le}
use Rattle.certs.specs.declared.level.Level.{Level}
use Rattle.certs.specs.declared.level.Level.TheVariants.{Value, Inf}
use Rattle.certs.specs.declared.verdict.Verdict.TheVariants.{Point}
use Rattle.bb_core.specs.Settlements.{Settlement, Close}
use Rattle.bb_core.specs.Coverage.{Mark, Slot, Closed, Open, Held, MaySettle, ReachesCaps, marked_as, root_slot, settled}
use Rattle.bb_core.specs.Machine.{State, Claim, Settle, GiveBack, Note, after, begin, word_at}
use Rattle.bb_core.specs.Interleavings.{IsOptimum}
use Rattle.open_pool.specs.Marks.{claimed}
use Rattle.open_pool.specs.Pooled.{Pooled, begun, reopened}
use Rattle.open_pool.specs.declared.pool.Claim.TheVariants.{Wait, Done}
use Rattle.open_pool.specs.declared.pool.Settled.TheVariants.{Closed as IsClosed, Split, Halted, Stray}
use Rattle.core_machine.specs.Pools.{IsPart, IsEvent, IsClaimBy, AreLesser, answer_event, pool_mark}
use Rattle.core_machine.proofs.PoolLemmas.{judged-alike}

-- one scenario without columns or rows
abbrev empty_program : Program
empty_program = record { costs = []; constant = pos 0; bounds = []; rows = []; ends = [] }

abbrev p : Problem
p = record { columns = 0; rows = 0; scenarios = empty_program ∷ [] }

-- actor 1 of two holds the root
abbrev held : State
held = after p (begin p 2) (Claim 1 0)

abbrev claimed_pool : Pooled
claimed_pool = record (begun p 9) { slots = marked_as (begun p 9).slots 0 claimed }

-- ---- marks

-- whoever holds a node, it is claimed, and an open one isn't
held_is_claimed : pool_mark (Held 3) ≡ claimed
held_is_claimed = refl

open_goes_on : pool_mark Open ≡ claimed → ⊥
open_goes_on e = absurd (cc)

closed_is_done : pool_mark Closed ≡ claimed → ⊥
closed_is_done e = absurd (cc)

-- ---- parts

-- a pool doesn't know who claimed
part_of_held : IsPart p claimed_pool held
part_of_held = record { problem = refl; slots = refl; caps = refl }

part_of_other : IsPart p claimed_pool (after p (begin p 2) (Claim 0 0))
part_of_other = record { problem = refl; slots = refl; caps = refl }

-- a stopped pool is still a part, and a pool with a cap that the machine hasn't is none
stopped_part : IsPart p (record claimed_pool { stopped = true }) held
stopped_part = record { problem = refl; slots = refl; caps = refl }

other_caps : IsPart p (record claimed_pool { caps = Value (pos 4) ∷ [] }) held → ⊥
other_caps h = let e : Value (pos 4) ∷ [] ≡ Inf ∷ [] = h.caps in absurd (cc)

first_mark : List Slot → Mark
first_mark [] = Closed
first_mark (t ∷ slots) = t.mark

-- a claimed node isn't open in the machine
not_begun : IsPart p claimed_pool (begin p 2) → ⊥
unfolding first_mark
not_begun h = let e : claimed ≡ Open = ap first_mark h.slots in absurd (cc)

-- ---- claims

-- an actor who holds a node claims none
holds_one : (now : Pooled) → IsEvent p held (Claim 1 0) now → ⊥
holds_one now h = h.allowed.1 0 (record (root_slot p) { mark = Held 1 }) refl refl

-- where a node is held the work isn't done, and may have to be waited for
not_done : IsClaimBy p held 0 claimed_pool Done → ⊥
not_done h = let e : Held 1 ≡ Closed = h.1 0 (record (root_slot p) { mark = Held 1 }) refl in absurd (cc)

-- and no offer was made yet, though the point without numbers is feasible
empty_point : Feasible empty_program []
empty_point = search rules

no_optimum : IsOptimum empty_program (word_at held 0) → ⊥
no_optimum h = h [] empty_point

waits : IsClaimBy p held 0 claimed_pool Wait
waits = part_of_held

-- ---- settlements

-- another actor's node, which the pool would let it settle
others_node : (s : Settlement) → MaySettle p held.slots held.caps (Held 0) s → s.work.node ≡ 0 → ⊥
others_node s h e = by_slot h.held.slot (ap (λ (n : ℕ). slice_get held.slots n) (sym e) ∙ h.held.found) h.held.marked
  where
    by_slot : (t : Slot) → Some (record (root_slot p) { mark = Held 1 }) ≡ Some t → t.mark ≡ Held 0 → ⊥
    by_slot t g m = let r : Held 1 ≡ Held 0 = ap mark_in g ∙ m in absurd (cc)
      where
        mark_in : Option Slot → Mark
        mark_in None = Closed
        mark_in (Some u) = u.mark

-- the root ends by its one point, whose value is 0
abbrev closing : Settlement
closing = record {
  work = record { node = 0; bounds = []; live = 0 ∷ []; levels = Value (pos 0) ∷ [] };
  cert = record { steps = []; vectors = [] };
  verdicts = Point ∷ [];
  outcome = Close;
}

settled_part : IsPart p (record claimed_pool { slots = settled claimed_pool.slots closing }) (after p held (answer_event 1 closing IsClosed))
settled_part = record { problem = refl; slots = refl; caps = refl }

-- the pool is no longer what it was
not_claimed_still : IsPart p claimed_pool (after p held (answer_event 1 closing IsClosed)) → ⊥
unfolding first_mark
not_claimed_still h = let e : claimed ≡ Closed = ap first_mark h.slots in absurd (cc)

-- a cap of 0 is reached by the level 0, in the pool and in the machine
reached : ReachesCaps (Value (pos 0) ∷ []) (Some (Value (pos 0)) ∷ [])
reached zero l e = let q : Value (pos 0) ≡ l = cc in subst (λ (m : Level). IsTrue (level_le (Value (pos 0)) m)) q refl
reached (suc k) l e = absurd (cc)

may_close : MaySettle p held.slots (Value (pos 0) ∷ []) (Held 1) closing
may_close = record {
  held = record { slot = record (root_slot p) { mark = Held 1 }; found = refl; marked = refl };
  its_work = refl;
  lawful = record { valid = refl; children_are = tt };
  closes = reached;
}

pool_may_close : MaySettle p claimed_pool.slots (Value (pos 0) ∷ []) claimed closing
pool_may_close = (judged-alike p held.slots (Value (pos 0) ∷ []) 1 closing may_close.held).0 may_close

-- what isn't recorded gives the node back
recorded_settles : (s : Settlement) → answer_event 1 s Split ≡ Settle 1 s
recorded_settles s = refl

stray_gives_back : (s : Settlement) → answer_event 1 s Stray ≡ GiveBack 1
stray_gives_back s = refl

halted_settles_nothing : (s : Settlement) → answer_event 1 s Halted ≡ Settle 1 s → ⊥
halted_settles_nothing s e = absurd (cc)

-- ---- nodes that are given back

given_back : IsEvent p held (GiveBack 1) (record claimed_pool { slots = reopened claimed_pool.slots 0 })
given_back = record {
  allowed = (omega arith, record { slot = record (root_slot p) { mark = Held 1 }; found = refl; marked = refl });
  part = record { problem = refl; slots = refl; caps = refl };
}

-- an open node stays open, and the machine has nothing to do
open_stays : IsPart p (record (begun p 9) { slots = reopened (begun p 9).slots 0 }) (begin p 2)
open_stays = record { problem = refl; slots = refl; caps = refl }

-- but a held one is opened, and that is an event
held_opens : IsPart p (record claimed_pool { slots = reopened claimed_pool.slots 0 }) held → ⊥
unfolding first_mark
held_opens h = let e : Open ≡ claimed = ap first_mark h.slots in absurd (cc)

-- who holds none gives none back
nothing_held : (now : Pooled) → IsEvent p held (GiveBack 0) now → ⊥
nothing_held now h = absurd (let e : slice_get held.slots 1 ≡ Some h.allowed.1.slot = h.allowed.1.found in cc)

-- ---- notes

abbrev told : State
told = record held { views = (Value (pos 4) ∷ []) ∷ (Value (negsuc 0) ∷ []) ∷ [] }

-- the caps of the actor who notes, and of no other
noted : IsEvent p told (Note 0) (record claimed_pool { caps = Value (pos 4) ∷ [] })
noted = record { allowed = omega arith; part = record { problem = refl; slots = refl; caps = refl } }

not_the_other : IsEvent p told (Note 0) (record claimed_pool { caps = Value (negsuc 0) ∷ [] }) → ⊥
not_the_other h = let e : Value (negsuc 0) ∷ [] ≡ Value (pos 4) ∷ [] = h.part.caps in absurd (cc)

-- a cap that stays greater than the actor's isn't lowered
not_lowered : AreLesser (Inf ∷ []) (Inf ∷ []) (Value (pos 4) ∷ []) → ⊥
not_lowered h = let e : Inf ≡ Value (pos 4) = h.each 0 (omega arith) in absurd (cc)
