-- One actor on a problem without columns, by computing: the empty point is feasible, and its value is 0.
use Rattle.std.specs.Prelude.{◌≡◌, ℕ, ◌<◌, ℤ, zero, suc, pos, negsuc, slice_get, [], ◌∷◌, Some, None, refl, IsTrue, false}
use Rattle.std.proofs.Common.{arith, rules, subst, sym, inl, inr}
use Rattle.int_model.specs.Programs.{Program, Feasible}
use Rattle.scenario_changes.specs.Problems.{Problem}
use Rattle.certs.specs.Levels.{level_le}
use Rattle.certs.specs.declared.level.Level.{Level}
use Rattle.certs.specs.declared.level.Level.TheVariants.{Value, Inf}
use Rattle.certs.specs.declared.tree.Node.TheVariants.{Rest, Leaf}
use Rattle.certs.specs.declared.verdict.Verdict.TheVariants.{Point}
use Rattle.bb_core.specs.Settlements.{Settlement, Close, place_of}
use Rattle.bb_core.specs.Coverage.{Slot, Closed, Open, Held, ReachesCaps}
use Rattle.bb_core.specs.Machine.{State, Claim, Offer, Note, Settle, GiveBack, Allowed, after, begin, Leads, Fails, MaySweep, lesser_each, word_at, offered}

-- one row without terms, whose sum is to be at least b
abbrev at_least : ℤ → Program
at_least b = record { costs = []; constant = pos 0; bounds = []; rows = [] ∷ []; ends = record { lower = Some b; upper = None } ∷ [] }

abbrev p : Problem
p = record { columns = 0; rows = 1; scenarios = at_least (pos 0) ∷ [] }

empty_point : Feasible (at_least (pos 0)) []
empty_point = search rules

abbrev settlement : Settlement
settlement = record {
  work = record { node = 0; bounds = []; live = 0 ∷ []; levels = Value (pos 0) ∷ [] };
  cert = record { steps = []; vectors = [] };
  verdicts = Point ∷ [];
  outcome = Close;
}

abbrev claimed : State
claimed = after p (begin p 1) (Claim 0 0)

abbrev offered_to : State
offered_to = after p claimed (Offer 0 0 [])

abbrev noted : State
noted = after p offered_to (Note 0)

abbrev settled_at : State
settled_at = after p noted (Settle 0 settlement)

abbrev waiting : Slot
waiting = record { node = Rest; place = record { box = []; levels = Some (Value (pos 0)) ∷ [] }; mark = Open }

-- ---- claims

claim_allowed : Allowed p (begin p 1) (Claim 0 0)
claim_allowed = (omega arith, none, record { slot = waiting; found = refl; marked = refl })
  where
    some_waiting : {t : Slot} → Some waiting ≡ Some t → t.mark ≡ Held 0 → ⊥
    some_waiting e m = absurd (let g : Open ≡ Held 0 = subst (λ (t : Slot). t.mark ≡ Held 0) (sym_same e) m in cc)
      where
        sym_same : {t : Slot} → Some waiting ≡ Some t → t ≡ waiting
        sym_same e = cc

    none : (n : ℕ) (t : Slot) → slice_get (waiting ∷ []) n ≡ Some t → t.mark ≡ Held 0 → ⊥
    none zero t e m = some_waiting e m
    none (suc n) t e m = absurd (cc)

-- there is no second actor
no_such_actor : Allowed p (begin p 1) (Claim 1 0) → ⊥
no_such_actor h = absurd (let e : 1 < 1 = h.0 in omega arith)

-- a held node isn't open, and its holder holds one
no_second_claim : Allowed p claimed (Claim 0 0) → ⊥
no_second_claim h = h.1 0 (record waiting { mark = Held 0 }) refl refl

-- what is given back is open
given_back : after p claimed (GiveBack 0) ≡ begin p 1
given_back = refl

-- ---- offers and notes

offer_allowed : Allowed p claimed (Offer 0 0 [])
offer_allowed = (omega arith, (at_least (pos 0), refl, empty_point))

-- an offer lowers the word and the actor's own cap, and not the pool's
words_after : offered_to.words ≡ Value (pos 0) ∷ []
words_after = refl

views_after : offered_to.views ≡ (Value (pos 0) ∷ []) ∷ []
views_after = refl

caps_before : offered_to.caps ≡ Inf ∷ []
caps_before = refl

caps_after : noted.caps ≡ Value (pos 0) ∷ []
caps_after = refl

-- a word doesn't rise, and neither does a cap
word_stays : offered p (record offered_to { words = Value (negsuc 0) ∷ [] }) 0 [] ≡ Value (negsuc 0)
word_stays = refl

cap_stays : lesser_each (Value (pos 1) ∷ Value (pos 5) ∷ []) (Value (pos 4) ∷ Value (pos 2) ∷ []) ≡ Value (pos 1) ∷ Value (pos 2) ∷ []
cap_stays = refl

-- ---- settlements

-- before the note the cap is Inf, which the level 0 doesn't reach
no_early_settlement : Allowed p offered_to (Settle 0 settlement) → ⊥
no_early_settlement h = absurd (let e : IsTrue false = h.1.closes 0 (Value (pos 0)) refl in cc)

closing : ReachesCaps (Value (pos 0) ∷ []) (Some (Value (pos 0)) ∷ [])
closing zero l e = let q : Value (pos 0) ≡ l = cc in subst (λ (m : Level). IsTrue (level_le (Value (pos 0)) m)) q refl
closing (suc k) l e = absurd (cc)

settle_allowed : Allowed p noted (Settle 0 settlement)
settle_allowed = (
  omega arith,
  record {
    held = record { slot = record waiting { mark = Held 0 }; found = refl; marked = refl };
    its_work = refl;
    lawful = record { valid = refl; children_are = tt };
    closes = closing;
  },
  tt,
)

word_zero : word_at settled_at 0 ≡ Value (pos 0)
word_zero = refl

node_closed : settled_at.slots ≡ record { node = Leaf settlement.cert settlement.verdicts; place = place_of settlement.work; mark = Closed } ∷ []
node_closed = refl

-- ---- sweeps

swept : MaySweep (waiting ∷ []) (Value (pos 0) ∷ []) 0
swept = record { waiting = record { slot = waiting; found = refl; marked = refl }; closes = closing }

-- a level one below its cap
not_swept : MaySweep (waiting ∷ []) (Value (pos 1) ∷ []) 0 → ⊥
not_swept h = below h.waiting.slot h.waiting.found h.closes
  where
    same : {t : Slot} → Some waiting ≡ Some t → waiting ≡ t
    same e = cc

    below : (t : Slot) → Some waiting ≡ Some t → ReachesCaps (Value (pos 1) ∷ []) t.place.levels → ⊥
    below t e h = absurd (let w : IsTrue false = subst (λ (u : Slot). ReachesCaps (Value (pos 1) ∷ []) u.place.levels) (sym (same e)) h 0 (Value (pos 0)) refl in cc)

-- ---- lists of events

run : Leads p (begin p 1) (Claim 0 0 ∷ Offer 0 0 [] ∷ Note 0 ∷ Settle 0 settlement ∷ []) settled_at
run = (claim_allowed, (offer_allowed, (omega arith, (settle_allowed, refl))))

-- the settlement comes before the note
fails : Fails p (begin p 1) (Claim 0 0 ∷ Offer 0 0 [] ∷ Settle 0 settlement ∷ Note 0 ∷ [])
fails = inr (claim_allowed, inr (offer_allowed, inl no_early_settlement))

-- where each event is allowed, none fails
passes : Fails p claimed (Offer 0 0 [] ∷ []) → ⊥
passes (inl h) = h offer_allowed
passes (inr h) = h.1
