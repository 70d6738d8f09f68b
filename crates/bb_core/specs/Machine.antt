-- Branch and bound by many actors, as a machine that takes one event at a time.
use Rattle.std.specs.Prelude.{◌≡◌, ℕ, suc, ◌+◌, ◌^◌, ◌<◌, ℤ, Bool, false, nat_eq, if◌then◌else◌, List, [], ◌∷◌, ◌++◌, length, replicate, slice_get, slice_index_or, slice_set, Option, Some, None, ◌⊎◌}
use Rattle.int_model.specs.Programs.{Program, Feasible, value}
use Rattle.scenario_changes.specs.Problems.{Problem}
use Rattle.certs.specs.Levels.{lesser_level}
use Rattle.certs.specs.declared.level.Level.{Level}
use Rattle.certs.specs.declared.level.Level.TheVariants.{Value, Inf}
use Rattle.bb_core.specs.Settlements.{Settlement, Outcome, Close, Branch}
use Rattle.bb_core.specs.Coverage.{Slot, Mark, Closed, Open, Held, Stands, MaySettle, ReachesCaps, root_slot, marked_as, settled}

-- the nodes, the pool's cap and the word of each scenario, each actor's cap of each scenario, and the offers that were
-- made: scenarios and points. A cap or a word that isn't there is Inf
pub record State : Type 0 where
  pub slots : List Slot
  pub caps : List Level
  pub words : List Level
  pub views : List (List Level)
  pub offers : List (ℕ × List ℤ)

-- actors, nodes and scenarios are numbers, in this order
pub data Event : Type 0 where
  Claim : ℕ → ℕ → Event
  Look : ℕ → ℕ → Event
  Offer : ℕ → ℕ → List ℤ → Event
  Note : ℕ → Event
  Settle : ℕ → Settlement → Event
  GiveBack : ℕ → Event
  Sweep : ℕ → Event

-- one open node, and no caps, words or offers
abbrev pub begin : Problem → ℕ → State
begin p actors = record {
  slots = root_slot p ∷ [];
  caps = replicate (length p.scenarios) Inf;
  words = replicate (length p.scenarios) Inf;
  views = replicate actors (replicate (length p.scenarios) Inf);
  offers = [];
}

-- ---- when an event is allowed

abbrev pub HoldsNone : ℕ → List Slot → Type 0
HoldsNone a slots = (n : ℕ) (t : Slot) → slice_get slots n ≡ Some t → t.mark ≡ Held a → ⊥

abbrev pub is_held_by : ℕ → Mark → Bool
is_held_by a Closed = false
is_held_by a Open = false
is_held_by a (Held b) = nat_eq a b

-- the node that an actor holds; past the end where it holds none
abbrev pub held_at : ℕ → List Slot → ℕ
held_at a [] = 0
held_at a (t ∷ slots) = if is_held_by a t.mark then 0 else suc (held_at a slots)

abbrev pub FeasibleFor : Problem → ℕ → List ℤ → Type 0
FeasibleFor p k x = (s : Program) × (slice_get p.scenarios k ≡ Some s) × Feasible s x

-- the numbers of the children fit
abbrev pub HasRoom : ℕ → Outcome → Type 0
HasRoom count Close = Unit {0}
HasRoom count (Branch stay column v left right left_levels right_levels) = count + 2 < 2 ^ 32

-- the node is open, and each of its levels reaches its cap
pub record MaySweep (slots : List Slot) (caps : List Level) (n : ℕ) : Type 0 where
  pub waiting : Stands slots n Open
  pub closes : ReachesCaps caps waiting.slot.place.levels

abbrev pub Allowed : Problem → State → Event → Type 0
Allowed p st (Claim a n) = (a < length st.views) × HoldsNone a st.slots × Stands st.slots n Open
Allowed p st (Look a k) = (a < length st.views) × (k < length p.scenarios)
Allowed p st (Offer a k x) = (a < length st.views) × FeasibleFor p k x
Allowed p st (Note a) = a < length st.views
Allowed p st (Settle a s) = (a < length st.views) × MaySettle p st.slots st.caps (Held a) s × HasRoom (length st.slots) s.outcome
Allowed p st (GiveBack a) = (a < length st.views) × Stands st.slots (held_at a st.slots) (Held a)
Allowed p st (Sweep n) = MaySweep st.slots st.caps n

-- ---- what an event does

abbrev pub word_at : State → ℕ → Level
word_at st k = slice_index_or st.words k Inf

abbrev pub view_at : State → ℕ → List Level
view_at st a = slice_index_or st.views a []

-- place by place the lesser of two
abbrev pub lesser_each : List Level → List Level → List Level
lesser_each [] bs = []
lesser_each (a ∷ others) [] = a ∷ others
lesser_each (a ∷ others) (b ∷ bs) = lesser_level a b ∷ lesser_each others bs

-- the value of a point for a scenario, Inf where there is no such scenario
abbrev pub level_for : Option Program → List ℤ → Level
level_for None x = Inf
level_for (Some s) x = Value (value s x)

abbrev pub level_of : Problem → ℕ → List ℤ → Level
level_of p k x = level_for (slice_get p.scenarios k) x

-- an actor's cap of a scenario becomes this level
abbrev pub seen : State → ℕ → ℕ → Level → List (List Level)
seen st a k l = slice_set st.views a (slice_set (view_at st a) k l)

-- the word after an offer
abbrev pub offered : Problem → State → ℕ → List ℤ → Level
offered p st k x = lesser_level (word_at st k) (level_of p k x)

abbrev pub after : Problem → State → Event → State
after p st (Claim a n) = record st { slots = marked_as st.slots n (Held a) }
after p st (Look a k) = record st { views = seen st a k (word_at st k) }
after p st (Offer a k x) = record st { words = slice_set st.words k (offered p st k x); views = seen st a k (offered p st k x); offers = st.offers ++ (k, x) ∷ [] }
after p st (Note a) = record st { caps = lesser_each st.caps (view_at st a) }
after p st (Settle a s) = record st { slots = settled st.slots s }
after p st (GiveBack a) = record st { slots = marked_as st.slots (held_at a st.slots) Open }
after p st (Sweep n) = record st { slots = marked_as st.slots n Closed }

-- ---- lists of events

-- the events lead from one state to another, each allowed where it comes
abbrev pub Leads : Problem → State → List Event → State → Type 0
Leads p st [] last = st ≡ last
Leads p st (e ∷ es) last = Allowed p st e × Leads p (after p st e) es last

-- one of the events isn't allowed where it comes, and those before it are
abbrev pub Fails : Problem → State → List Event → Type 0
Fails p st [] = ⊥
Fails p st (e ∷ es) = (Allowed p st e → ⊥) ⊎ (Allowed p st e × Fails p (after p st e) es)

-- some events lead to the state from the start
pub record Reached (p : Problem) (st : State) : Type 0 where
  pub actors : ℕ
  pub events : List Event
  pub led : Leads p (begin p actors) events st
