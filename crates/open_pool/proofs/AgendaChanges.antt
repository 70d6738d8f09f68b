-- What changes of nodes leave of the first open ones.
use Rattle.std.specs.Prelude.{◌≡◌, ℕ, zero, suc, ◌<◌, ◌≤◌, ◌+◌, ◌*◌, ◌/◌, List, [], ◌∷◌, ◌++◌, length, slice_set, slice_index_or, Option, Some, None, refl}
use Rattle.std.proofs.Common.{arith, ap, sym, ◌∙◌, subst, inl, inr}
use Rattle.std.proofs.lemmas.Bool.{cases_eq}
use Rattle.std.proofs.lemmas.List.{get_or-set_other, length-set}
use Rattle.certs.specs.Levels.{level_le}
use Rattle.certs.specs.declared.level.Level.{Level}
use Rattle.bb_core.specs.Settlements.{Settlement, place_of, recorded}
use Rattle.bb_core.specs.Coverage.{Closed, Slot, slot_at, settled, new_slots}
use Rattle.open_pool.specs.Agenda.{least_at, IsOpenIn, FirstIn, IsRight, AreFirsts, IsRefreshed}
use Rattle.open_pool.specs.Marks.{least_live}

-- ---- nodes that are the same

module _ (slots others : List Slot) (start end : ℕ) (same : (m : ℕ) → start ≤ m → m < end → slot_at others m ≡ slot_at slots m) where
  was_open : (m : ℕ) → IsOpenIn others start end m → IsOpenIn slots start end m
  was_open m o = record { from = o.from; below = o.below; here = sym (ap (λ (t : Slot). t.mark) (same m o.from o.below)) ∙ o.here }

  least_same : (m : ℕ) → start ≤ m → m < end → least_at others m ≡ least_at slots m
  least_same m a b = ap (λ (t : Slot). least_live t.place.levels) (same m a b)

  order_same : (n m : ℕ) → start ≤ n → n < end → start ≤ m → m < end → level_le (least_at others n) (least_at others m) ≡ level_le (least_at slots n) (least_at slots m)
  order_same n m a b c d = ap (λ (l : Level). level_le l (least_at others m)) (least_same n a b) ∙ ap (λ (l : Level). level_le (least_at slots n) l) (least_same m c d)

  pub first-same : (first : Option ℕ) → FirstIn slots start end first → FirstIn others start end first
  first-same None h = λ m o. h m (was_open m o)
  first-same (Some n) h = record {
    is_open = record { from = h.is_open.from; below = h.is_open.below; here = ap (λ (t : Slot). t.mark) (same n h.is_open.from h.is_open.below) ∙ h.is_open.here };
    least = λ m o. order_same n m h.is_open.from h.is_open.below o.from o.below ∙ h.least m (was_open m o);
    first = λ m o l. order_same m n o.from o.below h.is_open.from h.is_open.below ∙ h.first m (was_open m o) l;
  }

-- the block of a node
block_of : (k m : ℕ) → k * 128 ≤ m → m < k * 128 + 128 → k ≡ m / 128
block_of k m a b = omega arith

-- an entry that stays, for a block of nodes that are the same
right-same : (slots others : List Slot) (firsts now : List (Option ℕ)) (k : ℕ) → IsRight slots firsts k → slice_index_or now k None ≡ slice_index_or firsts k None → ((m : ℕ) → k ≡ m / 128 → slot_at others m ≡ slot_at slots m) → IsRight others now k
right-same slots others firsts now k h e same =
    subst (λ (o : Option ℕ). FirstIn others (k * 128) (k * 128 + 128) o) (sym e)
    (first-same slots others (k * 128) (k * 128 + 128) (λ m a b. same m (block_of k m a b)) (slice_index_or firsts k None) h)

-- ---- one node changes

pub firsts-changed : (slots others : List Slot) (n : ℕ) (firsts now : List (Option ℕ)) → AreFirsts slots firsts → ((m : ℕ) → (m ≡ n → ⊥) → slot_at others m ≡ slot_at slots m) → IsRight others now (n / 128) → ((k : ℕ) → (k ≡ n / 128 → ⊥) → slice_index_or now k None ≡ slice_index_or firsts k None) → AreFirsts others now
firsts-changed slots others n firsts now h same here apart k = elim (cases_eq k (n / 128)) [
  | inl e ↦ subst (λ (j : ℕ). IsRight others now j) (sym e) here
  | inr ne ↦ right-same slots others firsts now k (h k) (apart k ne) (λ m b. same m (λ e. ne (b ∙ ap (λ (j : ℕ). j / 128) e)))
]

pub firsts-marked : (slots : List Slot) (n : ℕ) (t : Slot) (firsts now : List (Option ℕ)) → AreFirsts slots firsts → IsRight (slice_set slots n t) now (n / 128) → ((k : ℕ) → (k ≡ n / 128 → ⊥) → slice_index_or now k None ≡ slice_index_or firsts k None) → AreFirsts (slice_set slots n t) now
firsts-marked slots n t firsts now h here apart = firsts-changed slots (slice_set slots n t) n firsts now h (λ m ne. get_or-set_other slots n m t _ ne) here apart

-- the first node of a pool
pub firsts-begun : (t : Slot) (firsts now : List (Option ℕ)) → AreFirsts [] firsts → IsRight (t ∷ []) now 0 → ((k : ℕ) → (k ≡ 0 → ⊥) → slice_index_or now k None ≡ slice_index_or firsts k None) → AreFirsts (t ∷ []) now
firsts-begun t firsts now h here apart = firsts-changed [] (t ∷ []) 0 firsts now h alone here apart
  where
    alone : (m : ℕ) → (m ≡ 0 → ⊥) → slot_at (t ∷ []) m ≡ slot_at [] m
    alone zero ne = absurd (ne refl)
    alone (suc m) ne = refl

-- ---- several blocks that are found anew

pub refreshed-more : (slots : List Slot) (node count n : ℕ) (before firsts now : List (Option ℕ)) → ((k : ℕ) → IsRefreshed slots node count n before firsts k) → IsRight slots now (n / 128) → ((k : ℕ) → (k ≡ n / 128 → ⊥) → slice_index_or now k None ≡ slice_index_or firsts k None) → (k : ℕ) → IsRefreshed slots node count (n + 1) before now k
refreshed-more slots node count n before firsts now h here apart k = elim (cases_eq k (n / 128)) [
  | inl e ↦ inl (subst (λ (j : ℕ). IsRight slots now j) (sym e) here)
  | inr ne ↦ (elim (h k) [
    | inl r ↦ inl (subst (λ (o : Option ℕ). FirstIn slots (k * 128) (k * 128 + 128) o) (sym (apart k ne)) r)
    | inr s ↦ inr (record {
      same = apart k ne ∙ s.same;
      node_apart = s.node_apart;
      range_apart = λ m a b e. elim (cases_eq m n) [
        | inl q ↦ ne (e ∙ ap (λ (j : ℕ). j / 128) q)
        | inr w ↦ s.range_apart m a (omega (arith, b, w)) e
      ];
    })
  ])
]

-- ---- a settlement

appended : (slots more : List Slot) (m : ℕ) → (length slots ≤ m → m < length (slots ++ more) → ⊥) → slot_at (slots ++ more) m ≡ slot_at slots m
appended [] more m h = past more m (λ l. h (omega arith) l)
  where
    past : (more : List Slot) (m : ℕ) → (m < length more → ⊥) → slot_at more m ≡ slot_at [] m
    past [] m h = refl
    past (t ∷ more) zero h = absurd (h (omega arith))
    past (t ∷ more) (suc m) h = past more m (λ l. h (omega arith))
appended (t ∷ slots) more zero h = refl
appended (t ∷ slots) more (suc m) h = appended slots more m (λ a b. h (omega arith) (omega arith))

-- the node of a settlement, recorded
abbrev closed_node : List Slot → Settlement → Slot
closed_node slots s = record { node = recorded (length slots) s.cert s.verdicts s.outcome; place = place_of s.work; mark = Closed }

pub firsts-settled : (slots : List Slot) (s : Settlement) (firsts now : List (Option ℕ)) → AreFirsts slots firsts → ((k : ℕ) → IsRefreshed (settled slots s) s.work.node (length slots) (length (settled slots s)) firsts now k) → AreFirsts (settled slots s) now
firsts-settled slots s firsts now h g k = elim (g k) [
  | inl r ↦ r
  | inr w ↦ right-same slots (settled slots s) firsts now k (h k) w.same
      (λ m b. same m (λ e. w.node_apart (b ∙ ap (λ (j : ℕ). j / 128) e)) (λ c d. w.range_apart m c d b))
]
  where
    same : (m : ℕ) → (m ≡ s.work.node → ⊥) → (length slots ≤ m → m < length (settled slots s) → ⊥) → slot_at (settled slots s) m ≡ slot_at slots m
    same m ne out =
        appended (slice_set slots s.work.node (closed_node slots s)) (new_slots s.outcome) m (λ a b. out (omega (arith, a, length-set slots s.work.node (closed_node slots s))) b)
        ∙ get_or-set_other slots s.work.node m (closed_node slots s) _ ne
