-- Coverage loses nothing, holds at the root, and is kept by marks and settlements.
use Rattle.std.specs.Prelude.{◌≡◌, ℕ, zero, suc, ◌+◌, List, [], ◌∷◌, ◌++◌, length, slice_get, slice_index_or, slice_set, Bool, true, false, cond, IsTrue, Option, Some, None, refl, ◌⊎◌}
use Rattle.std.proofs.Common.{arith, ap, sym, ◌∙◌, subst, inl, inr}
use Rattle.std.proofs.lemmas.Int.{ints}
use Rattle.std.proofs.lemmas.List.{length-map, map-append, append-nil}
use Rattle.int_model.specs.Boxes.{Box, InBox}
use Rattle.int_model.specs.Programs.{value}
use Rattle.scenario_changes.specs.Problems.{Problem}
use Rattle.certs.specs.Levels.{AtMost, level_le, lesser_level}
use Rattle.certs.specs.Trees.{Place, root_place, end_levels, IsTree, IsRight, is_valid}
use Rattle.certs.specs.declared.cert.Cert.{Cert}
use Rattle.certs.specs.declared.verdict.Verdict.{Verdict}
use Rattle.certs.specs.declared.tree.Node.{Node}
use Rattle.certs.specs.declared.tree.Node.TheVariants.{Rest, Leaf, Split}
use Rattle.certs.specs.declared.level.Level.{Level}
use Rattle.certs.specs.declared.level.Level.TheVariants.{Value, Inf}
use Rattle.certs.proofs.TreeLaws.{AllWithin, some_end, AtMost-below}
use Rattle.certs.proofs.TreeLevels.{place-below}
use Rattle.bb_core.specs.Settlements.{Settlement, Outcome, Close, Branch, place_of, recorded, ChildrenAre}
use Rattle.certs.specs.Trees.{of_live}
use Rattle.bb_core.specs.Coverage.{Mark, Closed, Open, Held, Slot, Stands, MaySettle, ReachesCaps, placed_of, Covers, LiesInWaiting, NothingIsLost, LevelsAreBounds, marked_as, slot_at, new_slots, open_at, root_slot, settled}
use Rattle.bb_core.proofs.ListWrites.{map-get, some_same, set-get, append-get}
use Rattle.bb_core.proofs.TreeSteps.{leaf-tree, split-tree}

abbrev pair_of : Node → Place → Option (Node × Place)
pair_of m q = Some (m, q)

-- ---- nothing is lost

pub Covers-nothing_lost : (p : Problem) → AllWithin p → (slots : List Slot) (caps : List Level) → Covers p slots caps → NothingIsLost p slots caps
Covers-nothing_lost p limits slots caps h k s x found f =
    let e = some_end p limits (placed_of slots) h.tree k s found x f in
    let t = map-get (λ (t : Slot). (t.node, t.place)) slots e.n (e.node, e.place) e.here_is in
    let node_is : t.0.node ≡ e.node = ap (λ (q : Node × Place). q.0) t.2 in
    let place_is : t.0.place ≡ e.place = ap (λ (q : Node × Place). q.1) t.2 in
    let level_is : slice_index_or (end_levels p t.0.place t.0.node) k None ≡ Some e.level = ap (λ (q : Node × Place). slice_index_or (end_levels p q.1 q.0) k None) t.2 ∙ e.level_is in
    let inside : InBox t.0.place.box x = subst (λ (q : Place). InBox q.box x) (sym place_is) e.inside in
    by_mark e.n t.0 e.level t.1 level_is inside e.below t.0.mark refl
  where
    by_mark : (n : ℕ) (t : Slot) (l : Level) → slice_get slots n ≡ Some t → slice_index_or (end_levels p t.place t.node) k None ≡ Some l → InBox t.place.box x → AtMost l (value s x) → (m : Mark) → t.mark ≡ m → AtMost (slice_index_or caps k Inf) (value s x) ⊎ LiesInWaiting slots k x
    by_mark n t l g e i b Closed q = inl (AtMost-below (slice_index_or caps k Inf) l (value s x) (h.closed n t g q k l e) b)
    by_mark n t l g e i b Open q =
        let w : t.mark ≡ Closed → ⊥ = λ r. absurd (cc) in
        let rest : t.node ≡ Rest = h.unsettled n t g w in
        inr (record { n = n; slot = t; level = l; found = g; unsettled = w; live = subst (λ (m : Node). slice_index_or (end_levels p t.place m) k None ≡ Some l) rest e; inside = i })
    by_mark n t l g e i b (Held a) q =
        let w : t.mark ≡ Closed → ⊥ = λ r. absurd (cc) in
        let rest : t.node ≡ Rest = h.unsettled n t g w in
        inr (record { n = n; slot = t; level = l; found = g; unsettled = w; live = subst (λ (m : Node). slice_index_or (end_levels p t.place m) k None ≡ Some l) rest e; inside = i })

-- ---- marks

placed-marked : (slots : List Slot) (n : ℕ) (mark : Mark) → placed_of (marked_as slots n mark) ≡ placed_of slots
placed-marked [] n mark = refl
placed-marked (t ∷ slots) zero mark = refl
placed-marked (t ∷ slots) (suc n) mark = ap (λ (q : List (Node × Place)). (t.node, t.place) ∷ q) (placed-marked slots n mark)

pub slot-index : (slots : List Slot) (n : ℕ) (t : Slot) → slice_get slots n ≡ Some t → slot_at slots n ≡ t
slot-index [] n t e = absurd (cc)
slot-index (u ∷ slots) zero t e = cc
slot-index (u ∷ slots) (suc n) t e = slot-index slots n t e

-- a slot whose mark changes, from one that isn't closed
abbrev remarked : Slot → Mark → Slot
remarked t mark = record t { mark = mark }

module _ (p : Problem) (slots : List Slot) (caps : List Level) (h : Covers p slots caps) (n : ℕ) (t : Slot) (found : slice_get slots n ≡ Some t) (rest : t.node ≡ Rest) where
  pub Covers-marked : (mark : Mark) → (mark ≡ Closed → ReachesCaps caps t.place.levels) → Covers p (marked_as slots n mark) caps
  Covers-marked mark reach =
      let now : slot_at slots n ≡ t = slot-index slots n t found in
      record {
        tree = subst (λ (q : List (Node × Place)). IsTree p q) (sym (placed-marked slots n mark)) h.tree;
        unsettled = λ i u e w. elim (set-get slots n (remarked (slot_at slots n) mark) i u e) [
          | inl q ↦ ap (λ (z : Slot). z.node) (sym q.1) ∙ ap (λ (z : Slot). z.node) now ∙ rest
          | inr q ↦ h.unsettled i u q w
        ];
        closed = λ i u e w. elim (set-get slots n (remarked (slot_at slots n) mark) i u e) [
          | inl q ↦ by_rest (slot_at slots n) now u q.1 w
          | inr q ↦ h.closed i u q w
        ];
      }
    where
      by_rest : (z : Slot) → z ≡ t → (u : Slot) → remarked z mark ≡ u → u.mark ≡ Closed → ReachesCaps caps (end_levels p u.place u.node)
      by_rest z a u b c =
          let m : mark ≡ Closed = ap (λ (v : Slot). v.mark) b ∙ c in
          let node : Rest ≡ u.node = sym (ap (λ (v : Slot). v.node) a ∙ rest) ∙ ap (λ (v : Slot). v.node) b in
          let place : t.place ≡ u.place = ap (λ (v : Slot). v.place) (sym a) ∙ ap (λ (v : Slot). v.place) b in
          subst (λ (w : Node). ReachesCaps caps (end_levels p u.place w)) node (subst (λ (w : Place). ReachesCaps caps w.levels) place (reach m))

pub not_closed : (m : Mark) → m ≡ Open → m ≡ Closed → ⊥
not_closed m e g = absurd (cc)

-- ---- caps

-- caps that are no greater are reached too
pub lesser-le : (a b l : Level) → IsTrue (level_le a l) → IsTrue (level_le (lesser_level a b) l)
lesser-le a b l h = by_test (level_le a b) refl
  where
    by_test : (t : Bool) → level_le a b ≡ t → IsTrue (level_le (cond t a b) l)
    by_test true e = h
    by_test false e = below a b l e h
      where
        below : (a b l : Level) → level_le a b ≡ false → IsTrue (level_le a l) → IsTrue (level_le b l)
        below (Value a) (Value b) (Value l) e h = grind (arith, ints, e, h)
        below (Value a) (Value b) Inf e h = refl
        below (Value a) Inf l e h = absurd (cc)
        below Inf (Value b) (Value l) e h = absurd (cc)
        below Inf (Value b) Inf e h = refl
        below Inf Inf l e h = h

-- ---- every event keeps the coverage

placed-settled : (slots : List Slot) (n : ℕ) (t : Slot) (more : List Slot) → placed_of (slice_set slots n t ++ more) ≡ slice_set (placed_of slots) n (t.node, t.place) ++ placed_of more
placed-settled [] n t more = refl
placed-settled (u ∷ slots) zero t more = ap (λ (q : List (Node × Place)). (t.node, t.place) ∷ q) (map-append (λ (z : Slot). (z.node, z.place)) slots more)
placed-settled (u ∷ slots) (suc n) t more = ap (λ (q : List (Node × Place)). (u.node, u.place) ∷ q) (placed-settled slots n t more)

pub placed-get : (slots : List Slot) (n : ℕ) (t : Slot) → slice_get slots n ≡ Some t → slice_get (placed_of slots) n ≡ Some (t.node, t.place)
placed-get [] n t e = absurd (cc)
placed-get (u ∷ slots) zero t e = let w : u ≡ t = cc in ap (λ (z : Slot). Some (z.node, z.place)) w
placed-get (u ∷ slots) (suc n) t e = placed-get slots n t e

-- the slots after a settlement, whose new tree is known
module _ (p : Problem) (slots : List Slot) (caps : List Level) (h : Covers p slots caps) (n : ℕ) (new : Slot) (more : List Slot) where
  pub Covers-settled : IsTree p (placed_of (slice_set slots n new ++ more)) → new.mark ≡ Closed → ReachesCaps caps (end_levels p new.place new.node) → ((j : ℕ) (t : Slot) → slice_get more j ≡ Some t → (t.mark ≡ Open) × (t.node ≡ Rest)) → Covers p (slice_set slots n new ++ more) caps
  Covers-settled tree mark reach fresh = record {
    tree = tree;
    unsettled = λ i u e w. elim (append-get (slice_set slots n new) more i u e) [
      | inl a ↦ (elim (set-get slots n new i u a) [
        | inl b ↦ absurd (w (ap (λ (z : Slot). z.mark) (sym b.1) ∙ mark))
        | inr b ↦ h.unsettled i u b w
      ])
      | inr a ↦ (fresh a.0 u a.2).1
    ];
    closed = λ i u e w. elim (append-get (slice_set slots n new) more i u e) [
      | inl a ↦ (elim (set-get slots n new i u a) [
        | inl b ↦ subst (λ (z : Slot). ReachesCaps caps (end_levels p z.place z.node)) b.1 reach
        | inr b ↦ h.closed i u b w
      ])
      | inr a ↦ absurd (not_closed u.mark (fresh a.0 u a.2).0 w)
    ];
  }

-- a settlement of a node that an actor holds
module _ (p : Problem) (slots : List Slot) (caps : List Level) (h : Covers p slots caps) (n : ℕ) (t : Slot) (found : slice_get slots n ≡ Some t) (rest : t.node ≡ Rest) (place : Place) (its : t.place ≡ place) (cert : Cert) (verdicts : List Verdict) where
  there : slice_get (placed_of slots) n ≡ Some (Rest, place)
  there = placed-get slots n t found ∙ ap (λ (m : Node). pair_of m t.place) rest ∙ ap (λ (q : Place). pair_of Rest q) its

  long : length (placed_of slots) ≡ length slots
  long = length-map slots (λ (z : Slot). (z.node, z.place))

  pub Covers-outcome : (o : Outcome) → IsTrue (is_valid p (length slots + 2) n place (recorded (length slots) cert verdicts o)) → ChildrenAre p place cert verdicts o → ReachesCaps caps (end_levels p place (recorded (length slots) cert verdicts o))
      → Covers p (slice_set slots n (record { node = recorded (length slots) cert verdicts o; place = place; mark = Closed }) ++ new_slots o) caps
  Covers-outcome Close valid are closes =
      let new : Slot = record { node = Leaf cert verdicts; place = place; mark = Closed } in
      let tree : IsTree p (slice_set (placed_of slots) n (Leaf cert verdicts, place)) = leaf-tree p (placed_of slots) h.tree n place there cert verdicts valid in
      let same : slice_set (placed_of slots) n (Leaf cert verdicts, place) ≡ placed_of (slice_set slots n new ++ []) = sym (append-nil (slice_set (placed_of slots) n (Leaf cert verdicts, place))) ∙ sym (placed-settled slots n new []) in
      Covers-settled p slots caps h n new [] (subst (λ (q : List (Node × Place)). IsTree p q) same tree) refl closes (λ j u e. absurd (cc))
  Covers-outcome (Branch stay column v left right left_levels right_levels) valid are closes =
      let new : Slot = record { node = Split cert verdicts stay (length slots) column v; place = place; mark = Closed } in
      let low : Place = record { box = left; levels = of_live stay 0 left_levels } in
      let high : Place = record { box = right; levels = of_live stay 0 right_levels } in
      let ok : is_valid p (length (placed_of slots) + 2) n place (Split cert verdicts stay (length (placed_of slots)) column v) ≡ true = subst (λ (c : ℕ). is_valid p (c + 2) n place (Split cert verdicts stay c column v) ≡ true) (sym long) valid in
      let tree : IsTree p (slice_set (placed_of slots) n (Split cert verdicts stay (length (placed_of slots)) column v, place) ++ (Rest, low) ∷ (Rest, high) ∷ []) = split-tree p (placed_of slots) h.tree n place there cert verdicts stay column v low high ok are in
      let named : IsTree p (slice_set (placed_of slots) n (Split cert verdicts stay (length slots) column v, place) ++ (Rest, low) ∷ (Rest, high) ∷ []) = subst (λ (c : ℕ). IsTree p (slice_set (placed_of slots) n (Split cert verdicts stay c column v, place) ++ (Rest, low) ∷ (Rest, high) ∷ [])) long tree in
      Covers-settled p slots caps h n new (new_slots (Branch stay column v left right left_levels right_levels)) (subst (λ (q : List (Node × Place)). IsTree p q) (sym (placed-settled slots n new (new_slots (Branch stay column v left right left_levels right_levels)))) named) refl closes (fresh (new_slots (Branch stay column v left right left_levels right_levels)) left right (of_live stay 0 left_levels) (of_live stay 0 right_levels) refl)
    where
      fresh : (more : List Slot) (a b : Box) (ls rs : List (Option Level)) → more ≡ open_at a ls ∷ open_at b rs ∷ [] → (j : ℕ) (u : Slot) → slice_get more j ≡ Some u → (u.mark ≡ Open) × (u.node ≡ Rest)
      fresh more a b ls rs e zero u g =
          let w : slice_get (open_at a ls ∷ open_at b rs ∷ []) 0 ≡ Some u = subst (λ (q : List Slot). slice_get q 0 ≡ Some u) e g in
          let y : open_at a ls ≡ u = cc in (ap (λ (z : Slot). z.mark) (sym y), ap (λ (z : Slot). z.node) (sym y))
      fresh more a b ls rs e (suc zero) u g =
          let w : slice_get (open_at a ls ∷ open_at b rs ∷ []) 1 ≡ Some u = subst (λ (q : List Slot). slice_get q 1 ≡ Some u) e g in
          let y : open_at b rs ≡ u = cc in (ap (λ (z : Slot). z.mark) (sym y), ap (λ (z : Slot). z.node) (sym y))
      fresh more a b ls rs e (suc (suc j)) u g =
          let w : slice_get (open_at a ls ∷ open_at b rs ∷ []) (suc (suc j)) ≡ Some u = subst (λ (q : List Slot). slice_get q (suc (suc j)) ≡ Some u) e g in absurd (cc)

-- a settlement that may be made, of a node that isn't closed
pub Covers-made : (p : Problem) (slots : List Slot) (caps : List Level) (mark : Mark) (s : Settlement) → Covers p slots caps → (mark ≡ Closed → ⊥) → MaySettle p slots caps mark s → Covers p (settled slots s) caps
Covers-made p slots caps mark s h unsettled w =
    let t : Slot = w.held.slot in
    let rest : t.node ≡ Rest = h.unsettled s.work.node t w.held.found (λ c. unsettled (sym w.held.marked ∙ c)) in
    Covers-outcome p slots caps h s.work.node t w.held.found rest (place_of s.work) w.its_work s.cert s.verdicts s.outcome w.lawful.valid w.lawful.children_are w.closes

-- another mark than closed, for a node that isn't closed
pub Covers-remarked : (p : Problem) (slots : List Slot) (caps : List Level) (n : ℕ) (was mark : Mark) → Covers p slots caps → Stands slots n was → (was ≡ Closed → ⊥) → (mark ≡ Closed → ⊥) → Covers p (marked_as slots n mark) caps
Covers-remarked p slots caps n was mark h t unsettled stays =
    Covers-marked p slots caps h n t.slot t.found (h.unsettled n t.slot t.found (λ c. unsettled (sym t.marked ∙ c))) mark (λ c. absurd (stays c))

-- ---- the root alone
pub Covers-root : (p : Problem) (caps : List Level) → Covers p (root_slot p ∷ []) caps
Covers-root p caps = record {
  tree = record { some = omega arith; right = λ n node place e. only_root n node place e };
  unsettled = λ n t e w. only_rest n t e;
  closed = λ n t e c. absurd (only_open n t e c);
}
  where
    only_root : (n : ℕ) (node : Node) (place : Place) → slice_get {X = Node × Place} ((Rest, root_place p) ∷ []) n ≡ Some (node, place) → IsRight p ((Rest, root_place p) ∷ []) n node place
    only_root zero node place e = let u : ◌≡◌ {A = Node × Place} (Rest, root_place p) (node, place) = some_same e in subst (λ (z : Node × Place). IsRight p ((Rest, root_place p) ∷ []) 0 z.0 z.1) u (record { arrival = refl; valid = refl })
    only_root (suc n) node place e = absurd (cc)

    only_rest : (n : ℕ) (t : Slot) → slice_get (record { node = Rest; place = root_place p; mark = Open } ∷ []) n ≡ Some t → t.node ≡ Rest
    only_rest zero t e = ap (λ (z : Slot). z.node) (sym (some_same e))
    only_rest (suc n) t e = absurd (cc)

    only_open : (n : ℕ) (t : Slot) → slice_get (record { node = Rest; place = root_place p; mark = Open } ∷ []) n ≡ Some t → t.mark ≡ Closed → ⊥
    only_open zero t e c = not_closed t.mark (ap (λ (z : Slot). z.mark) (sym (some_same e))) c
    only_open (suc n) t e c = absurd (cc)

-- a covered tree's levels are bounds
pub Covers-levels : (p : Problem) → AllWithin p → (slots : List Slot) (caps : List Level) → Covers p slots caps → LevelsAreBounds p slots
Covers-levels p limits slots caps h k s x found f n t e i l g =
    place-below p limits (placed_of slots) h.tree k s found x f n t.node t.place (placed-get slots n t e) i l g
