-- A work has a level for each scenario, and its live scenarios have one.
use Rattle.std.specs.Prelude.{◌≡◌, ◌↔◌, ℕ, zero, suc, ◌+◌, ◌<◌, List, [], ◌∷◌, ◌++◌, length, take, slice_get, flat_map, ◌⊎◌, Bool, true, false, cond, nat_eq, Option, Some, None, All, Contains, refl, map}
use Rattle.std.specs.Cmp.{nat_eq_equiv}
use Rattle.std.specs.List.{list_any}
use Rattle.std.proofs.Common.{arith, ap, sym, ◌∙◌, subst, inl, inr, get_or}
use native.Mathlib.Decide.{ℕ_discrete}
use Rattle.std.proofs.lemmas.Bool.Decides.{nat_tests}
use Rattle.std.proofs.lemmas.List.Elements.{Contains-get_or}
use Rattle.std.proofs.lemmas.Map.Views.{Contains-from_any, list_any-from_Contains}
use Rattle.int_model.specs.Boxes.{Box, below_cut, above_cut}
use Rattle.int_model.specs.Programs.{Program}
use Rattle.scenario_changes.specs.Problems.{Problem, root_box}
use Rattle.certs.specs.Verdicts.{start_level}
use Rattle.certs.specs.Trees.{Place, raised, kept, stayers_hull, two_places, handed_on, handed, arrivals, IsTree}
use Rattle.certs.specs.declared.level.Level.{Level}
use Rattle.certs.specs.declared.tree.Node.{Node as TreeNode}
use Rattle.certs.specs.declared.tree.Node.TheVariants.{Rest, Leaf, Split}
use Rattle.std.specs.Arc.{arc_value}
use Rattle.bb_core.specs.Settlements.{place_of}
use Rattle.certs.specs.Trees.{of_live}
use Rattle.bb_core.specs.Shared.{work_of}
use Rattle.bb_core.specs.declared.work.Work.{Work}
use Rattle.open_pool.specs.Judged.{AreWide}
use Rattle.open_pool.specs.Claims.{FitsProblem}
use Rattle.open_pool.specs.declared.pool.Claim.TheVariants.{Node}
use Rattle.bb_core.specs.Coverage.{Slot, Open, Closed, placed_of, slot_at}
use Rattle.open_pool.specs.Pooled.{HasNone}
use Rattle.open_pool.proofs.PoolLaws.{slot-got}
use Rattle.open_pool.proofs.LawfulLaws.{length_raised}
use Rattle.certs.proofs.LevelLists.{length_kept, length_live, live_at, list_same}

-- ---- the places of a tree have a level for each scenario

AreLong : ℕ → List Place → Type 0
AreLong n [] = Unit {0}
AreLong n (q ∷ qs) = (length q.levels ≡ n) × AreLong n qs

both_long : (n : ℕ) (ps qs : List Place) → AreLong n ps → AreLong n qs → AreLong n (ps ++ qs)
unfolding AreLong
both_long n [] qs h g = g
both_long n (p ∷ ps) qs h g = (h.0, both_long n ps qs h.1 g)

all_long : {X : Type 0} (n : ℕ) (f : X → List Place) → ((x : X) → AreLong n (f x)) → (xs : List X) → AreLong n (flat_map f xs)
unfolding AreLong
all_long n f h [] = tt
all_long n f h (x ∷ xs) = both_long n (f x) (flat_map f xs) (h x) (all_long n f h xs)

handed_long : (p : Problem) (n : ℕ) (e : TreeNode × Place) → AreLong (length p.scenarios) (handed p n e)
unfolding AreLong
handed_long p n (Rest, place) = tt
handed_long p n (Leaf cert verdicts, place) = tt
handed_long p n (Split cert verdicts stay child column v, place) = by_parts (stayers_hull p place.box cert stay) (raised place.box cert p.scenarios place.levels verdicts) (length_raised place.box cert p.scenarios place.levels verdicts)
  where
    by_parts : (hull : Option Box) (levels : Option (List (Option Level))) → ((rs : List (Option Level)) → levels ≡ Some rs → length rs ≡ length p.scenarios) → AreLong (length p.scenarios) (handed_on n child (two_places stay column v hull levels))
    by_parts None levels h = tt
    by_parts (Some box) None h = tt
    by_parts (Some box) (Some rs) h = by_number (nat_eq n child) (nat_eq n (suc child))
      where
        many : length (kept stay 0 rs) ≡ length p.scenarios
        many = length_kept stay 0 rs ∙ h rs refl

        by_number : (a b : Bool) → AreLong (length p.scenarios) (cond a (record { box = below_cut box column v; levels = kept stay 0 rs } ∷ []) (cond b (record { box = above_cut box column v; levels = kept stay 0 rs } ∷ []) []))
        by_number true b = (many, tt)
        by_number false true = (many, tt)
        by_number false false = tt

length-map : {X Y : Type 0} (f : X → Y) (xs : List X) → length (map f xs) ≡ length xs
length-map f [] = refl
length-map f (x ∷ xs) = ap suc (length-map f xs)

arrivals_long : (p : Problem) (placed : List (TreeNode × Place)) (n : ℕ) → AreLong (length p.scenarios) (arrivals p placed n)
unfolding AreLong
arrivals_long p placed zero = (length-map (λ (s : Program). Some (start_level (root_box p.scenarios) s)) p.scenarios, tt)
arrivals_long p placed (suc n) = all_long (length p.scenarios) (handed p (suc n)) (handed_long p (suc n)) (take (suc n) placed)

first_long : (n : ℕ) (qs : List Place) (q : Place) → qs ≡ q ∷ [] → AreLong n qs → length q.levels ≡ n
unfolding AreLong
first_long n [] q e h = absurd (cc)
first_long n (r ∷ qs) q e h = let s : r ≡ q = cc in ap (λ (z : Place). length z.levels) (sym s) ∙ h.0

placed_get : (slots : List Slot) (n : ℕ) (t : Slot) → slice_get slots n ≡ Some t → slice_get (placed_of slots) n ≡ Some (t.node, t.place)
placed_get [] n t e = absurd (cc)
placed_get (u ∷ slots) zero t e = let s : u ≡ t = cc in ap (λ (z : Slot). Some (z.node, z.place)) s
placed_get (u ∷ slots) (suc n) t e = placed_get slots n t e

pub place_long : (p : Problem) (slots : List Slot) → IsTree p (placed_of slots) → (n : ℕ) (t : Slot) → slice_get slots n ≡ Some t → length t.place.levels ≡ length p.scenarios
place_long p slots tree n t e =
    first_long (length p.scenarios) (arrivals p (placed_of slots) n) t.place (tree.right n t.node t.place (placed_get slots n t e)).arrival (arrivals_long p (placed_of slots) n)

-- ---- the members below a number

all_below : (xs : List ℕ) (n : ℕ) → ((k : ℕ) → Contains xs k → k < n) → All (λ s. s < n) xs
all_below xs n h i d l = h (get_or xs i d) (Contains-get_or xs i d l)

nat_same : (x y : ℕ) → nat_eq x y ≡ true → x ≡ y
nat_same x y e = grind (arith, nat_tests, e)

any_same : (xs ys : List ℕ) (k : ℕ) → Contains xs k ↔ Contains ys k → list_any (nat_eq k) xs ≡ list_any (nat_eq k) ys
any_same xs ys k h = by_tests (list_any (nat_eq k) xs) (list_any (nat_eq k) ys) refl refl
  where
    by_tests : (a b : Bool) → list_any (nat_eq k) xs ≡ a → list_any (nat_eq k) ys ≡ b → a ≡ b
    by_tests true true e g = refl
    by_tests false false e g = refl
    by_tests true false e g = sym (list_any-from_Contains nat_eq_equiv k ys (h.0 (Contains-from_any nat_same k xs e))) ∙ g
    by_tests false true e g = sym e ∙ list_any-from_Contains nat_eq_equiv k xs (h.1 (Contains-from_any nat_same k ys g))

pub members_below-live : (live below : List ℕ) (levels : List Level) → ((k : ℕ) → Contains below k ↔ ((k < length levels) × Contains live k)) → of_live below 0 levels ≡ of_live live 0 levels
members_below-live live below levels h =
    list_same (of_live below 0 levels) (of_live live 0 levels) (length_live below 0 levels ∙ sym (length_live live 0 levels))
    (λ k l. (let small : k < length levels = omega (arith, length_live below 0 levels) in
    live_at below levels k ∙ ap (λ (b : Bool). cond b (slice_get levels k) None) (any_same below live k (λ c. ((h k).0 c).1, λ c. (h k).1 (small, c))) ∙ sym (live_at live levels k)))

pub members_below-all : (live below : List ℕ) (n : ℕ) → ((k : ℕ) → Contains below k ↔ ((k < n) × Contains live k)) → All (λ s. s < n) below
members_below-all live below n h = all_below below n (λ k c. ((h k).0 c).0)

-- a loop that has come to s
abbrev pub MembersSoFar : List ℕ → ℕ → List ℕ → Type 0
MembersSoFar live s members = (k : ℕ) → Contains members k ↔ ((k < s) × Contains live k)

pub members-more : (live members more : List ℕ) (s : ℕ) → MembersSoFar live s members → Contains live s → ((k : ℕ) → Contains more k ↔ ((k ≡ s) ⊎ Contains members k)) → MembersSoFar live (s + 1) more
members-more live members more s h here m k = (
  λ c. elim ((m k).0 c) [
    | inl e ↦ (let small : k < s + 1 = omega arith in small, subst (λ (j : ℕ). Contains live j) (sym e) here)
    | inr r ↦ (let q = (h k).0 r in let small : k < s + 1 = omega (arith, q.0) in small, ((h k).0 r).1)
  ],
  λ q. (m k).1 (elim (ℕ_discrete k s) [
    | yes e ↦ inl e
    | no ne ↦ inr ((h k).1 (let small : k < s = omega (arith, q.0, ne) in small, q.1))
  ]),
)

pub members-same : (live members : List ℕ) (s : ℕ) → MembersSoFar live s members → (Contains live s → ⊥) → MembersSoFar live (s + 1) members
members-same live members s h none k = (
  λ c. (let q = (h k).0 c in let small : k < s + 1 = omega (arith, q.0) in small, ((h k).0 c).1),
  λ q. elim (ℕ_discrete k s) [
    | yes e ↦ absurd (none (subst (λ (j : ℕ). Contains live j) e q.1))
    | no ne ↦ (h k).1 (let small : k < s = omega (arith, q.0, ne) in small, q.1)
  ],
)

pub members-none : (live : List ℕ) → MembersSoFar live 0 []
members-none live k = (λ c. absurd (none_there k c), λ q. absurd (omega (arith, q.0)))
  where
    none_there : (k : ℕ) → Contains [] k → ⊥
    none_there k c = absurd (let none : c.0 < 0 = c.1 in omega (arith, none))

-- the place of a work whose live scenarios are those that have a level
pub members-place : (box copy : Box) (live below : List ℕ) (levels others : List Level) → copy ≡ box → others ≡ levels → MembersSoFar live (length levels) below → ◌≡◌ {A = Place} (record { box = copy; levels = of_live below 0 others }) (record { box = box; levels = of_live live 0 levels })
members-place box copy live below levels others e g h =
    ap (λ (b : Box). let q : Place = record { box = b; levels = of_live below 0 others } in q) e ∙ ap (λ (ls : List (Option Level)). let q : Place = record { box = box; levels = ls } in q) (ap (of_live below 0) g ∙ members_below-live live below levels h)

-- a work of a node's place fits the problem
pub fits-problem : (p : Problem) (slots : List Slot) (n : ℕ) (t : Slot) (w : Work) → IsTree p (placed_of slots) → AreWide p.columns slots → slice_get slots n ≡ Some t → place_of (work_of w) ≡ t.place → All (λ s. s < length (arc_value w.levels)) w.live → FitsProblem p (Node w)
fits-problem p slots n t w tree wide found same live =
    let box : length (arc_value w.bounds) ≡ p.columns = ap (λ (q : Place). length q.box) same ∙ wide n t found in
    let levels : length (arc_value w.levels) ≡ length p.scenarios = sym (length_live w.live 0 (arc_value w.levels)) ∙ (ap (λ (q : Place). length q.levels) same ∙ place_long p slots tree n t found) in
    (box, levels, subst (λ (m : ℕ). All (λ s. s < m) w.live) levels live)

-- where no node is open or claimed, each is closed
pub closed_all : (slots : List Slot) → HasNone slots Open → ((n : ℕ) → n < length slots → ((slot_at slots n).mark ≡ Open) ⊎ ((slot_at slots n).mark ≡ Closed)) → (n : ℕ) (t : Slot) → slice_get slots n ≡ Some t → t.mark ≡ Closed
closed_all slots none marks n t e =
    let at_n = slot-got slots n t e in
    let same : (slot_at slots n).mark ≡ t.mark = ap (λ (u : Slot). u.mark) at_n.1 in
    elim (marks n at_n.0) [
      | inl m ↦ absurd (none n t e (sym same ∙ m))
      | inr m ↦ sym same ∙ m
    ]
