-- The walk, one node at a time.
use Rattle.std.specs.Prelude.{◌≡◌, ℕ, zero, suc, ◌+◌, ◌<◌, ◌≤◌, ℤ, List, [], ◌∷◌, ◌++◌, length, map, take, drop, flat_map, slice_get, slice_set, slice_index_or, Bool, true, false, ◌||◌, cond, nat_eq, Option, Some, None, IfSome, is_some, option_map, unwrap_or, refl, ◌⊎◌}
use Rattle.std.specs.List.{list_any, list_all, range_with_len}
use Rattle.std.proofs.Common.{arith, ap, sym, ◌∙◌, subst, inl, inr, append_assoc, append-nil, length-set}
use Rattle.std.proofs.lemmas.Bool.{and_parts}
use Rattle.std.proofs.lemmas.Bool.Decides.{nat_tests}
use Rattle.int_model.specs.Boxes.{Box, Interval, below_cut, above_cut}
use Rattle.int_model.specs.Programs.{Program}
use Rattle.scenario_changes.specs.Problems.{Problem, AreWithin, root_box}
use Rattle.live_sets.proofs.RisingLists.{in_range-from}
use Rattle.certs.specs.Verdicts.{start_level}
use Rattle.certs.specs.Trees.{Place, root_place, of_live, is_live, raised, kept, dropped, two_places, children, handed_on, handed, arrivals, is_valid, end_levels}
use Rattle.certs.specs.declared.cert.Cert.{Cert}
use Rattle.certs.specs.declared.level.Level.{Level}
use Rattle.certs.specs.declared.verdict.Verdict.{Verdict}
use Rattle.certs.specs.declared.tree.Node.{Node}
use Rattle.certs.specs.declared.tree.Node.TheVariants.{Split}
use Rattle.certs.proofs.TreeLaws.{dropped_at, raised_at, handed-first, handed-second}
use Rattle.certs.proofs.LevelLists.{length_live}
use Rattle.certs.specs.Levels.{greater_level}
use Rattle.certs.proofs.SetLemmas.{in_any}
use Rattle.certs.proofs.ArrivalLemmas.{live_all, root_wide}
use Rattle.tree_check.specs.Walks.{AreReached, IsBegun, IsFirstShort, IsJudged, IsJudgedSplit, IsWalk, IsWide, HandsOn, HasChildren, Remembers, StandsFor, WalkSoFar, earlier, place_of}
use Rattle.tree_check.specs.Checks.{ComesBefore, IsEnd}
use Rattle.tree_check.specs.Fronts.{IsFirstWrong, IsFront}
use Rattle.scenario_changes.specs.declared.answer.Answer.{Answer}
use Rattle.tree_check.specs.declared.arrival.Arrival.{Arrival}
use Rattle.tree_check.specs.declared.arrival.Arrival.TheVariants.{Nothing, One, Many}
use Rattle.tree_check.specs.declared.arrival.Spot.{Spot}
use Rattle.tree_check.specs.declared.scratch.Scratch.{Scratch}

-- ---- ends of a split

module _ (p : Problem) (place : Place) (node : Node) (a : Scratch) (k : ℕ) (cert : Cert) (verdicts : List Verdict) (stay : List ℕ) (child column : ℕ) (v : ℤ) (is : node ≡ Split cert verdicts stay child column v) (judged : IsJudged p place node a) where
  split_judged : IsJudgedSplit p place cert verdicts stay column v a
  split_judged = subst (λ (n : Node). IsJudged p place n a) is judged

  split_ends : slice_index_or (end_levels p place node) k None ≡ cond (list_any (nat_eq (0 + k)) stay) None (slice_index_or a.raised.items k None)
  split_ends =
      ap (λ (n : Node). slice_index_or (end_levels p place n) k None) is
      ∙ ap (λ (o : Option (List (Option Level))). slice_index_or (unwrap_or (option_map (dropped stay 0) o) []) k None) split_judged.raised_to
      ∙ dropped_at stay 0 a.raised.items k

  from_zero : 0 + k ≡ k
  from_zero = omega arith

  pub end_stays : true ≡ list_any (nat_eq k) stay → None ≡ slice_index_or (end_levels p place node) k None
  end_stays e = sym (split_ends ∙ ap (λ (n : ℕ). cond (list_any (nat_eq n) stay) None (slice_index_or a.raised.items k None)) from_zero ∙ ap (λ (b : Bool). cond b None (slice_index_or a.raised.items k None)) (sym e))

  pub end_drops : (l : Option Level) → false ≡ list_any (nat_eq k) stay → l ≡ slice_index_or a.raised.items k None → l ≡ slice_index_or (end_levels p place node) k None
  end_drops l e h = h ∙ sym (split_ends ∙ ap (λ (n : ℕ). cond (list_any (nat_eq n) stay) None (slice_index_or a.raised.items k None)) from_zero ∙ ap (λ (b : Bool). cond b None (slice_index_or a.raised.items k None)) (sym e))

-- ---- the first node

place_at : Box → List (Option Level) → Place
place_at box levels = record { box = box; levels = levels }

pub root_is : (p : Problem) (box : Box) (live : List ℕ) (levels : List Level) (count : ℕ) → count ≡ length p.scenarios → box ≡ root_box p.scenarios → live ≡ range_with_len 0 count → levels ≡ map (λ (s : Program). start_level (root_box p.scenarios) s) p.scenarios → place_of (record { bounds = box; live = live; levels = levels }) ≡ root_place p
unfolding place_at
root_is p box live levels count n b l e =
    let all = live_all (range_with_len 0 count) 0 (λ (s : Program). start_level (root_box p.scenarios) s) p.scenarios (λ k a c. in_any k (range_with_len 0 count) (in_range-from 0 count k a (omega (arith, c, n)))) in
    ap (λ (x : Box). place_at x (of_live live 0 levels)) b
    ∙ ap (λ (ks : List ℕ). place_at (root_box p.scenarios) (of_live ks 0 levels)) l
    ∙ ap (λ (ls : List Level). place_at (root_box p.scenarios) (of_live (range_with_len 0 count) 0 ls)) e
    ∙ ap (λ (ls : List (Option Level)). place_at (root_box p.scenarios) ls) all

mapped : (f : Program → Level) (ss : List Program) → length (map f ss) ≡ length ss
mapped f [] = refl
mapped f (s ∷ ss) = ap suc (mapped f ss)

pub root_is_wide : (p : Problem) → AreWithin p → (box : Box) (live : List ℕ) (levels : List Level) → box ≡ root_box p.scenarios → levels ≡ map (λ (s : Program). start_level (root_box p.scenarios) s) p.scenarios → IsWide p (record { bounds = box; live = live; levels = levels })
root_is_wide p limits box live levels b e = record {
  columns = ap length b ∙ root_wide p limits;
  levels = ap length e ∙ mapped (λ (s : Program). start_level (root_box p.scenarios) s) p.scenarios;
}

-- ---- lists

pub get_below : {X : Type 0} (xs : List X) (i : ℕ) (z : X) → slice_get xs i ≡ Some z → i < length xs
get_below [] i z e = absurd (cc)
get_below (x ∷ xs) zero z e = omega arith
get_below (x ∷ xs) (suc i) z e = let h : i < length xs = get_below xs i z e in omega arith

pub get_of : {X : Type 0} (xs : List X) (k : ℕ) (d x : X) → k < length xs → x ≡ slice_index_or xs k d → slice_get xs k ≡ Some x
get_of [] k d x h e = absurd (omega arith)
get_of (y ∷ xs) zero d x h e = ap Some (sym e)
get_of (y ∷ xs) (suc k) d x h e = get_of xs k d x (omega arith) e

pub get_there : {X : Type 0} (xs : List X) (i : ℕ) → i < length xs → (z : X) × (slice_get xs i ≡ Some z)
get_there [] i h = absurd (omega arith)
get_there (x ∷ xs) zero h = (x, refl)
get_there (x ∷ xs) (suc i) h = get_there xs i (omega arith)

-- an element of a list after a write is the one that was written, or was there before
set_get : {X : Type 0} (xs : List X) (n : ℕ) (y : X) (i : ℕ) (z : X) → slice_get (slice_set xs n y) i ≡ Some z → ((i ≡ n) × (y ≡ z)) ⊎ ((i ≡ n → ⊥) × (slice_get xs i ≡ Some z))
set_get [] n y i z e = absurd (cc)
set_get (x ∷ xs) zero y zero z e = inl (refl, cc)
set_get (x ∷ xs) zero y (suc i) z e = inr ((λ q. absurd (omega (arith, q))), e)
set_get (x ∷ xs) (suc n) y zero z e = inr ((λ q. absurd (omega (arith, q))), e)
set_get (x ∷ xs) (suc n) y (suc i) z e = elim (set_get xs n y i z e) [ inl q ↦ inl (ap suc q.0, q.1) | inr q ↦ inr ((λ r. q.0 (omega (arith, r))), q.1) ]

append_nothing : {X : Type 0} (xs ys : List X) → ys ≡ [] → xs ≡ xs ++ ys
append_nothing xs ys e = sym (append-nil xs) ∙ ap (λ (zs : List _). xs ++ zs) (sym e)

push_get : {X : Type 0} (xs : List X) (x : X) (i : ℕ) (z : X) → slice_get (xs ++ x ∷ []) i ≡ Some z → ((i ≡ length xs) × (x ≡ z)) ⊎ ((i < length xs) × (slice_get xs i ≡ Some z))
push_get [] x zero z e = inl (refl, cc)
push_get [] x (suc i) z e = absurd (cc)
push_get (y ∷ xs) x zero z e = inr (omega arith, e)
push_get (y ∷ xs) x (suc i) z e = elim (push_get xs x i z e) [ inl q ↦ inl (ap suc q.0, q.1) | inr q ↦ inr (omega (arith, q.0), q.1) ]

take_front : {X : Type 0} (xs ys : List X) (n : ℕ) → n ≤ length xs → take n (xs ++ ys) ≡ take n xs
take_front xs ys zero h = refl
take_front [] ys (suc n) h = absurd (omega arith)
take_front (x ∷ xs) ys (suc n) h = ap (λ (zs : List _). x ∷ zs) (take_front xs ys n (omega arith))

pub take_whole : {X : Type 0} (xs : List X) (n : ℕ) → length xs ≤ n → take n xs ≡ xs
take_whole [] zero h = refl
take_whole [] (suc n) h = refl
take_whole (x ∷ xs) zero h = absurd (omega arith)
take_whole (x ∷ xs) (suc n) h = ap (λ (zs : List _). x ∷ zs) (take_whole xs n (omega arith))

pub take_next : {X : Type 0} (xs : List X) (n : ℕ) (x : X) → slice_get xs n ≡ Some x → take n xs ++ x ∷ [] ≡ take (suc n) xs
take_next [] n x e = absurd (cc)
take_next (y ∷ xs) zero x e = let q : y ≡ x = cc in ap (λ (z : _). z ∷ []) (sym q)
take_next (y ∷ xs) (suc n) x e = ap (λ (zs : List _). y ∷ zs) (take_next xs n x e)

pub take_length : {X : Type 0} (xs : List X) (n : ℕ) → n ≤ length xs → length (take n xs) ≡ n
take_length xs zero h = refl
take_length [] (suc n) h = absurd (omega arith)
take_length (x ∷ xs) (suc n) h = ap suc (take_length xs n (omega arith))

flat_push : {X Y : Type 0} (f : X → List Y) (xs : List X) (x : X) → flat_map f (xs ++ x ∷ []) ≡ flat_map f xs ++ f x
flat_push f [] x = append-nil (f x)
flat_push f (y ∷ xs) x = ap (λ (zs : List _). f y ++ zs) (flat_push f xs x) ∙ sym (append_assoc (f y) (flat_map f xs) (f x))

map_push : {X Y : Type 0} (f : X → Y) (xs : List X) (x : X) → map f (xs ++ x ∷ []) ≡ map f xs ++ f x ∷ []
map_push f [] x = refl
map_push f (y ∷ xs) x = ap (λ (zs : List _). f y ∷ zs) (map_push f xs x)

pub map_length : {X Y : Type 0} (f : X → Y) (xs : List X) → length (map f xs) ≡ length xs
map_length f [] = refl
map_length f (x ∷ xs) = ap suc (map_length f xs)

-- ---- what a node hands on

-- the stayers of a split that was judged have raised levels
pub stayers_raised : (p : Problem) (s : Spot) (node : Node) (a : Scratch) (cert : Cert) (verdicts : List Verdict) (stay : List ℕ) (child column : ℕ) (v : ℤ) → node ≡ Split cert verdicts stay child column v → IsJudged p (place_of s) node a → IsWide p s → (k : ℕ) → list_any (nat_eq k) stay ≡ true → slice_index_or a.raised.items k None ≡ None → ⊥
stayers_raised p s node a cert verdicts stay child column v is judged wide k e none = by_level (slice_index_or (place_of s).levels k None) refl
  where
    own : IsJudgedSplit p (place_of s) cert verdicts stay column v a
    own = subst (λ (n : Node). IsJudged p (place_of s) n a) is judged

    live : is_some (slice_index_or (place_of s).levels k None) ≡ true
    live = all_at (is_live (place_of s).levels) stay own.live k e
      where
        all_at : (f : ℕ → Bool) (xs : List ℕ) → list_all f xs ≡ true → (k : ℕ) → list_any (nat_eq k) xs ≡ true → f k ≡ true
        all_at f [] h k g = absurd (cc)
        all_at f (x ∷ xs) h k g =
            let t = and_parts (f x) (list_all f xs) h in
            by_head (nat_eq k x) refl g t.0 (λ q. all_at f xs t.1 k q)
          where
            by_head : (b : Bool) → nat_eq k x ≡ b → b || list_any (nat_eq k) xs ≡ true → f x ≡ true → (list_any (nat_eq k) xs ≡ true → f k ≡ true) → f k ≡ true
            by_head true q g here more = let same : k ≡ x = grind (arith, nat_tests, q) in ap f same ∙ here
            by_head false q g here more = more g

    past : (ls : List (Option Level)) (k : ℕ) (l : Level) → slice_index_or ls k None ≡ Some l → k < length ls
    past [] k l q = absurd (cc)
    past (x ∷ ls) zero l q = omega arith
    past (x ∷ ls) (suc k) l q = let h : k < length ls = past ls k l q in omega arith

    by_level : (o : Option Level) → slice_index_or (place_of s).levels k None ≡ o → ⊥
    by_level None q = let w : false ≡ true = sym (ap (λ (o : Option Level). is_some o) q) ∙ live in absurd (cc)
    by_level (Some l) q =
        let long : k < length p.scenarios = omega (arith, past (place_of s).levels k l q, length_live s.live 0 s.levels, wide.levels) in
        let there = get_there p.scenarios k long in
        let r = raised_at (place_of s).box cert p.scenarios (place_of s).levels verdicts a.raised.items k there.0 l own.raised_to there.1 q in
        let w : None ≡ Some (greater_level l r.1) = sym none ∙ r.3 in absurd (cc)

module _ (p : Problem) (place : Place) (node : Node) (cert : Cert) (verdicts : List Verdict) (stay : List ℕ) (child column : ℕ) (v : ℤ) (is : node ≡ Split cert verdicts stay child column v) (low high : Place) (two : children p place cert verdicts stay column v ≡ Some (low, high)) where
  handed_is : (m : ℕ) → handed p m (node, place) ≡ handed_on m child (Some (low, high))
  handed_is m = ap (λ (n : Node). handed p m (n, place)) is ∙ ap (handed_on m child) two

  handed_none : (m : ℕ) → (m ≡ child → ⊥) → (m ≡ suc child → ⊥) → handed p m (node, place) ≡ []
  handed_none m h g = handed_is m ∙ (let e : nat_eq m child ≡ false = grind (arith, nat_tests, h) in let f : nat_eq m (suc child) ≡ false = grind (arith, nat_tests, g) in rw (e, f) refl)

  pub hands_on : (old : List Arrival) (a b c d : Arrival) → slice_get old child ≡ Some a → slice_get (slice_set old child b) (suc child) ≡ Some c → ((places : List Place) → StandsFor p a places → StandsFor p b (places ++ low ∷ [])) → ((places : List Place) → StandsFor p c places → StandsFor p d (places ++ high ∷ [])) → HandsOn p node place old (slice_set (slice_set old child b) (suc child) d)
  hands_on old a b c d first second f g = record {
    many = length-set (slice_set old child b) (suc child) d ∙ length-set old child b;
    each = λ m x y places e h stands. elim (set_get (slice_set old child b) (suc child) d m y h) [
      | inl q ↦ (
          let handed_high : handed p m (node, place) ≡ high ∷ [] = handed_is m ∙ ap (λ (n : ℕ). handed_on n child (Some (low, high))) q.0 ∙ handed-second child low high in
          let same : c ≡ x = elim (set_get old child b (suc child) c second) [ inl r ↦ absurd (omega (arith, r.0)) | inr r ↦ (let w : Some c ≡ Some x = sym r.1 ∙ ap (λ (n : ℕ). slice_get old n) (sym q.0) ∙ e in cc) ] in
          subst (λ (z : Arrival). StandsFor p z (places ++ handed p m (node, place))) q.1 (subst (λ (zs : List Place). StandsFor p d (places ++ zs)) (sym handed_high) (g places (subst (λ (z : Arrival). StandsFor p z places) (sym same) stands))))
      | inr q ↦ elim (set_get old child b m y q.1) [
        | inl r ↦ (
            let handed_low : handed p m (node, place) ≡ low ∷ [] = handed_is m ∙ ap (λ (n : ℕ). handed_on n child (Some (low, high))) r.0 ∙ handed-first child low high in
            let same : a ≡ x = (let w : Some a ≡ Some x = sym first ∙ ap (λ (n : ℕ). slice_get old n) (sym r.0) ∙ e in cc) in
            subst (λ (z : Arrival). StandsFor p z (places ++ handed p m (node, place))) r.1 (subst (λ (zs : List Place). StandsFor p b (places ++ zs)) (sym handed_low) (f places (subst (λ (z : Arrival). StandsFor p z places) (sym same) stands))))
        | inr r ↦ (
            let same : x ≡ y = (let w : Some x ≡ Some y = sym e ∙ r.1 in cc) in
            subst (λ (z : Arrival). StandsFor p z (places ++ handed p m (node, place))) same (subst (λ (zs : List Place). StandsFor p x zs) (append_nothing places (handed p m (node, place)) (handed_none m r.0 q.0)) stands))
      ]
    ];
  }

-- a node that is no split hands nothing on
pub hands_nothing : (p : Problem) (node : Node) (place : Place) (table : List Arrival) → ((m : ℕ) → handed p m (node, place) ≡ []) → HandsOn p node place table table
hands_nothing p node place table h = record {
  many = refl;
  each = λ m x y places e f stands.
      let same : x ≡ y = (let w : Some x ≡ Some y = sym e ∙ f in cc) in
      subst (λ (z : Arrival). StandsFor p z (places ++ handed p m (node, place))) same (subst (λ (zs : List Place). StandsFor p x zs) (append_nothing places (handed p m (node, place)) (h m)) stands);
}

pub two_is : (p : Problem) (s : Spot) (node : Node) (a : Scratch) (cert : Cert) (verdicts : List Verdict) (stay : List ℕ) (child column : ℕ) (v : ℤ) → node ≡ Split cert verdicts stay child column v → IsJudged p (place_of s) node a → children p (place_of s) cert verdicts stay column v ≡ Some (record { box = below_cut a.hull column v; levels = kept stay 0 a.raised.items }, record { box = above_cut a.hull column v; levels = kept stay 0 a.raised.items })
two_is p s node a cert verdicts stay child column v is judged =
    let own : IsJudgedSplit p (place_of s) cert verdicts stay column v a = subst (λ (n : Node). IsJudged p (place_of s) n a) is judged in
    ap (λ (o : Option Box). two_places stay column v o (raised (place_of s).box cert p.scenarios (place_of s).levels verdicts)) own.hull_is
    ∙ ap (λ (o : Option (List (Option Level))). two_places stay column v (Some a.hull) o) own.raised_to

pub children_below : (node : Node) (cert : Cert) (verdicts : List Verdict) (stay : List ℕ) (child column : ℕ) (v : ℤ) (count : ℕ) → node ≡ Split cert verdicts stay child column v → HasChildren node count → suc child < count
children_below node cert verdicts stay child column v count is h = subst (λ (n : Node). HasChildren n count) is h

-- a place by its parts
pub place_is : (box other : Box) (live : List ℕ) (levels : List Level) (ls : List (Option Level)) → box ≡ other → of_live live 0 levels ≡ ls → place_of (record { bounds = box; live = live; levels = levels }) ≡ record { box = other; levels = ls }
place_is box other live levels ls e f = rw (e, f) refl

-- the table before the first node, one node longer
pub begun_next : (p : Problem) (n m : ℕ) (table new : List Arrival) → IsBegun p n table → 0 < n → new ≡ table ++ Nothing ∷ [] → m ≡ n + 1 → IsBegun p m new
begun_next p n m table new h some e g = record {
  many = ap length e ∙ length_push table Nothing ∙ ap suc h.many ∙ omega (arith, g);
  waiting = λ k a f. elim (push_get table Nothing k a (subst (λ (t : List Arrival). slice_get t k ≡ Some a) e f)) [
    | inl q ↦ subst (λ (z : Arrival). StandsFor p z (arrivals p [] k)) q.1 (nothing k (omega (arith, q.0, h.many, some)))
    | inr q ↦ h.waiting k a q.1
  ];
}
  where
    length_push : (xs : List Arrival) (x : Arrival) → length (xs ++ x ∷ []) ≡ suc (length xs)
    length_push [] x = refl
    length_push (y ∷ xs) x = ap suc (length_push xs x)

    nothing : (k : ℕ) → 0 < k → arrivals p [] k ≡ []
    nothing zero l = absurd (omega arith)
    nothing (suc k) l = refl

-- the parts of a hull with the levels of children are wide
pub child_wide : (p : Problem) (s : Spot) (hull box : Box) (live : List ℕ) (levels : List Level) (j : ℕ) (i : Interval) → IsWide p s → length hull ≡ p.columns → box ≡ slice_set hull j i → length levels ≡ length s.levels → IsWide p (record { bounds = box; live = live; levels = levels })
child_wide p s hull box live levels j i wide long e f = record {
  columns = ap length e ∙ length-set hull j i ∙ long;
  levels = f ∙ wide.levels;
}

-- ---- one node more

arrivals_front : (p : Problem) (placed more : List (Node × Place)) (m : ℕ) → m ≤ length placed → arrivals p (placed ++ more) m ≡ arrivals p placed m
arrivals_front p placed more zero h = refl
arrivals_front p placed more (suc m) h = ap (flat_map (handed p (suc m))) (take_front placed more (suc m) h)

arrivals_push : (p : Problem) (placed : List (Node × Place)) (e : Node × Place) (m : ℕ) → length placed < m → arrivals p (placed ++ e ∷ []) m ≡ arrivals p placed m ++ handed p m e
arrivals_push p placed e zero h = absurd (omega arith)
arrivals_push p placed e (suc m) h =
    ap (flat_map (handed p (suc m))) (take_whole (placed ++ e ∷ []) (suc m) (omega (arith, h, pushed placed e)))
    ∙ flat_push (handed p (suc m)) placed e
    ∙ ap (λ (xs : List (Node × Place)). flat_map (handed p (suc m)) xs ++ handed p (suc m) e) (sym (take_whole placed (suc m) (omega (arith, h))))
  where
    pushed : (xs : List (Node × Place)) (x : Node × Place) → length (xs ++ x ∷ []) ≡ suc (length xs)
    pushed [] x = refl
    pushed (y ∷ xs) x = ap suc (pushed xs x)

get_last : {X : Type 0} (xs : List X) (x : X) → slice_get (xs ++ x ∷ []) (length xs) ≡ Some x
get_last [] x = refl
get_last (y ∷ xs) x = get_last xs x

get_before : {X : Type 0} (xs : List X) (x : X) (m : ℕ) → m < length xs → slice_get (xs ++ x ∷ []) m ≡ slice_get xs m
get_before [] x m h = absurd (omega arith)
get_before (y ∷ xs) x zero h = refl
get_before (y ∷ xs) x (suc m) h = get_before xs x m (omega arith)

pub walk_begun : (p : Problem) (answers : List Answer) (nodes : List Node) (table : List Arrival) → IsBegun p (length nodes) table → WalkSoFar p answers nodes 0 table None
walk_begun p answers nodes table h = record {
  placed = [];
  walked = record {
    before = refl;
    front = record { arrival = λ n node place e. absurd (cc); valid = λ n node place e. absurd (cc) };
    many = h.many;
    waiting = λ m a l e. h.waiting m a e;
  };
  below = λ m j l e a g. (let w : None ≡ Some (e.node, e.place) = e.here in absurd (cc));
}

module _ (p : Problem) (answers : List Answer) (nodes : List Node) (n : ℕ) (table : List Arrival) (first : Option (ℕ × ℕ)) (h : WalkSoFar p answers nodes n table first) (node : Node) (here : slice_get nodes n ≡ Some node) where
  placed_long : length h.placed ≡ n
  placed_long =
      let long : n < length nodes = get_below nodes n node here in
      sym (map_length (λ (e : Node × Place). e.0) h.placed) ∙ ap length h.walked.before ∙ take_length nodes n (omega (arith, long))

  -- node n isn't right, where it is valid at no place that is handed to it alone
  pub walk_wrong : (a : Arrival) → slice_get table n ≡ Some a → ((places : List Place) → StandsFor p a places → (place : Place) → places ≡ place ∷ [] → is_valid p (length nodes) n place node ≡ false) → IsFirstWrong p nodes n
  walk_wrong a e g = record {
    placed = h.placed;
    before = h.walked.before;
    front = h.walked.front;
    node = node;
    here = here;
    wrong = g (arrivals p h.placed n) (h.walked.waiting n a (omega arith) e);
  }

  module _ (s : Spot) (there : slice_get table n ≡ Some (One s)) (valid : is_valid p (length nodes) n (place_of s) node ≡ true) where
    abbrev e : Node × Place
    e = (node, place_of s)

    abbrev placed : List (Node × Place)
    placed = h.placed ++ e ∷ []

    arrived : arrivals p h.placed n ≡ place_of s ∷ []
    arrived = (h.walked.waiting n (One s) (omega arith) there).1

    front : IsFront p (length nodes) placed
    front = record {
      arrival = λ m node' place q. elim (push_get h.placed e m (node', place) q) [
        | inl r ↦ (
            let at : m ≡ n = r.0 ∙ placed_long in
            let same : place_of s ≡ place = (let w : e ≡ (node', place) = r.1 in ap (λ (z : Node × Place). z.1) w) in
            arrivals_front p h.placed (e ∷ []) m (omega (arith, r.0)) ∙ ap (arrivals p h.placed) at ∙ arrived ∙ ap (λ (z : Place). z ∷ []) same)
        | inr r ↦ arrivals_front p h.placed (e ∷ []) m (omega (arith, r.0)) ∙ h.walked.front.arrival m node' place r.1
      ];
      valid = λ m node' place q. elim (push_get h.placed e m (node', place) q) [
        | inl r ↦ (
            let at : n ≡ m = sym (r.0 ∙ placed_long) in
            let w : e ≡ (node', place) = r.1 in
            subst (λ (k : ℕ). is_valid p (length nodes) k place node' ≡ true) at (subst (λ (z : Node × Place). is_valid p (length nodes) n z.1 z.0 ≡ true) w valid))
        | inr r ↦ h.walked.front.valid m node' place r.1
      ];
    }

    earlier_end : (m j : ℕ) (l : Level) → IsEnd p h.placed m j l → IsEnd p placed m j l
    earlier_end m j l q = record {
      node = q.node;
      place = q.place;
      here = get_before h.placed e m (get_below h.placed m _ q.here) ∙ q.here;
      level = q.level;
    }

    end_of : (m j : ℕ) (l : Level) → IsEnd p placed m j l → ((m ≡ n) × (slice_index_or (end_levels p (place_of s) node) j None ≡ Some l)) ⊎ ((m < n) × IsEnd p h.placed m j l)
    end_of m j l q = elim (push_get h.placed e m (q.node, q.place) q.here) [
      | inl r ↦ inl (r.0 ∙ placed_long, (let w : e ≡ (q.node, q.place) = r.1 in ap (λ (z : Node × Place). slice_index_or (end_levels p z.1 z.0) j None) w ∙ q.level))
      | inr r ↦ inr (omega (arith, r.0, placed_long), record { node = q.node; place = q.place; here = r.1; level = q.level })
    ]

    new_end : (k : ℕ) (l : Level) → slice_index_or (end_levels p (place_of s) node) k None ≡ Some l → IsEnd p placed n k l
    new_end k l q = record {
      node = node;
      place = place_of s;
      here = ap (λ (m : ℕ). slice_get (h.placed ++ e ∷ []) m) (sym placed_long) ∙ get_last h.placed e;
      level = q;
    }

    remember : (short : Option ℕ) → IfSome short (IsFirstShort p answers (place_of s) node) → (short ≡ None → AreReached p answers (place_of s) node) → (o : Option (ℕ × ℕ)) → Remembers p answers h.placed o → Remembers p answers placed (earlier o n short)
    remember short some none (Some (m, k)) r = record {
      level = r.level;
      end = earlier_end m k r.level r.end;
      claim = r.claim;
      claimed = r.claimed;
      below = r.below;
      first = λ i j l b q. elim (end_of i j l q) [
        | inl t ↦ absurd (omega (arith, t.0, before_or b, below_n m k r.level r.end))
        | inr t ↦ r.first i j l b t.1
      ];
    }
      where
        before_or : {i j m k : ℕ} → ComesBefore i j m k → i ≤ m
        before_or (inl q) = omega (arith, q)
        before_or (inr q) = omega (arith, q.0)

        below_n : (m k : ℕ) (l : Level) → IsEnd p h.placed m k l → m < n
        below_n m k l q = omega (arith, get_below h.placed m _ q.here, placed_long)
    remember None some none None r = λ m j l q. elim (end_of m j l q) [ inl t ↦ none refl j l t.1 | inr t ↦ r m j l t.1 ]
    remember (Some k) some none None r = record {
      level = some.short.level;
      end = new_end k some.short.level some.short.is;
      claim = some.claim;
      claimed = some.claimed;
      below = some.short.below;
      first = λ i j l b q. elim (end_of i j l q) [
        | inl t ↦ elim b [ inl u ↦ absurd (omega (arith, u, t.0)) | inr u ↦ some.first j l u.1 t.1 ]
        | inr t ↦ r i j l t.1
      ];
    }

    pub walk_next : (taken : Arrival) (new : List Arrival) (short : Option ℕ) (next : Option (ℕ × ℕ)) (k : ℕ) → HandsOn p node (place_of s) (slice_set table n taken) new → IfSome short (IsFirstShort p answers (place_of s) node) → (short ≡ None → AreReached p answers (place_of s) node) → next ≡ earlier first n short → k ≡ n + 1 → WalkSoFar p answers nodes k new next
    walk_next taken new short next k hands some none is at = record {
      placed = placed;
      walked = record {
        before = map_push (λ (z : Node × Place). z.0) h.placed e ∙ ap (λ (xs : List Node). xs ++ node ∷ []) h.walked.before ∙ take_next nodes n node here ∙ (let up : suc n ≡ k = omega (arith, at) in ap (λ (i : ℕ). take i nodes) up);
        front = front;
        many = hands.many ∙ length-set table n taken ∙ h.walked.many;
        waiting = λ m b l f.
            let long : m < length table = omega (arith, get_below new m b f, hands.many, length-set table n taken) in
            let old = get_there table m long in
            let kept : slice_get (slice_set table n taken) m ≡ Some old.0 = set_other table n taken m (λ q. omega (arith, q, l, at)) ∙ old.1 in
            subst (λ (ps : List Place). StandsFor p b ps) (sym (arrivals_push p h.placed e m (omega (arith, placed_long, l, at)))) (hands.each m old.0 b (arrivals p h.placed m) kept f (h.walked.waiting m old.0 (omega (arith, l, at)) old.1));
      };
      below = subst (λ (o : Option (ℕ × ℕ)). Remembers p answers placed o) (sym is) (remember short some none first h.below);
    }
      where
        set_other : {X : Type 0} (xs : List X) (n : ℕ) (y : X) (i : ℕ) → (i ≡ n → ⊥) → slice_get (slice_set xs n y) i ≡ slice_get xs i
        set_other [] n y i q = refl
        set_other (x ∷ xs) zero y zero q = absurd (q refl)
        set_other (x ∷ xs) zero y (suc i) q = refl
        set_other (x ∷ xs) (suc n) y zero q = refl
        set_other (x ∷ xs) (suc n) y (suc i) q = set_other xs n y i (λ r. q (ap suc r))

pub walk_done : (p : Problem) (answers : List Answer) (nodes : List Node) (n : ℕ) (table : List Arrival) (first : Option (ℕ × ℕ)) → WalkSoFar p answers nodes n table first → length nodes ≤ n → 0 < length nodes → IsWalk p answers nodes first
walk_done p answers nodes n table first h l some = record {
  placed = h.placed;
  nodes_are = are;
  tree = record {
    some = omega (arith, some, long);
    right = λ m node place e. record {
      arrival = h.walked.front.arrival m node place e;
      valid = subst (λ (c : ℕ). is_valid p c m place node ≡ true) (sym long) (h.walked.front.valid m node place e);
    };
  };
  below = h.below;
}
  where
    are : map (λ (e : Node × Place). e.0) h.placed ≡ nodes
    are = h.walked.before ∙ take_whole nodes n l

    long : length h.placed ≡ length nodes
    long = sym (map_length (λ (e : Node × Place). e.0) h.placed) ∙ ap length are

-- what stands for no place, or for two and more, is no place alone
pub none_alone : (p : Problem) (places : List Place) (place : Place) → StandsFor p Nothing places → places ≡ place ∷ [] → ⊥
none_alone p places place h e = let w : [] ≡ place ∷ [] = sym h ∙ e in absurd (cc)

pub many_alone : (p : Problem) (places : List Place) (place : Place) → StandsFor p Many places → places ≡ place ∷ [] → ⊥
many_alone p places place h e = omega (arith, h, ap length e)

-- a slice that was handed on and back
pub handed_back : (len : ℕ) (new old : List Arrival) → length new ≡ length old → length old ≡ len → take len (new ++ drop (length new) old) ≡ new
handed_back len new old e f =
    ap (λ (xs : List Arrival). take len (new ++ xs)) (drop_all old (length new) (omega (arith, e)))
    ∙ ap (λ (xs : List Arrival). take len xs) (append-nil new)
    ∙ take_whole new len (omega (arith, e, f))
  where
    drop_all : (xs : List Arrival) (k : ℕ) → length xs ≤ k → drop k xs ≡ []
    drop_all [] zero l = refl
    drop_all [] (suc k) l = refl
    drop_all (x ∷ xs) zero l = absurd (omega arith)
    drop_all (x ∷ xs) (suc k) l = drop_all xs k (omega arith)

-- where the table has one place for the node, it is wide
pub wide_here : (p : Problem) (answers : List Answer) (nodes : List Node) (n : ℕ) (table : List Arrival) (first : Option (ℕ × ℕ)) → WalkSoFar p answers nodes n table first → (s : Spot) → slice_get table n ≡ Some (One s) → IsWide p s
wide_here p answers nodes n table first h s e = (h.walked.waiting n (One s) (omega arith) e).0

pub not_alone : (a : Arrival) → ((s : Spot) → a ≡ One s → ⊥) → (p : Problem) (places : List Place) (place : Place) → StandsFor p a places → places ≡ place ∷ [] → ⊥
not_alone Nothing h p places place g e = none_alone p places place g e
not_alone (One s) h p places place g e = h s refl
not_alone Many h p places place g e = many_alone p places place g e

-- what isn't valid at the one place that is kept is valid at no place alone
pub invalid_at : (p : Problem) (count n : ℕ) (node : Node) (s : Spot) (places : List Place) → StandsFor p (One s) places → (place : Place) → places ≡ place ∷ [] → is_valid p count n (place_of s) node ≡ false → is_valid p count n place node ≡ false
invalid_at p count n node s places st place e h =
    let both : place_of s ∷ [] ≡ place ∷ [] = sym st.1 ∙ e in
    let same : place_of s ≡ place = cc in
    subst (λ (z : Place). is_valid p count n z node ≡ false) same h
