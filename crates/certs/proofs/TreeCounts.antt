-- A tree over V points has at most 2V - 1 nodes.
use Rattle.std.specs.Prelude.{◌≡◌, ℕ, zero, suc, ◌+◌, ◌-◌, ◌*◌, ◌<◌, ◌≤◌, ℤ, ◌≤ℤ◌, ◌<ℤ◌, List, [], ◌∷◌, ◌++◌, length, take, slice_get, flat_map, Bool, true, false, cond, nat_eq, nat_lt, int_lt, int_le, Option, Some, None, is_some, map, refl, option_and_then, pos, negsuc, ◌+ℤ◌, ◌-ℤ◌}
use Rattle.std.specs.List.{list_all}
use Rattle.std.proofs.Common.{arith, ap, sym, ◌∙◌, subst}
use native.Mathlib.Decide.{dec_lt}
use Rattle.std.proofs.lemmas.Bool.{and_parts}
use Rattle.std.proofs.lemmas.Bool.Decides.{nat_tests}
use Rattle.std.proofs.lemmas.Int.{ints}
use Rattle.std.proofs.lemmas.List.{length-set, append-nil, append_assoc}
use Rattle.int_model.specs.Boxes.{Interval, Box, width, natural, volume, interval_at, below_cut, above_cut, hull_of}
use Rattle.int_model.specs.Programs.{Program}
use Rattle.scenario_changes.specs.Problems.{Problem, root_box}
use Rattle.tighten.specs.Replay.{replay}
use Rattle.certs.specs.Trees.{Place, root_place, raised, kept, stayer_box, stayer_boxes, hull_of_all, stayers_hull, two_places, children, handed, handed_on, arrivals, splits_inside, is_rising, is_live, cert_fits, is_valid, IsTree}
use Rattle.certs.specs.declared.cert.Cert.{Cert}
use Rattle.certs.specs.declared.tree.Node.{Node}
use Rattle.certs.specs.declared.tree.Node.TheVariants.{Rest, Leaf, Split}
use Rattle.certs.specs.declared.level.Level.{Level}
use Rattle.certs.proofs.TreeLaws.{AllWithin, option_and_then_is, both_boxes-are, stayer_box-is, is_some-is, slice_get-some, handed-first, handed-second, AllLength, length-hull_of, eight}
use Rattle.int_model.proofs.VolumeLaws.{HasPoints, volume-pos, volume-cut, below_cut-points, above_cut-points}
use Rattle.certs.proofs.BoxParts.{Inside, PartOf, AllParts, replay-part, hull_of-part, volume-le}

-- the hull of the stayers lies in the node's box and has points
stayer_boxes-parts : (p : Problem) → AllWithin p → (box : Box) → length box ≡ p.columns → (cert : Cert) (stay : List ℕ) (ts : List Box) → stayer_boxes p box cert stay ≡ Some ts → AllParts ts box
stayer_boxes-parts p limits box n cert [] ts e = let u : [] ≡ ts = cc in subst (λ (bs : List Box). AllParts bs box) u tt
stayer_boxes-parts p limits box n cert (k ∷ ks) ts e =
    let m = both_boxes-are (option_and_then (stayer_box p box cert) (slice_get p.scenarios k)) (stayer_boxes p box cert ks) ts e in
    let s = option_and_then_is (stayer_box p box cert) (slice_get p.scenarios k) m.0 m.2 in
    let r : replay s.0 cert.steps box ≡ Some m.0 = stayer_box-is p box cert s.0 m.0 s.2 in
    subst (λ (bs : List Box). AllParts bs box) m.4 (replay-part p.columns s.0 cert.steps box m.0 n (limits k s.0 s.1).shape.bounds r, stayer_boxes-parts p limits box n cert ks m.1 m.3)

pub stayers_hull-part : (p : Problem) → AllWithin p → (box : Box) → length box ≡ p.columns → (cert : Cert) (stay : List ℕ) (h : Box) → stayers_hull p box cert stay ≡ Some h → PartOf h box
stayers_hull-part p limits box n cert stay h e =
    let m = option_and_then_is hull_of_all (stayer_boxes p box cert stay) h e in
    by_boxes m.0 m.2 (stayer_boxes-parts p limits box n cert stay m.0 m.1)
  where
    by_boxes : (ts : List Box) → hull_of_all ts ≡ Some h → AllParts ts box → PartOf h box
    by_boxes [] q a = absurd (cc)
    by_boxes (b ∷ bs) q a = let w : hull_of b bs ≡ h = cc in subst (λ (z : Box). PartOf z box) w (hull_of-part b bs box a)

-- a place whose box has the columns and a point
pub record IsGood (columns : ℕ) (q : Place) : Type 0 where
  pub long : length q.box ≡ columns
  pub points : HasPoints q.box

abbrev AllGood : ℕ → List Place → Type 0
AllGood n [] = Unit {0}
AllGood n (q ∷ qs) = IsGood n q × AllGood n qs

AllGood-append : (n : ℕ) (qs rs : List Place) → AllGood n qs → AllGood n rs → AllGood n (qs ++ rs)
AllGood-append n [] rs h g = g
AllGood-append n (q ∷ qs) rs h g = (h.0, AllGood-append n qs rs h.1 g)

-- ---- weights

abbrev weight : Place → ℕ
weight q = 2 * volume q.box - 1

abbrev weights : List Place → ℕ
weights [] = 0
weights (q ∷ qs) = weight q + weights qs

weights-append : (qs rs : List Place) → weights (qs ++ rs) ≡ weights qs + weights rs
weights-append [] rs = omega arith
weights-append (q ∷ qs) rs = omega (arith, weights-append qs rs)

-- what is handed to the nodes m, m + 1, .. up to count of them
abbrev over : (ℕ → List Place) → ℕ → ℕ → ℕ
over f m zero = 0
over f m (suc count) = weights (f m) + over f (suc m) count

over-add : (f g : ℕ → List Place) (m count : ℕ) → over (λ k. f k ++ g k) m count ≡ over f m count + over g m count
over-add f g m zero = refl
over-add f g m (suc count) = omega (arith, weights-append (f m) (g m), over-add f g (suc m) count)

over-same : (f g : ℕ → List Place) (m count : ℕ) → ((k : ℕ) → f k ≡ g k) → over f m count ≡ over g m count
over-same f g m zero h = refl
over-same f g m (suc count) h = let e : weights (f m) ≡ weights (g m) = ap weights (h m) in omega (arith, e, over-same f g (suc m) count h)

over-none : (f : ℕ → List Place) (m count : ℕ) → ((k : ℕ) → m ≤ k → f k ≡ []) → over f m count ≡ 0
over-none f m zero h = refl
over-none f m (suc count) h = let e : weights (f m) ≡ 0 = ap weights (h m (omega arith)) in omega (arith, e, over-none f (suc m) count (λ k l. h k (omega arith)))

-- two places are handed on once each
handed-later : (k child : ℕ) (low high : Place) → suc child < k → handed_on k child (Some (low, high)) ≡ []
handed-later k child low high g =
    let a : nat_eq k child ≡ false = grind (arith, nat_tests) in
    let b : nat_eq k (suc child) ≡ false = grind (arith, nat_tests) in rw (a, b) refl

handed-earlier : (k child : ℕ) (low high : Place) → k < child → handed_on k child (Some (low, high)) ≡ []
handed-earlier k child low high g =
    let a : nat_eq k child ≡ false = grind (arith, nat_tests) in
    let b : nat_eq k (suc child) ≡ false = grind (arith, nat_tests) in rw (a, b) refl

over-one : (child : ℕ) (low high : Place) (m count : ℕ) → child < m → over (λ k. handed_on k child (Some (low, high))) m count ≤ weight high
over-one child low high m zero l = omega arith
over-one child low high m (suc count) l =
    let rest : over (λ k. handed_on k child (Some (low, high))) (suc m) count ≡ 0 = over-none (λ k. handed_on k child (Some (low, high))) (suc m) count (λ k g. handed-later k child low high (omega arith)) in
    by_cases (dec_lt (suc child) m) rest
  where
    by_cases : Dec (suc child < m) → over (λ k. handed_on k child (Some (low, high))) (suc m) count ≡ 0 → over (λ k. handed_on k child (Some (low, high))) m (suc count) ≤ weight high
    by_cases (yes g) r = let e : weights (handed_on m child (Some (low, high))) ≡ 0 = ap weights (handed-later m child low high g) in omega (arith, e, r)
    by_cases (no g) r =
        let same : m ≡ suc child = omega arith in
        let e : weights (handed_on m child (Some (low, high))) ≡ weights (high ∷ []) = ap weights (ap (λ (k : ℕ). handed_on k child (Some (low, high))) same ∙ handed-second child low high) in omega (arith, e, r)

over-two : (child : ℕ) (low high : Place) (m count : ℕ) → over (λ k. handed_on k child (Some (low, high))) m count ≤ weight low + weight high
over-two child low high m zero = omega arith
over-two child low high m (suc count) = by_cases (dec_lt m child) (dec_lt child m) (over-two child low high (suc m) count)
  where
    by_cases : Dec (m < child) → Dec (child < m) → over (λ k. handed_on k child (Some (low, high))) (suc m) count ≤ weight low + weight high → over (λ k. handed_on k child (Some (low, high))) m (suc count) ≤ weight low + weight high
    by_cases (yes g) d r = let e : weights (handed_on m child (Some (low, high))) ≡ 0 = ap weights (handed-earlier m child low high g) in omega (arith, e, r)
    by_cases (no f) (yes g) r = let t : over (λ k. handed_on k child (Some (low, high))) m (suc count) ≤ weight high = over-one child low high m (suc count) g in omega (arith, t)
    by_cases (no f) (no g) r =
        let same : m ≡ child = omega arith in
        let e : weights (handed_on m child (Some (low, high))) ≡ weights (low ∷ []) = ap weights (ap (λ (k : ℕ). handed_on k child (Some (low, high))) same ∙ handed-first child low high) in
        let t : over (λ k. handed_on k child (Some (low, high))) (suc m) count ≤ weight high = over-one child low high (suc m) count (omega arith) in
        omega (arith, e, t)

-- ---- what a node hands on

splits-facts : (o : Option Box) (j : ℕ) (v : ℤ) → splits_inside o j v ≡ true → (h : Box) × (o ≡ Some h) × ((interval_at h j).low ≤ℤ v) × (v <ℤ (interval_at h j).high)
splits-facts None j v e = absurd (cc)
splits-facts (Some h) j v e =
    let t = and_parts (int_le (interval_at h j).low v) (int_lt v (interval_at h j).high) e in
    (h, refl, omega (arith, ints, t.0), omega (arith, ints, t.1))

-- a node whose box has points hands on less than its own weight, and only boxes with points
record Handing (p : Problem) (node : Node) (q : Place) : Type 0 where
  total : (m count : ℕ) → over (λ k. handed p k (node, q)) m count + 1 ≤ weight q
  good : (k : ℕ) → AllGood p.columns (handed p k (node, q))

-- two places are handed on, if any
good_two : (n k child : ℕ) (low high : Place) → IsGood n low → IsGood n high → AllGood n (handed_on k child (Some (low, high)))
good_two n k child low high g h = by_test (nat_eq k child) (nat_eq k (suc child))
  where
    by_test : (a b : Bool) → AllGood n (cond a (low ∷ []) (cond b (high ∷ []) []))
    by_test true b = (g, tt)
    by_test false true = (h, tt)
    by_test false false = tt

pub Inside-length : (a b : Box) → Inside a b → length a ≡ length b
Inside-length [] [] h = refl
Inside-length [] (k ∷ b) h = absurd h
Inside-length (i ∷ a) [] h = absurd h
Inside-length (i ∷ a) (k ∷ b) h = ap suc (Inside-length a b h.1)

over-nothing : (m count : ℕ) → over (λ k. []) m count ≡ 0
over-nothing m zero = refl
over-nothing m (suc count) = omega (arith, over-nothing (suc m) count)

handing : (p : Problem) → AllWithin p → (count n : ℕ) (q : Place) (node : Node) → IsGood p.columns q → is_valid p count n q node ≡ true → Handing p node q
handing p limits count n q Rest g e = record { total = λ m c. (let v : 1 ≤ volume q.box = volume-pos q.box g.points in omega (arith, over-nothing m c)); good = λ k. tt }
handing p limits count n q (Leaf cert verdicts) g e = record { total = λ m c. (let v : 1 ≤ volume q.box = volume-pos q.box g.points in omega (arith, over-nothing m c)); good = λ k. tt }
handing p limits count n q (Split cert verdicts stay child column v) g e =
    let t = eight (cert_fits p cert) (is_some (raised q.box cert p.scenarios q.levels verdicts)) (is_rising stay) (list_all (is_live q.levels) stay) (nat_lt column p.columns) (splits_inside (stayers_hull p q.box cert stay) column v) (nat_lt n child) (nat_lt (suc child) count) e in
    let r = is_some-is (raised q.box cert p.scenarios q.levels verdicts) t.0 in
    let h = splits-facts (stayers_hull p q.box cert stay) column v t.2 in
    let below : column < p.columns = grind (arith, nat_tests, t.1) in
    by_hull h.0 h.1 h.2 h.3 r.0 r.1 below
  where
    by_hull : (h : Box) → stayers_hull p q.box cert stay ≡ Some h → (interval_at h column).low ≤ℤ v → v <ℤ (interval_at h column).high → (ls : List (Option Level)) → raised q.box cert p.scenarios q.levels verdicts ≡ Some ls → column < p.columns → Handing p (Split cert verdicts stay child column v) q
    by_hull h e a b ls f c =
        let part : PartOf h q.box = stayers_hull-part p limits q.box g.long cert stay h e in
        let long : length h ≡ p.columns = Inside-length h q.box part.inside ∙ g.long in
        let low : Place = record { box = below_cut h column v; levels = kept stay 0 ls } in
        let high : Place = record { box = above_cut h column v; levels = kept stay 0 ls } in
        let two : children p q cert verdicts stay column v ≡ Some (low, high) = ap (λ (o : Option Box). two_places stay column v o (raised q.box cert p.scenarios q.levels verdicts)) e ∙ ap (λ (o : Option (List (Option Level))). two_places stay column v (Some h) o) f in
        let good_low : IsGood p.columns low = record { long = length-set h column _ ∙ long; points = below_cut-points h column v part.points a b } in
        let good_high : IsGood p.columns high = record { long = length-set h column _ ∙ long; points = above_cut-points h column v part.points a b } in
        let volumes : volume (below_cut h column v) + volume (above_cut h column v) ≡ volume h = volume-cut h column v (omega arith) a b in
        let within : volume h ≤ volume q.box = volume-le h q.box part.inside in
        let one : 1 ≤ volume (below_cut h column v) = volume-pos (below_cut h column v) good_low.points in
        let other : 1 ≤ volume (above_cut h column v) = volume-pos (above_cut h column v) good_high.points in
        record {
          total = λ m count.
              (let s : over (λ k. handed_on k child (children p q cert verdicts stay column v)) m count ≡ over (λ k. handed_on k child (Some (low, high))) m count = over-same (λ k. handed_on k child (children p q cert verdicts stay column v)) (λ k. handed_on k child (Some (low, high))) m count (λ k. ap (handed_on k child) two) in
              let t : over (λ k. handed_on k child (Some (low, high))) m count ≤ weight low + weight high = over-two child low high m count in
              omega (arith, s, t, volumes, within, one, other));
          good = λ k. subst (λ (o : Option (Place × Place)). AllGood p.columns (handed_on k child o)) (sym two) (good_two p.columns k child low high good_low good_high);
        }

-- ---- along the nodes

flat_map-good : (n : ℕ) (f : Node × Place → List Place) (es : List (Node × Place)) → ((i : ℕ) (e : Node × Place) → slice_get es i ≡ Some e → AllGood n (f e)) → AllGood n (flat_map f es)
flat_map-good n f [] h = tt
flat_map-good n f (e ∷ es) h = AllGood-append n (f e) (flat_map f es) (h 0 e refl) (flat_map-good n f es (λ i z g. h (suc i) z g))

pub take-get : {X : Type 0} (xs : List X) (m i : ℕ) (x : X) → slice_get (take m xs) i ≡ Some x → (slice_get xs i ≡ Some x) × (i < m)
take-get xs zero i x e = absurd (cc)
take-get [] (suc m) i x e = absurd (cc)
take-get (y ∷ xs) (suc m) zero x e = (e, omega arith)
take-get (y ∷ xs) (suc m) (suc i) x e = let t = take-get xs m i x e in (t.0, omega (arith, t.1))

take-next : {X : Type 0} (xs : List X) (m : ℕ) (x : X) → slice_get xs m ≡ Some x → take (suc m) xs ≡ take m xs ++ x ∷ []
take-next [] m x e = absurd (cc)
take-next (y ∷ xs) zero x e = let u : y ≡ x = cc in ap (λ z. z ∷ []) u
take-next (y ∷ xs) (suc m) x e = ap (λ zs. y ∷ zs) (take-next xs m x e)

flat_map-next : {X Y : Type 0} (f : X → List Y) (xs : List X) (x : X) → flat_map f (xs ++ x ∷ []) ≡ flat_map f xs ++ f x
flat_map-next f [] x = append-nil (f x)
flat_map-next f (y ∷ xs) x = ap (λ zs. f y ++ zs) (flat_map-next f xs x) ∙ sym (append_assoc (f y) (flat_map f xs) (f x))

module _ (p : Problem) (limits : AllWithin p) (placed : List (Node × Place)) (tree : IsTree p placed) (root : IsGood p.columns (root_place p)) where
  pub all_good : (d i : ℕ) → i < d → (node : Node) (q : Place) → slice_get placed i ≡ Some (node, q) → IsGood p.columns q
  all_good zero i l node q e = absurd (omega arith)
  all_good (suc d) i l node q e = by_number i l (tree.right i node q e).arrival (λ k m n z g. all_good d k (omega arith) n z g)
    where
      by_number : (i : ℕ) → i < suc d → arrivals p placed i ≡ q ∷ [] → ((k : ℕ) → k < i → (n : Node) (z : Place) → slice_get placed k ≡ Some (n, z) → IsGood p.columns z) → IsGood p.columns q
      by_number zero l a h = let u : root_place p ≡ q = cc in subst (λ (z : Place). IsGood p.columns z) u root
      by_number (suc i) l a h =
          let s : AllGood p.columns (flat_map (handed p (suc i)) (take (suc i) placed)) = flat_map-good p.columns (handed p (suc i)) (take (suc i) placed) (λ k e g. (let t = take-get placed (suc i) k e g in (handing p limits (length placed) k e.1 e.0 (h k t.1 e.0 e.1 t.0) (tree.right k e.0 e.1 t.0).valid).good (suc i))) in
          (subst (λ (qs : List Place). AllGood p.columns qs) a s).0

  hands : (i : ℕ) (node : Node) (q : Place) → slice_get placed i ≡ Some (node, q) → Handing p node q
  hands i node q e = handing p limits (length placed) i q node (all_good (suc i) i (omega arith) node q e) (tree.right i node q e).valid

  -- what the nodes before i hand to those from i on
  pending : ℕ → ℕ → ℕ
  pending i count = over (λ k. flat_map (handed p k) (take i placed)) i count

  pending_next : (i m count : ℕ) (node : Node) (q : Place) → slice_get placed i ≡ Some (node, q) → over (λ k. flat_map (handed p k) (take (suc i) placed)) m count ≡ over (λ k. flat_map (handed p k) (take i placed)) m count + over (λ k. handed p k (node, q)) m count
  pending_next i m count node q e =
      over-same (λ k. flat_map (handed p k) (take (suc i) placed)) (λ k. flat_map (handed p k) (take i placed) ++ handed p k (node, q)) m count (λ k. ap (flat_map (handed p k)) (take-next placed i (node, q) e) ∙ flat_map-next (handed p k) (take i placed) (node, q))
      ∙ over-add (λ k. flat_map (handed p k) (take i placed)) (λ k. handed p k (node, q)) m count

  -- the numbers so far and what is pending never exceed the root's weight
  bounded : (i count : ℕ) → suc i + count ≡ length placed → suc i + over (λ k. flat_map (handed p k) (take (suc i) placed)) (suc i) count ≤ weight (root_place p)
  bounded zero count e =
      let a = slice_get-some placed 0 tree.some in
      let first : root_place p ∷ [] ≡ a.0.1 ∷ [] = (tree.right 0 a.0.0 a.0.1 a.1).arrival in
      let same : a.0.1 ≡ root_place p = cc in
      let w : weight a.0.1 ≡ weight (root_place p) = ap weight same in
      let t = (hands 0 a.0.0 a.0.1 a.1).total 1 count in
      let n = pending_next 0 1 count a.0.0 a.0.1 a.1 in
      omega (arith, t, n, w, over-nothing 1 count)
  bounded (suc i) count e =
      let a = slice_get-some placed (suc i) (omega (arith, e)) in
      let own : flat_map (handed p (suc i)) (take (suc i) placed) ≡ a.0.1 ∷ [] = (tree.right (suc i) a.0.0 a.0.1 a.1).arrival in
      let w : weights (flat_map (handed p (suc i)) (take (suc i) placed)) ≡ weight a.0.1 + 0 = ap weights own in
      let t = (hands (suc i) a.0.0 a.0.1 a.1).total (suc (suc i)) count in
      let n = pending_next (suc i) (suc (suc i)) count a.0.0 a.0.1 a.1 in
      let before = bounded i (suc count) (omega (arith, e)) in
      omega (arith, before, w, t, n)

  pub few_nodes : length placed ≤ weight (root_place p)
  few_nodes =
      let n : suc (length placed - 1) + 0 ≡ length placed = omega (arith, tree.some) in
      let b = bounded (length placed - 1) 0 n in
      omega (arith, b, n)

-- ---- the root

points-from : (box : Box) → 1 ≤ volume box → HasPoints box
points-from [] h = tt
points-from (i ∷ box) h = (wide i (pos_left (width i) (volume box) h), points-from box (pos_right (width i) (volume box) h))
  where
    pos_left : (a b : ℕ) → 1 ≤ a * b → 1 ≤ a
    pos_left zero b g = absurd (omega arith)
    pos_left (suc a) b g = omega arith

    pos_right : (a b : ℕ) → 1 ≤ a * b → 1 ≤ b
    pos_right a zero g = absurd (omega arith)
    pos_right a (suc b) g = omega arith

    wide : (i : Interval) → 1 ≤ width i → i.low ≤ℤ i.high
    wide i g = by_sign (i.high +ℤ pos 1 -ℤ i.low) refl g
      where
        by_sign : (z : ℤ) → i.high +ℤ pos 1 -ℤ i.low ≡ z → 1 ≤ natural z → i.low ≤ℤ i.high
        by_sign (pos n) e g = omega (arith, ints, e, g)
        by_sign (negsuc n) e g = absurd (omega arith)

bounds-long : (n : ℕ) (ss : List Program) → ((k : ℕ) (s : Program) → slice_get ss k ≡ Some s → length s.bounds ≡ n) → AllLength n (map (λ (s : Program). s.bounds) ss)
bounds-long n [] h = tt
bounds-long n (s ∷ ss) h = (h 0 s refl, bounds-long n ss (λ k t e. h (suc k) t e))

root-long : (n : ℕ) (ss : List Program) → 0 < length ss → ((k : ℕ) (s : Program) → slice_get ss k ≡ Some s → length s.bounds ≡ n) → length (root_box ss) ≡ n
root-long n [] l h = absurd (omega arith)
root-long n (s ∷ ss) l h = length-hull_of n s.bounds (map (λ (t : Program). t.bounds) ss) (bounds-long n (s ∷ ss) h)

pub tree-length : (p : Problem) → AllWithin p → 0 < length p.scenarios → (placed : List (Node × Place)) → IsTree p placed → 1 ≤ volume (root_box p.scenarios) → length placed ≤ 2 * volume (root_box p.scenarios) - 1
tree-length p limits some placed tree v =
    few_nodes p limits placed tree (record { long = root-long p.columns p.scenarios some (λ k s e. (limits k s e).shape.bounds); points = points-from (root_box p.scenarios) v })

-- ---- a tree with a split

-- what a split hands on comes from a hull
hull-there : (n child : ℕ) (stay : List ℕ) (column : ℕ) (v : ℤ) (o : Option Box) (ls : Option (List (Option Level))) (q : Place) → handed_on n child (two_places stay column v o ls) ≡ q ∷ [] → (h : Box) × (o ≡ Some h)
hull-there n child stay column v None ls q e = absurd (cc)
hull-there n child stay column v (Some h) ls q e = (h, refl)

handing-points : (p : Problem) → AllWithin p → (n : ℕ) (node : Node) (q place : Place) → length q.box ≡ p.columns → handed p n (node, q) ≡ place ∷ [] → 1 ≤ volume q.box
handing-points p limits n Rest q place long e = absurd (cc)
handing-points p limits n (Leaf cert verdicts) q place long e = absurd (cc)
handing-points p limits n (Split cert verdicts stay child column v) q place long e =
    let h = hull-there n child stay column v (stayers_hull p q.box cert stay) (raised q.box cert p.scenarios q.levels verdicts) place e in
    let part : PartOf h.0 q.box = stayers_hull-part p limits q.box long cert stay h.0 h.1 in
    omega (arith, volume-pos h.0 part.points, volume-le h.0 q.box part.inside)

pub tree-points : (p : Problem) → AllWithin p → 0 < length p.scenarios → (placed : List (Node × Place)) → IsTree p placed → 2 ≤ length placed → 1 ≤ volume (root_box p.scenarios)
tree-points p limits some placed tree two =
    let a = slice_get-some placed 0 (omega (arith, two)) in
    let b = slice_get-some placed 1 (omega (arith, two)) in
    let first : root_place p ∷ [] ≡ a.0.1 ∷ [] = (tree.right 0 a.0.0 a.0.1 a.1).arrival in
    let same : a.0.1 ≡ root_place p = cc in
    let second : flat_map (handed p 1) (take 1 placed) ≡ b.0.1 ∷ [] = (tree.right 1 b.0.0 b.0.1 b.1).arrival in
    let one : take 1 placed ≡ (a.0.0, a.0.1) ∷ [] = take-next placed 0 a.0 a.1 in
    let own : handed p 1 (a.0.0, a.0.1) ≡ b.0.1 ∷ [] = sym (append-nil (handed p 1 (a.0.0, a.0.1))) ∙ (sym (ap (flat_map (handed p 1)) one) ∙ second) in
    handing-points p limits 1 a.0.0 (root_place p) b.0.1 (root-long p.columns p.scenarios some (λ k s e. (limits k s e).shape.bounds)) (subst (λ (z : Place). handed p 1 (a.0.0, z) ≡ b.0.1 ∷ []) same own)
